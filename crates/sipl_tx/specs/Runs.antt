-- Lists of events, one after another.
use Rattle.std.specs.Prelude.{◌≡◌, ℕ, zero, suc, ◌+◌, ◌≤◌, ◌<◌, nat_le, Bool, true, false, List, [], ◌∷◌, map, Option, Some, None, if◌then◌else◌}
use Rattle.sipl_tx.specs.declared.parts.Report.{Report}
use Rattle.sipl_tx.specs.declared.parts.Report.TheVariants.{Timeout, Broken}
use Rattle.sipl_tx.specs.declared.parts.Acts.{Acts}
use Rattle.sipl_tx.specs.declared.fault.TxFault.{TxFault}
use Rattle.sipl_tx.specs.Table.{no_acts}
use Rattle.sipl_tx.specs.Transaction.{Transaction, Event}
use Rattle.sipl_tx.specs.Transaction.Event.{Response, TransportError, Tick}
use Rattle.sipl_tx.specs.Machine.{Outcome, refusal_of, after}

-- a refused event changes nothing, and nothing is to be done
abbrev pub outcome_unless_refused : Option TxFault → Transaction → Event → Outcome
outcome_unless_refused (Some fault) t event = record { transaction = t; acts = no_acts }
outcome_unless_refused None t event = after t event

-- the outcome of one event
unfoldable pub step : Transaction → Event → Outcome
step t event = outcome_unless_refused (refusal_of t event) t event

-- the transaction after these events
unfoldable pub run : Transaction → List Event → Transaction
run t [] = t
run t (event ∷ events) = run (step t event).transaction events

-- what is to be done at each of these events
unfoldable pub acts_of : Transaction → List Event → List Acts
acts_of t [] = []
acts_of t (event ∷ events) = (step t event).acts ∷ acts_of (step t event).transaction events

-- the times at which the acts pass the test
unfoldable pub moments_of : (Acts → Bool) → Transaction → List Event → List ℕ
moments_of test t [] = []
moments_of test t (event ∷ events) =
    if test (step t event).acts
    then (step t event).transaction.moment ∷ moments_of test (step t event).transaction events
    else moments_of test (step t event).transaction events

-- the request is to be sent
abbrev pub sends_request : Acts → Bool
sends_request acts = acts.send

-- this call ended the transaction
abbrev pub ends_transaction : Acts → Bool
ends_transaction acts = acts.ended

-- the report is of a timeout
abbrev pub is_timeout : Option Report → Bool
is_timeout None = false
is_timeout (Some Timeout) = true
is_timeout (Some Broken) = false

-- the transaction user gets the report of a timeout
abbrev pub reports_timeout : Acts → Bool
reports_timeout acts = is_timeout acts.report

-- the status code is of a final response: 200 or more
abbrev pub is_final : Option ℕ → Bool
is_final None = false
is_final (Some code) = nat_le 200 code

-- a final response goes to the transaction user
abbrev pub delivers_final : Acts → Bool
delivers_final acts = is_final acts.deliver

-- the event is a response of 300 to 699
abbrev pub IsFailure : Event → Type 0
IsFailure (Response code) = (300 ≤ code) × (code ≤ 699)
IsFailure TransportError = ⊥
IsFailure (Tick moment) = ⊥

-- the code, if there is one, and then these
abbrev pub with_code : Option ℕ → List ℕ → List ℕ
with_code None codes = codes
with_code (Some code) codes = code ∷ codes

-- the status codes that go to the transaction user, in order
unfoldable pub deliveries_of : Transaction → List Event → List ℕ
deliveries_of t [] = []
deliveries_of t (event ∷ events) =
    with_code (step t event).acts.deliver (deliveries_of (step t event).transaction events)

-- the event is a tick
abbrev pub IsTick : Event → Type 0
IsTick (Response code) = ⊥
IsTick TransportError = ⊥
IsTick (Tick moment) = Unit {0}

-- the event is a response, or a tick before this time
abbrev pub IsBefore : ℕ → Event → Type 0
IsBefore end (Response code) = Unit {0}
IsBefore end TransportError = ⊥
IsBefore end (Tick moment) = moment < end

-- the first time is at least so much after this one, and each other one after the one before it
abbrev pub AreApart : ℕ → ℕ → List ℕ → Type 0
AreApart gap moment [] = Unit {0}
AreApart gap moment (next ∷ moments) = (moment + gap ≤ next) × AreApart gap next moments

-- no status code follows a final one
abbrev pub EndsAtFinal : List ℕ → Type 0
EndsAtFinal [] = Unit {0}
EndsAtFinal (code ∷ codes) = (200 ≤ code → codes ≡ []) × EndsAtFinal codes

-- a tick at each of so many milliseconds after this time
unfoldable pub every_millisecond : ℕ → ℕ → List Event
every_millisecond moment zero = []
every_millisecond moment (suc more) = Tick (moment + 1) ∷ every_millisecond (moment + 1) more

-- the times so many milliseconds after this one
abbrev pub moments_after : ℕ → List ℕ → List ℕ
moments_after start milliseconds = map (λ ms. start + ms) milliseconds
