-- Lists of events, one after another, and the words of the laws on them.
use Rattle.std.specs.Prelude.{◌≡◌, ℕ, ◌+◌, ◌-◌, ◌≤◌, nat_le, Bool, ◌||◌, true, false, IsTrue, List, [], ◌∷◌, ◌++◌, Option, Some, None, slice_get}
use Rattle.std.specs.List.{filter_map}
use Rattle.sipl_choice.specs.declared.endpoint.Endpoint.{Endpoint}
use Rattle.sipl_tx.specs.Transaction.{Transaction, first_state}
use Rattle.sipl_failover.specs.declared.step.Step.{Step}
use Rattle.sipl_failover.specs.declared.step.Step.TheVariants.{Send, Ack, Hold, Deliver, Exhausted}
use Rattle.sipl_failover.specs.declared.fault.FailoverFault.{FailoverFault}
use Rattle.sipl_failover.specs.FailoverRun.{FailoverRun, Event, has_ended}
use Rattle.sipl_failover.specs.FailoverRun.Event.{Received, TransportFailed, Ticked}
use Rattle.sipl_failover.specs.Rules.{Outcome, refusal_of, after, is_running}

-- a refused event changes nothing, and there are no steps
abbrev pub outcome_unless_refused : Option FailoverFault → FailoverRun → Event → Outcome
outcome_unless_refused (Some fault) run event = record { run = run; steps = [] }
outcome_unless_refused None run event = after run event

-- the outcome of one event
unfoldable pub step : FailoverRun → Event → Outcome
step run event = outcome_unless_refused (refusal_of run event) run event

-- the run after these events
unfoldable pub run_after : FailoverRun → List Event → FailoverRun
run_after run [] = run
run_after run (event ∷ events) = run_after (step run event).run events

-- the steps at these events, one after another
unfoldable pub steps_of : FailoverRun → List Event → List Step
steps_of run [] = []
steps_of run (event ∷ events) = (step run event).steps ++ steps_of (step run event).run events

-- a tick at this time is a timeout of a transaction that has had no response: timer B or F, 32,000
-- ms after its start (RFC 3261, 17.1.1.2 and 17.1.2.2)
pub record TimesOutUnanswered (t : Transaction) (moment : ℕ) : Type 0 where
  pub no_response : t.state ≡ first_state t.kind
  pub in_order : t.moment ≤ moment
  pub late : t.since + 32000 ≤ moment

-- the event is a failure of the running attempt (RFC 3263, 4.3): a 503, an error of its transport,
-- or a timeout without any response
abbrev pub IsFailure : FailoverRun → Event → Type 0
IsFailure run (Received attempt code retry_after) = IsTrue (is_running run attempt) × (code ≡ 503)
IsFailure run TransportFailed = has_ended run ≡ false
IsFailure run (Ticked moment) = TimesOutUnanswered run.transaction moment

-- the request is sent to another target
abbrev pub is_send : Step → Bool
is_send (Send attempt) = true
is_send _ = false

-- an endpoint is held
abbrev pub is_hold : Step → Bool
is_hold (Hold endpoint ms) = true
is_hold _ = false

-- all targets have failed
abbrev pub is_exhausted : Step → Bool
is_exhausted Exhausted = true
is_exhausted _ = false

-- a final response goes to the user
abbrev pub is_final : Step → Bool
is_final (Deliver code) = nat_le 200 code
is_final _ = false

-- what the user gets where no target is left: a final response, and that all targets have failed
abbrev pub is_final_or_exhausted : Step → Bool
is_final_or_exhausted step = is_final step || is_exhausted step

-- the step is an ACK
abbrev pub IsAck : Step → Type 0
IsAck (Ack attempt) = Unit {0}
IsAck _ = ⊥

-- the target that a step contacts first
abbrev pub contacted_target : List Endpoint → Step → Option Endpoint
contacted_target targets (Send attempt) = slice_get targets (attempt - 1)
contacted_target targets _ = None

-- the targets that these steps contact, in order
abbrev pub contacted : List Endpoint → List Step → List Endpoint
contacted targets steps = filter_map (contacted_target targets) steps

-- the status code of a failure that leaves no target: 408 after a timeout, 500 after the others
abbrev pub failure_code : Event → ℕ
failure_code (Received attempt code retry_after) = 500
failure_code TransportFailed = 500
failure_code (Ticked moment) = 408
