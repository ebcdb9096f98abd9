-- What `call`, `got`, `broke` and `clock` do with a session's call, and their replies.
use Rattle.std.specs.Prelude.{◌≡◌, ℕ, ◌-◌, Bool, false, not, List, [], ◌∷◌, ◌++◌, take, Option, None, Some, Result, Ok, Err, codes, slice_get, if◌then◌else◌}
use Rattle.std.specs.Bool.{OnTrue, OnFalse}
use Rattle.std.specs.List.{flat_map}
use Rattle.std.specs.Option.{option_map_or}
use Rattle.sipl_names.specs.Labels.{Octets}
use Rattle.sipl_records.specs.Addresses.{text_of_address}
use Rattle.sipl_choice.specs.Transports.{transport_text}
use Rattle.sipl_choice.specs.declared.endpoint.Endpoint.{Endpoint}
use Rattle.sipl_srv.specs.DrawsFault.{code_of as draws_code}
use Rattle.sipl_srv.specs.declared.fault.DrawsFault.{DrawsFault}
use Rattle.sipl_uri.specs.UriFault.{code_of as uri_code}
use Rattle.sipl_uri.specs.declared.fault.UriFault.{UriFault}
use Rattle.sipl_uri.specs.declared.question.Question.{Question}
use Rattle.sipl_outages.specs.Holds.BoardEvent.{Hold as HoldFor, Advance}
use Rattle.sipl_plans.specs.declared.answer.Answer.{Answer}
use Rattle.sipl_plans.specs.declared.answer.Answer.TheVariants.{Targets, None as NoTarget}
use Rattle.sipl_tx.specs.declared.parts.Kind.{Kind}
use Rattle.sipl_failover.specs.Branch.{branch_of}
use Rattle.sipl_failover.specs.FailoverFault.{code_of as failover_code}
use Rattle.sipl_failover.specs.FailoverRun.{FailoverRun, Event, new_run, has_ended}
use Rattle.sipl_failover.specs.FailoverRun.Event.{Ticked}
use Rattle.sipl_failover.specs.Rules.{after as after_event, refusal_of, running_attempt, was_sent}
use Rattle.sipl_failover.specs.declared.fault.FailoverFault.{FailoverFault}
use Rattle.sipl_failover.specs.declared.fault.FailoverFault.TheVariants.{NoTargets}
use Rattle.sipl_failover.specs.declared.step.Step.{Step}
use Rattle.sipl_failover.specs.declared.step.Step.TheVariants.{Send, Resend, Ack, Hold, Deliver, Exhausted}
use Rattle.sipl_book.specs.declared.outcome.Handed.{Handed}
use Rattle.sipl_lines.specs.Commands.{Keeps, Refuses, MovesTo, CallAct, hear, set_clock, open_call}
use Rattle.sipl_lines.specs.Desk.{DeskRules}
use Rattle.sipl_lines.specs.ReplyText.{answer_text, counts_line, number_field, word_field}
use Rattle.sipl_lines.specs.Requests.{ok_words}
use Rattle.sipl_lines.specs.declared.command.CommandWord.TheVariants as command

-- a desk, and the last call that was made there
pub record CallDesk (D : Type 0) : Type 0 where
  pub desk : D
  pub call : Option FailoverRun

-- a desk and a call
abbrev pub with_call : {D : Type 0} → D → Option FailoverRun → CallDesk D
with_call desk call = record { desk = desk; call = call }

-- ---- the lines of steps

-- the target of an attempt, if it was sent
abbrev pub sent_target : FailoverRun → ℕ → Option Endpoint
sent_target run attempt = if was_sent run attempt then slice_get run.targets (attempt - 1) else None

-- a transport, an address and a port, each with a space before it
abbrev pub endpoint_fields : Endpoint → Octets
endpoint_fields endpoint =
    word_field (transport_text endpoint.transport) ++ word_field (text_of_address endpoint.address)
    ++ number_field endpoint.port

-- the line that says where an attempt is sent, and its branch
abbrev pub send_line : ℕ → ℕ → Endpoint → Octets
send_line base attempt target =
    codes "send" ++ number_field attempt ++ endpoint_fields target
    ++ word_field (branch_of base attempt) ++ 10 ∷ []

-- the line that says which endpoint is held, and for how many milliseconds
abbrev pub hold_line : Endpoint → ℕ → Octets
hold_line endpoint ms = codes "hold" ++ endpoint_fields endpoint ++ number_field ms ++ 10 ∷ []

-- the line of a step of a run
abbrev pub step_line : FailoverRun → Step → Octets
step_line run (Send attempt) =
    option_map_or (λ target. send_line run.base attempt target) (sent_target run attempt) []
step_line run Resend =
    option_map_or (λ attempt. counts_line (codes "resend") (attempt ∷ [])) (running_attempt run) []
step_line run (Ack attempt) = counts_line (codes "ack") (attempt ∷ [])
step_line run (Hold endpoint ms) = hold_line endpoint ms
step_line run (Deliver code) = counts_line (codes "deliver") (code ∷ [])
step_line run Exhausted = counts_line (codes "exhausted") []

-- the lines of the steps of a run, in their order
abbrev pub steps_text : FailoverRun → List Step → Octets
steps_text run steps = flat_map (step_line run) steps

-- ---- what is done with the steps

-- the hold among the steps of an event, of which there is at most one
abbrev pub hold_in : List Step → Option (Endpoint × ℕ)
hold_in [] = None
hold_in (Hold endpoint ms ∷ steps) = Some (endpoint, ms)
hold_in (_ ∷ steps) = hold_in steps

-- an endpoint is held at the desk, if there is a hold; the last line is the reply, or why the hold
-- was refused
abbrev pub MakesHold : {D F : Type 0} → DeskRules D F → Octets → Option (Endpoint × ℕ) → D → Octets → D
    → Type 0
MakesHold rules reply None before text after = Keeps reply before text after
MakesHold rules reply (Some hold) before text after =
    MovesTo rules reply (HoldFor hold.0 hold.1) before text after

-- the steps of a run are reported, with the hold among them made, and then comes the last line
abbrev pub Reports : {D F : Type 0} → DeskRules D F → Octets → FailoverRun → List Step → D → Octets → D
    → Type 0
Reports rules reply run steps before text after =
    (last : Octets) × MakesHold rules reply (hold_in steps) before last after
    × (text ≡ steps_text run steps ++ last)

-- an event of a run, which may be refused: else the run goes on, and its steps are reported
abbrev pub GoesOn : {D F : Type 0} → DeskRules D F → Octets → FailoverRun → Event → Option FailoverFault
    → CallDesk D → Octets → CallDesk D → Type 0
GoesOn rules reply run event (Some fault) before text after =
    Refuses (failover_code fault) before text after
GoesOn rules reply run event None before text after =
    Reports rules reply (after_event run event).run (after_event run event).steps
    before.desk text after.desk × (after.call ≡ Some (after_event run event).run)

-- ---- the commands

-- an event is reported to a call, which may have ended
abbrev pub Hears : {D F : Type 0} → DeskRules D F → Octets → Event → Option FailoverRun → CallDesk D
    → Octets → CallDesk D → Type 0
Hears rules reply event None before text after = Refuses (codes "K3") before text after
Hears rules reply event (Some run) before text after =
    GoesOn rules reply run event (refusal_of run event) before text after

-- `got` and `broke`
abbrev pub HearsOf : {D F : Type 0} → DeskRules D F → Octets → Event → CallDesk D → Octets → CallDesk D
    → Type 0
HearsOf rules words event before text after =
    Hears rules (counts_line words []) event before.call before text after

-- a call that has not ended gets the time, before the reply
abbrev pub Ticks : {D F : Type 0} → DeskRules D F → Octets → ℕ → Option FailoverRun → CallDesk D → Octets
    → CallDesk D → Type 0
Ticks rules reply ms None before text after = Keeps reply before text after
Ticks rules reply ms (Some run) before text after =
    OnTrue (has_ended run) (Keeps reply before text after)
    × OnFalse (has_ended run)
    (GoesOn rules reply run (Ticked ms) (refusal_of run (Ticked ms)) before text after)

-- once the clock is set a call gets the time; if that was refused, nothing else happens
abbrev pub TellsTime : {D F : Type 0} → DeskRules D F → ℕ → Result ℕ F → CallDesk D → Octets
    → CallDesk D → Type 0
TellsTime rules ms (Err fault) before text after =
    Refuses (rules.fault_text fault) before text after
TellsTime rules ms (Ok number) before text after =
    Ticks rules (counts_line (ok_words command.Clock) (ms ∷ [])) ms before.call before text after

-- `clock`
abbrev pub SetsClock : {D F : Type 0} → DeskRules D F → ℕ → CallDesk D → Octets → CallDesk D → Type 0
SetsClock {D} {F} rules ms before text after =
    (outcome : Result ℕ F) × (between : D)
    × rules.Moves (Advance ms) before.desk outcome between
    × TellsTime rules ms outcome (with_call between before.call) text after

-- the call that targets open, at most the first 2,048 of them: the first attempt is to be sent
abbrev pub OpensOver : Kind → ℕ → ℕ → List Endpoint → Option FailoverRun → Octets
    → Option FailoverRun → Type 0
OpensOver kind base moment [] before text after =
    Refuses (failover_code NoTargets) before text after
OpensOver kind base moment (first ∷ others) before text after =
    let run : FailoverRun = new_run (take 2048 (first ∷ others)) kind base moment in
    (text ≡ steps_text run (Send 1 ∷ []) ++ counts_line (ok_words command.Call) []) × (after ≡ Some run)

-- the call that an answer opens; where there are no targets, an earlier call stays as it was
abbrev pub Opens : Kind → ℕ → ℕ → Answer → Option FailoverRun → Octets → Option FailoverRun → Type 0
Opens kind base moment (NoTarget reason) before text after =
    Keeps (answer_text (NoTarget reason)) before text after
Opens kind base moment (Targets targets) before text after =
    OpensOver kind base moment targets before text after

-- the call that the desk's answer opens at the time that the desk reports
abbrev pub OpensFor : {D F : Type 0} → DeskRules D F → Kind → ℕ → Result Handed F
    → Option FailoverRun → Octets → CallDesk D → Type 0
OpensFor rules kind base (Err fault) before text after =
    Refuses (rules.fault_text fault) before text after.call
OpensFor rules kind base (Ok handed) before text after =
    (moment : ℕ) × rules.IsTime after.desk moment
    × Opens kind base moment handed.answer before text after.call

-- a call was made and has not ended
abbrev pub is_open : Option FailoverRun → Bool
is_open None = false
is_open (Some run) = not (has_ended run)

-- the targets of a question are asked for, and a call to them is opened
abbrev pub CallsTargets : {D F : Type 0} → DeskRules D F → Kind → ℕ → Question → List ℕ → CallDesk D
    → Octets → CallDesk D → Type 0
CallsTargets {D} {F} rules kind base question words before text after =
    (outcome : Result Handed F) × rules.Finds question words before.desk outcome after.desk
    × OpensFor rules kind base outcome before.call text after

-- a call is opened, unless one is open and has not ended
abbrev pub CallsUnlessOpen : {D F : Type 0} → DeskRules D F → Kind → ℕ → Question → List ℕ → CallDesk D
    → Octets → CallDesk D → Type 0
CallsUnlessOpen rules kind base question words before text after =
    OnTrue (is_open before.call) (Refuses (codes "K4") before text after)
    × OnFalse (is_open before.call) (CallsTargets rules kind base question words before text after)

-- a call for the words that were given, if they are good
abbrev pub CallsWith : {D F : Type 0} → DeskRules D F → Kind → ℕ → Question
    → Result (List ℕ) DrawsFault → CallDesk D → Octets → CallDesk D → Type 0
CallsWith rules kind base question (Err fault) before text after =
    Refuses (draws_code fault) before text after
CallsWith rules kind base question (Ok words) before text after =
    CallsUnlessOpen rules kind base question words before text after

-- `call`: a fault of the URI is reported before that of the words
abbrev pub CallsUri : {D F : Type 0} → DeskRules D F → Kind → ℕ → Result Question UriFault
    → Result (List ℕ) DrawsFault → CallDesk D → Octets → CallDesk D → Type 0
CallsUri rules kind base (Err fault) draws before text after =
    Refuses (uri_code fault) before text after
CallsUri rules kind base (Ok question) draws before text after =
    CallsWith rules kind base question draws before text after

-- what is done with the call
abbrev pub DoesInCall : {D F : Type 0} → DeskRules D F → CallAct → CallDesk D → Octets → CallDesk D
    → Type 0
DoesInCall rules (hear words event) before text after = HearsOf rules words event before text after
DoesInCall rules (set_clock ms) before text after = SetsClock rules ms before text after
DoesInCall rules (open_call kind base read draws) before text after =
    CallsUri rules kind base read draws before text after
