-- What each event does to a failover (RFC 3263, 4.3). That an endpoint is held for 30 seconds after
-- a timeout or an error of its transport, and that a 503 without Retry-After holds none, are this
-- project's own choices.
use Rattle.std.specs.Prelude.{ℕ, ◌+◌, ◌-◌, ◌*◌, Bool, true, false, not, ◌&&◌, ◌||◌, ◌==◌, nat_le, nat_lt, List, [], ◌∷◌, ◌++◌, Option, Some, None, slice_get, if◌then◌else◌}
use Rattle.sipl_choice.specs.declared.endpoint.Endpoint.{Endpoint}
use Rattle.sipl_tx.specs.declared.parts.Kind.{Kind}
use Rattle.sipl_tx.specs.declared.parts.Kind.TheVariants.{Invite, Other}
use Rattle.sipl_tx.specs.declared.parts.State.{State}
use Rattle.sipl_tx.specs.declared.parts.State.TheVariants.{Proceeding}
use Rattle.sipl_tx.specs.Transaction.{Transaction, new_transaction}
use Rattle.sipl_tx.specs.Transaction.Event.{Response, TransportError, Tick}
use Rattle.sipl_tx.specs.Machine as tx
use Rattle.sipl_tx.specs.Runs.{reports_timeout}
use Rattle.sipl_failover.specs.declared.step.Step.{Step}
use Rattle.sipl_failover.specs.declared.step.Step.TheVariants.{Send, Resend, Ack, Hold, Deliver, Exhausted}
use Rattle.sipl_failover.specs.declared.fault.FailoverFault.{FailoverFault}
use Rattle.sipl_failover.specs.declared.fault.FailoverFault.TheVariants.{Ended, NoAttempt, ClockBack, BadCode}
use Rattle.sipl_failover.specs.FailoverRun.{FailoverRun, Event, is_reliable, has_ended}
use Rattle.sipl_failover.specs.FailoverRun.Event.{Received, TransportFailed, Ticked}

-- an attempt of this number was sent: they count from 1
abbrev pub was_sent : FailoverRun → ℕ → Bool
was_sent run attempt = nat_le 1 attempt && nat_le attempt run.attempt

-- this attempt awaits a final response
abbrev pub is_running : FailoverRun → ℕ → Bool
is_running run attempt = attempt == run.attempt && not (has_ended run)

-- an INVITE's response of 300 to 699 is acknowledged hop by hop (RFC 3261, 17.1.1.3)
abbrev pub is_acknowledged : Kind → ℕ → Bool
is_acknowledged Invite code = nat_le 300 code
is_acknowledged Other code = false

-- calls other than the repeated ACK are refused once the run has ended
abbrev pub refusal_if_ended : FailoverRun → Option FailoverFault
refusal_if_ended run = if has_ended run then Some Ended else None

-- the error of the event, if it is refused: the first that applies
abbrev pub refusal_of : FailoverRun → Event → Option FailoverFault
refusal_of run (Received attempt code retry_after) =
    if nat_lt code 100 || nat_lt 699 code then Some BadCode
    else if not (was_sent run attempt) then Some NoAttempt
    else if is_acknowledged run.transaction.kind code then None
    else refusal_if_ended run
refusal_of run TransportFailed = refusal_if_ended run
refusal_of run (Ticked moment) =
    if has_ended run then Some Ended
    else if nat_lt moment run.transaction.moment then Some ClockBack
    else None

-- the run after a call, and the steps to carry out
pub record Outcome : Type 0 where
  pub run : FailoverRun
  pub steps : List Step

-- the outcome after these steps
abbrev pub with_steps : List Step → Outcome → Outcome
with_steps steps outcome = record { run = outcome.run; steps = steps ++ outcome.steps }

-- the run with another state of its last attempt's transaction
abbrev pub with_transaction : FailoverRun → Transaction → FailoverRun
with_transaction run transaction = record run { transaction = transaction }

-- the ACK of a response, if it has one
abbrev pub ack_steps : Kind → ℕ → ℕ → List Step
ack_steps kind attempt code = if is_acknowledged kind code then Ack attempt ∷ [] else []

-- how long an endpoint is held after a 503: for the seconds of its Retry-After field, if positive
abbrev pub retry_ms : Option ℕ → Option ℕ
retry_ms None = None
retry_ms (Some seconds) = if nat_lt 0 seconds then Some (seconds * 1000) else None

-- the endpoint is held for these milliseconds, if any
abbrev pub hold_steps : Option Endpoint → Option ℕ → List Step
hold_steps (Some endpoint) (Some ms) = Hold endpoint ms ∷ []
hold_steps _ _ = []

-- the request goes to the next target, in a new transaction that starts now. Where there is none,
-- the user gets this status code, and that all targets have failed
abbrev pub next_or_end : FailoverRun → Option Endpoint → ℕ → Outcome
next_or_end run (Some target) code =
    record {
      run =
          record run {
            attempt = run.attempt + 1;
            transaction =
                new_transaction run.transaction.kind (is_reliable target.transport)
                run.transaction.moment;
          };
      steps = Send (run.attempt + 1) ∷ [];
    }
next_or_end run None code = record { run = run; steps = Deliver code ∷ Exhausted ∷ [] }

-- the running attempt failed: its endpoint is held, and the next target is tried
abbrev pub after_failure : FailoverRun → Option ℕ → ℕ → Outcome
after_failure run hold code =
    with_steps (hold_steps (slice_get run.targets (run.attempt - 1)) hold)
    (next_or_end run (slice_get run.targets run.attempt) code)

-- a response to the running attempt: a 503 is a failure, a 100 is no news, and any other goes to
-- the user. A final one ends the transaction, and so the run
abbrev pub after_response : FailoverRun → Transaction → ℕ → Option ℕ → Outcome
after_response run transaction code retry_after =
    if code == 503 then
    with_steps (ack_steps run.transaction.kind run.attempt code)
    (after_failure (with_transaction run transaction) (retry_ms retry_after) 500)
    else record {
      run = with_transaction run transaction;
      steps =
          if code == 100 then []
          else ack_steps run.transaction.kind run.attempt code ++ Deliver code ∷ [];
    }

-- a provisional response has come
abbrev pub is_proceeding : State → Bool
is_proceeding Proceeding = true
is_proceeding _ = false

-- a tick of the running attempt's transaction: a timeout without any response is a failure, one
-- after a provisional response goes to the user as a 408 and ends the run
abbrev pub after_tick : FailoverRun → tx.Outcome → Outcome
after_tick run outcome =
    if not (reports_timeout outcome.acts) then record {
      run = with_transaction run outcome.transaction;
      steps = if outcome.acts.send then Resend ∷ [] else [];
    } else if is_proceeding run.transaction.state then record {
      run = with_transaction run outcome.transaction;
      steps = Deliver 408 ∷ [];
    } else after_failure (with_transaction run outcome.transaction) (Some 30000) 408

-- the outcome of an event that is not refused. A response to an attempt that awaits none any more
-- is acknowledged, if at all
abbrev pub after : FailoverRun → Event → Outcome
after run (Received attempt code retry_after) =
    if is_running run attempt
    then after_response run (tx.after run.transaction (Response code)).transaction code retry_after
    else record { run = run; steps = ack_steps run.transaction.kind attempt code }
after run TransportFailed =
    after_failure (with_transaction run (tx.after run.transaction TransportError).transaction)
    (Some 30000) 500
after run (Ticked moment) = after_tick run (tx.after run.transaction (Tick moment))

-- the attempt that a CANCEL goes to (RFC 3261, 9.1): the running one
abbrev pub running_attempt : FailoverRun → Option ℕ
running_attempt run = if has_ended run then None else Some run.attempt
