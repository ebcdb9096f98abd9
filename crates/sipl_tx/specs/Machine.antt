-- What each event does to a client transaction (RFC 3261, section 17.1).
use Rattle.std.specs.Prelude.{ℕ, ◌+◌, Bool, true, false, ◌&&◌, ◌||◌, nat_le, nat_lt, Option, Some, None, if◌then◌else◌}
use Rattle.sipl_tx.specs.declared.parts.Kind.{Kind}
use Rattle.sipl_tx.specs.declared.parts.Kind.TheVariants.{Invite, Other}
use Rattle.sipl_tx.specs.declared.parts.State.{State}
use Rattle.sipl_tx.specs.declared.parts.State.TheVariants.{Calling, Trying, Proceeding, Completed, Terminated}
use Rattle.sipl_tx.specs.declared.parts.Acts.{Acts}
use Rattle.sipl_tx.specs.declared.fault.TxFault.{TxFault}
use Rattle.sipl_tx.specs.declared.fault.TxFault.TheVariants.{ClockBack, BadCode, Ended}
use Rattle.sipl_tx.specs.Timers.{ending_timer, retransmits, next_interval}
use Rattle.sipl_tx.specs.Table.{Signal, Row, row_of}
use Rattle.sipl_tx.specs.Table.Signal.{Provisional, Success, Failure, TransportFails, Resend, Expire, NoTimer}
use Rattle.sipl_tx.specs.Transaction.{Transaction, Event}
use Rattle.sipl_tx.specs.Transaction.Event.{Response, TransportError, Tick}

-- the transaction has ended
abbrev pub is_terminated : State → Bool
is_terminated Terminated = true
is_terminated _ = false

-- Completed begins
abbrev pub enters_completed : State → State → Bool
enters_completed Completed _ = false
enters_completed _ Completed = true
enters_completed _ _ = false

-- a final response is awaited: none has come, and the transaction has not ended
abbrev pub awaits_final : Kind → State → Bool
awaits_final Invite Calling = true
awaits_final Invite Proceeding = true
awaits_final Other Trying = true
awaits_final Other Proceeding = true
awaits_final _ _ = false

-- every call is refused in Terminated
abbrev pub refusal_if_terminated : Transaction → Option TxFault
refusal_if_terminated t = if is_terminated t.state then Some Ended else None

-- the error of the event, if it is refused: the first that applies
abbrev pub refusal_of : Transaction → Event → Option TxFault
refusal_of t (Response code) =
    if nat_lt code 100 || nat_lt 699 code then Some BadCode else refusal_if_terminated t
refusal_of t TransportError = refusal_if_terminated t
refusal_of t (Tick moment) =
    if nat_lt moment t.moment then Some ClockBack else refusal_if_terminated t

-- a response by its class: 1xx, 2xx, 300 to 699
abbrev pub signal_of : ℕ → Signal
signal_of code =
    if nat_lt code 200
    then Provisional code
    else (if nat_lt code 300 then Success code else Failure code)

-- the timer of this length has fired
abbrev pub is_expired_after : Option ℕ → Transaction → Bool
is_expired_after None t = false
is_expired_after (Some length) t = nat_le (t.since + length) t.moment

-- the timer that ends the transaction has fired
abbrev pub is_expired : Transaction → Bool
is_expired t = is_expired_after (ending_timer t.kind t.state) t

-- timer A or E has fired: the request is to be sent again
abbrev pub is_due : Transaction → Bool
is_due t = retransmits t.kind t.reliable t.state && nat_le (t.sent + t.interval) t.moment

-- the timer that fires at the transaction's time: the one that ends it comes first
abbrev pub timer_of : Transaction → Signal
timer_of t = if is_expired t then Expire else (if is_due t then Resend else NoTimer)

-- the transaction after a call, and what is to be done
pub record Outcome : Type 0 where
  pub transaction : Transaction
  pub acts : Acts

-- the outcome of a row. Timers D and K count from the transaction's time, and so does timer A or E
-- where it has fired
abbrev pub outcome_of : Transaction → Row → Outcome
outcome_of t row =
    record {
      transaction =
          record {
            kind = t.kind;
            reliable = t.reliable;
            state = row.next;
            moment = t.moment;
            since = if enters_completed t.state row.next then t.moment else t.since;
            sent = if row.acts.send then t.moment else t.sent;
            interval =
                if row.acts.send then next_interval t.kind t.state t.interval else t.interval;
          };
      acts =
          record {
            send = row.acts.send;
            ack = row.acts.ack;
            deliver = row.acts.deliver;
            report = row.acts.report;
            ended = is_terminated row.next;
          };
    }

-- the transaction at a later time
abbrev pub at_moment : Transaction → ℕ → Transaction
at_moment t moment = record t { moment = moment }

-- the outcome of an event as the figures name it
abbrev pub after_signal : Transaction → Signal → Outcome
after_signal t signal = outcome_of t (row_of t.kind t.reliable t.state signal)

-- the outcome of an event that is not refused
abbrev pub after : Transaction → Event → Outcome
after t (Response code) = after_signal t (signal_of code)
after t TransportError = after_signal t TransportFails
after t (Tick moment) = after_signal (at_moment t moment) (timer_of (at_moment t moment))
