-- The two machines of RFC 3261, figures 5 and 6, as a table: state, event, acts, next state.
use Rattle.std.specs.Prelude.{ℕ, Bool, true, false, Some, None}
use Rattle.sipl_tx.specs.declared.parts.Kind.{Kind}
use Rattle.sipl_tx.specs.declared.parts.Kind.TheVariants.{Invite, Other}
use Rattle.sipl_tx.specs.declared.parts.State.{State}
use Rattle.sipl_tx.specs.declared.parts.State.TheVariants.{Calling, Trying, Proceeding, Completed, Terminated}
use Rattle.sipl_tx.specs.declared.parts.Report.{Report}
use Rattle.sipl_tx.specs.declared.parts.Report.TheVariants.{Timeout, Broken}
use Rattle.sipl_tx.specs.declared.parts.Acts.{Acts}

-- an event as the figures name it: 1xx, 2xx, 300 to 699, a transport error, timer A or E, timer B,
-- F, D or K, and a tick at which no timer fires
pub data Signal : Type 0 where
  Provisional : (code : ℕ) → Signal
  Success : (code : ℕ) → Signal
  Failure : (code : ℕ) → Signal
  TransportFails : Signal
  Resend : Signal
  Expire : Signal
  NoTimer : Signal

-- nothing is to be done
abbrev pub no_acts : Acts
no_acts = record { send = false; ack = false; deliver = None; report = None; ended = false }

-- the request is to be sent
abbrev pub send_acts : Acts
send_acts = record { send = true; ack = false; deliver = None; report = None; ended = false }

-- the response is to be acknowledged
abbrev pub ack_acts : Acts
ack_acts = record { send = false; ack = true; deliver = None; report = None; ended = false }

-- the response goes to the transaction user
abbrev pub deliver_acts : ℕ → Acts
deliver_acts code =
    record { send = false; ack = false; deliver = Some code; report = None; ended = false }

-- the response goes to the transaction user, and is to be acknowledged
abbrev pub deliver_and_ack_acts : ℕ → Acts
deliver_and_ack_acts code =
    record { send = false; ack = true; deliver = Some code; report = None; ended = false }

-- the transaction user gets this report
abbrev pub report_acts : Report → Acts
report_acts report =
    record { send = false; ack = false; deliver = None; report = Some report; ended = false }

-- one row of the table: acts and the next state. That a row into Terminated ends the transaction
-- is added where rows are followed
pub record Row : Type 0 where
  pub acts : Acts
  pub next : State

-- the row with these acts and this next state
abbrev pub row : Acts → State → Row
row acts next = record { acts = acts; next = next }

-- the state after a final response that may come again: over a reliable transport timers D and K
-- are zero (17.1.1.2, 17.1.2.2)
abbrev pub state_after_final_response : Bool → State
state_after_final_response true = Terminated
state_after_final_response false = Completed

-- figure 5: INVITE
abbrev pub invite_row : Bool → State → Signal → Row
invite_row reliable Calling (Provisional code) = row (deliver_acts code) Proceeding
invite_row reliable Calling (Success code) = row (deliver_acts code) Terminated
invite_row reliable Calling (Failure code) =
    row (deliver_and_ack_acts code) (state_after_final_response reliable)
invite_row reliable Calling TransportFails = row (report_acts Broken) Terminated
invite_row reliable Calling Resend = row send_acts Calling
invite_row reliable Calling Expire = row (report_acts Timeout) Terminated
invite_row reliable Proceeding (Provisional code) = row (deliver_acts code) Proceeding
invite_row reliable Proceeding (Success code) = row (deliver_acts code) Terminated
invite_row reliable Proceeding (Failure code) =
    row (deliver_and_ack_acts code) (state_after_final_response reliable)
invite_row reliable Proceeding TransportFails = row (report_acts Broken) Terminated
invite_row reliable Completed (Failure code) = row ack_acts Completed
invite_row reliable Completed TransportFails = row (report_acts Broken) Terminated
invite_row reliable Completed Expire = row no_acts Terminated
invite_row reliable Trying TransportFails = row (report_acts Broken) Terminated
invite_row reliable state signal = row no_acts state

-- figure 6: the other methods
abbrev pub other_row : Bool → State → Signal → Row
other_row reliable Trying (Provisional code) = row (deliver_acts code) Proceeding
other_row reliable Trying (Success code) =
    row (deliver_acts code) (state_after_final_response reliable)
other_row reliable Trying (Failure code) =
    row (deliver_acts code) (state_after_final_response reliable)
other_row reliable Trying TransportFails = row (report_acts Broken) Terminated
other_row reliable Trying Resend = row send_acts Trying
other_row reliable Trying Expire = row (report_acts Timeout) Terminated
other_row reliable Proceeding (Provisional code) = row (deliver_acts code) Proceeding
other_row reliable Proceeding (Success code) =
    row (deliver_acts code) (state_after_final_response reliable)
other_row reliable Proceeding (Failure code) =
    row (deliver_acts code) (state_after_final_response reliable)
other_row reliable Proceeding TransportFails = row (report_acts Broken) Terminated
other_row reliable Proceeding Resend = row send_acts Proceeding
other_row reliable Proceeding Expire = row (report_acts Timeout) Terminated
other_row reliable Completed TransportFails = row (report_acts Broken) Terminated
other_row reliable Completed Expire = row no_acts Terminated
other_row reliable Calling TransportFails = row (report_acts Broken) Terminated
other_row reliable state signal = row no_acts state

-- the row of the table for this kind, transport, state and event
abbrev pub row_of : Kind → Bool → State → Signal → Row
row_of Invite = invite_row
row_of Other = other_row
