-- The outcome of one event, by cases of the table.
use Rattle.std.proofs.Common.{◌≡◌, ◌≢◌, ℕ, ◌+◌, ◌≤◌, true, false, Some, None, arith}
use Rattle.std.proofs.lemmas.Bool.Decides.{nat_tests}
use Rattle.sipl_tx.specs.declared.parts.Kind.TheVariants.{Invite, Other}
use Rattle.sipl_tx.specs.declared.parts.State.TheVariants.{Calling, Trying, Proceeding, Completed, Terminated}
use Rattle.sipl_tx.specs.Timers.{ending_timer}
use Rattle.sipl_tx.specs.Table.{no_acts, send_acts}
use Rattle.sipl_tx.specs.Transaction.{Transaction, Event}
use Rattle.sipl_tx.specs.Transaction.Event.{Response, TransportError, Tick}
use Rattle.sipl_tx.specs.Machine.{Outcome, is_terminated, awaits_final}
use Rattle.sipl_tx.specs.Runs.{step, sends_request, reports_timeout, ends_transaction, delivers_final, IsFailure, IsTick}

-- a refused event
abbrev pub stays : Transaction → Outcome
stays t = record { transaction = t; acts = no_acts }

-- nothing happens in Terminated, whatever else the transaction is
pub refused_at_end : (t : Transaction) (event : Event) → is_terminated t.state ≡ true → step t event ≡ stays t
unfolding step
refused_at_end t event h = grind (arith, nat_tests)

-- a timeout is reported from a state that waits for a final response
pub timeout_awaits : (t : Transaction) (event : Event) → reports_timeout (step t event).acts ≡ true → awaits_final t.kind t.state ≡ true
unfolding step
timeout_awaits t event h = grind (arith, nat_tests)

-- a timeout is reported where timer B or F runs
pub timeout_is_timed : (t : Transaction) (event : Event) → reports_timeout (step t event).acts ≡ true → ending_timer t.kind t.state ≡ Some 32000
unfolding step
timeout_is_timed t event h = grind (arith, nat_tests)

-- a timeout terminates
pub timeout_ends : (t : Transaction) (event : Event) → reports_timeout (step t event).acts ≡ true → is_terminated (step t event).transaction.state ≡ true
unfolding step
timeout_ends t event h = grind (arith, nat_tests)

-- kind and transport stay
pub kind_stays : (t : Transaction) (event : Event) → ((step t event).transaction.kind ≡ t.kind) × ((step t event).transaction.reliable ≡ t.reliable)
unfolding step
kind_stays t event = grind (arith, nat_tests)

-- no retransmission over a reliable transport
pub reliable_sends_nothing : (t : Transaction) (event : Event) → t.reliable ≡ true → sends_request (step t event).acts ≡ false
unfolding step
reliable_sends_nothing t event h = grind (arith, nat_tests)

-- after a final response none is delivered
pub none_delivered : (t : Transaction) (event : Event) → awaits_final t.kind t.state ≡ false → (step t event).acts.deliver ≡ None
unfolding step
none_delivered t event h = grind (arith, nat_tests)

pub awaits_no_more : (t : Transaction) (event : Event) → awaits_final t.kind t.state ≡ false → awaits_final (step t event).transaction.kind (step t event).transaction.state ≡ false
unfolding step
awaits_no_more t event h = grind (arith, nat_tests)

-- what is delivered is final only where no other will be
pub final_is_last : (t : Transaction) (event : Event) → delivers_final (step t event).acts ≡ true → awaits_final (step t event).transaction.kind (step t event).transaction.state ≡ false
unfolding step
final_is_last t event h = grind (arith, nat_tests)

-- a call ends the transaction exactly where it leads into Terminated from elsewhere
pub ends_there : (t : Transaction) (event : Event) → is_terminated t.state ≡ false → (step t event).acts.ended ≡ is_terminated (step t event).transaction.state
unfolding step
ends_there t event h = grind (arith, nat_tests)

pub end_is_there : (t : Transaction) (event : Event) → ends_transaction (step t event).acts ≡ true → is_terminated (step t event).transaction.state ≡ true
unfolding step
end_is_there t event h = grind (arith, nat_tests)

-- a response that is awaited goes to the transaction user
pub awaited_is_delivered : (t : Transaction) (code : ℕ) → awaits_final t.kind t.state ≡ true → 100 ≤ code → code ≤ 699 → (step t (Response code)).acts.deliver ≡ Some code
unfolding step
awaited_is_delivered t code h low high = grind (arith, nat_tests)

-- only an INVITE is acknowledged, and only for 300 to 699
pub invite_acknowledges : (t : Transaction) (event : Event) → (step t event).acts.ack ≡ true → t.kind ≡ Invite
unfolding step
invite_acknowledges t event h = grind (arith, nat_tests)

pub failure_is_acknowledged : (t : Transaction) (event : Event) → (step t event).acts.ack ≡ true → IsFailure event
unfolding step
failure_is_acknowledged t (Response code) h = grind (arith, nat_tests)
failure_is_acknowledged t TransportError h = grind (arith, nat_tests)
failure_is_acknowledged t (Tick moment) h = grind (arith, nat_tests)

-- what ends a transaction leads into Terminated from elsewhere, and that ends it
pub end_leads_there : (t : Transaction) (event : Event) → ends_transaction (step t event).acts ≡ true → (step t event).transaction.state ≡ Terminated
unfolding step
end_leads_there t event h = grind (arith, nat_tests)

pub end_comes_from_elsewhere : (t : Transaction) (event : Event) → ends_transaction (step t event).acts ≡ true → t.state ≢ Terminated
unfolding step
end_comes_from_elsewhere t event h at_end = grind (arith, nat_tests)

pub leads_there_ends : (t : Transaction) (event : Event) → t.state ≢ Terminated → (step t event).transaction.state ≡ Terminated → ends_transaction (step t event).acts ≡ true
unfolding step
leads_there_ends t event elsewhere there = grind (arith, nat_tests)

-- a retransmission is all that is done, at a tick
pub sends_only : (t : Transaction) (event : Event) → sends_request (step t event).acts ≡ true → (step t event).acts ≡ send_acts
unfolding step
sends_only t event h = grind (arith, nat_tests)

pub sends_at_tick : (t : Transaction) (event : Event) → sends_request (step t event).acts ≡ true → IsTick event
unfolding step
sends_at_tick t (Response code) h = grind (arith, nat_tests)
sends_at_tick t TransportError h = grind (arith, nat_tests)
sends_at_tick t (Tick moment) h = tt

-- the intervals never fall below T1
pub interval_stays_long : (t : Transaction) (event : Event) → 500 ≤ t.interval → 500 ≤ (step t event).transaction.interval
unfolding step
interval_stays_long t event long = grind (arith, nat_tests)

-- a retransmission comes when the interval has passed, and is the last sending from then on
pub sending_is_apart : (t : Transaction) (event : Event) → 500 ≤ t.interval → sends_request (step t event).acts ≡ true → t.sent + 500 ≤ (step t event).transaction.moment
unfolding step
sending_is_apart t event long h = grind (arith, nat_tests)

pub sending_is_last : (t : Transaction) (event : Event) → sends_request (step t event).acts ≡ true → (step t event).transaction.sent ≡ (step t event).transaction.moment
unfolding step
sending_is_last t event h = grind (arith, nat_tests)

pub sending_stays : (t : Transaction) (event : Event) → sends_request (step t event).acts ≡ false → (step t event).transaction.sent ≡ t.sent
unfolding step
sending_stays t event h = grind (arith, nat_tests)

-- the time does not decrease, and the ending timer counts from no later time
pub time_goes_on : (t : Transaction) (event : Event) → t.moment ≤ (step t event).transaction.moment
unfolding step
time_goes_on t event = grind (arith, nat_tests)

pub counts_from_before : (t : Transaction) (event : Event) → t.since ≤ t.moment → (step t event).transaction.since ≤ (step t event).transaction.moment
unfolding step
counts_from_before t event before = grind (arith, nat_tests)

-- the states of each kind
pub invite_never_tries : (t : Transaction) (event : Event) → t.kind ≡ Invite → t.state ≢ Trying → (step t event).transaction.state ≢ Trying
unfolding step
invite_never_tries t event is_invite fits h = grind (arith, nat_tests)

pub other_never_calls : (t : Transaction) (event : Event) → t.kind ≡ Other → t.state ≢ Calling → (step t event).transaction.state ≢ Calling
unfolding step
other_never_calls t event is_other fits h = grind (arith, nat_tests)

pub reliable_never_completes : (t : Transaction) (event : Event) → t.reliable ≡ true → t.state ≢ Completed → (step t event).transaction.state ≢ Completed
unfolding step
reliable_never_completes t event reliable fits h = grind (arith, nat_tests)

-- a late tick terminates where an ending timer runs
pub late_tick_ends_invite : (t : Transaction) (moment : ℕ) → t.kind ≡ Invite → t.state ≢ Trying → t.state ≢ Proceeding → t.since ≤ t.moment → t.moment + 32000 ≤ moment → (step t (Tick moment)).transaction.state ≡ Terminated
unfolding step
late_tick_ends_invite t moment is_invite fits elsewhere before late = grind (arith, nat_tests)

pub late_tick_ends_other : (t : Transaction) (moment : ℕ) → t.kind ≡ Other → t.state ≢ Calling → t.since ≤ t.moment → t.moment + 32000 ≤ moment → (step t (Tick moment)).transaction.state ≡ Terminated
unfolding step
late_tick_ends_other t moment is_other fits before late = grind (arith, nat_tests)
