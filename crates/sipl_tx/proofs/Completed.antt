-- How long Completed lasts: timers D and K.
use Rattle.std.proofs.Common.{◌≡◌, ℕ, ◌+◌, ◌≤◌, true, false, List, [], ◌∷◌, ◌∙◌, arith}
use Rattle.std.specs.List.{All}
use Rattle.std.proofs.lemmas.Bool.Decides.{nat_tests}
use Rattle.std.proofs.lemmas.List.Elements.{All-head, All-tail}
use Rattle.sipl_tx.specs.declared.parts.Kind.{Kind}
use Rattle.sipl_tx.specs.declared.parts.Kind.TheVariants.{Invite, Other}
use Rattle.sipl_tx.specs.declared.parts.State.TheVariants.{Completed, Terminated}
use Rattle.sipl_tx.specs.Transaction.{Transaction, Event}
use Rattle.sipl_tx.specs.Transaction.Event.{Response, TransportError, Tick}
use Rattle.sipl_tx.specs.Machine.{awaits_final}
use Rattle.sipl_tx.specs.Runs.{step, run, IsBefore}

-- timer D or K of this kind
abbrev pub timer_length : Kind → ℕ
timer_length Invite = 32000
timer_length Other = 5000

-- a transaction of this kind in Completed whose timer counts from this time
pub record IsCompletedSince (kind : Kind) (since : ℕ) (t : Transaction) : Type 0 where
  pub same_kind : t.kind ≡ kind
  pub is_completed : t.state ≡ Completed
  pub counts_from : t.since ≡ since

-- a response, or a tick before the timer fires, changes none of this
keeps_state : (t : Transaction) (event : Event) → t.state ≡ Completed → IsBefore (t.since + timer_length t.kind) event → (step t event).transaction.state ≡ Completed
unfolding step
keeps_state t (Response code) completed before = grind (arith, nat_tests)
keeps_state t TransportError completed before = absurd before
keeps_state t (Tick moment) completed before = grind (arith, nat_tests)

keeps_since : (t : Transaction) (event : Event) → t.state ≡ Completed → (step t event).transaction.since ≡ t.since
unfolding step
keeps_since t event completed = grind (arith, nat_tests)

keeps_kind : (t : Transaction) (event : Event) → (step t event).transaction.kind ≡ t.kind
unfolding step
keeps_kind t event = grind (arith, nat_tests)

stays_completed : (kind : Kind) (since : ℕ) (t : Transaction) (event : Event) → IsCompletedSince kind since t → IsBefore (since + timer_length kind) event → IsCompletedSince kind since (step t event).transaction
stays_completed kind since t event completed before =
    record {
      same_kind = keeps_kind t event ∙ completed.same_kind;
      is_completed = keeps_state t event completed.is_completed (rw (completed.same_kind, completed.counts_from) before);
      counts_from = keeps_since t event completed.is_completed ∙ completed.counts_from;
    }

pub stays_completed_over : (kind : Kind) (since : ℕ) (t : Transaction) (events : List Event) → IsCompletedSince kind since t → All (IsBefore (since + timer_length kind)) events → IsCompletedSince kind since (run t events)
unfolding run
stays_completed_over kind since t [] completed before = completed
stays_completed_over kind since t (event ∷ events) completed before =
    stays_completed_over kind since (step t event).transaction events
    (stays_completed kind since t event completed (All-head (IsBefore (since + timer_length kind)) event events before))
    (All-tail (IsBefore (since + timer_length kind)) event events before)

-- the tick at which the timer fires terminates, unless it is before the last one
pub tick_terminates : (t : Transaction) (moment : ℕ) → t.state ≡ Completed → t.since + timer_length t.kind ≤ moment → t.moment ≤ moment → (step t (Tick moment)).transaction.state ≡ Terminated
unfolding step
tick_terminates t moment completed late later = grind (arith, nat_tests)

-- a transaction in Completed has not been ticked at its timer's time
keeps_moment : (t : Transaction) (event : Event) (end : ℕ) → t.moment ≤ end → IsBefore end event → (step t event).transaction.moment ≤ end
unfolding step
keeps_moment t (Response code) end early before = grind (arith, nat_tests)
keeps_moment t TransportError end early before = absurd before
keeps_moment t (Tick moment) end early before = grind (arith, nat_tests)

pub keeps_moment_over : (t : Transaction) (events : List Event) (end : ℕ) → t.moment ≤ end → All (IsBefore end) events → (run t events).moment ≤ end
unfolding run
keeps_moment_over t [] end early before = early
keeps_moment_over t (event ∷ events) end early before =
    keeps_moment_over (step t event).transaction events end
    (keeps_moment t event end early (All-head (IsBefore end) event events before))
    (All-tail (IsBefore end) event events before)

-- the final response
pub invite_completes : (t : Transaction) (code : ℕ) → t.kind ≡ Invite → awaits_final t.kind t.state ≡ true → t.reliable ≡ false → 300 ≤ code → code ≤ 699 → IsCompletedSince Invite t.moment (step t (Response code)).transaction
unfolding step
invite_completes t code is_invite awaits unreliable low high =
    record { same_kind = grind (arith, nat_tests); is_completed = grind (arith, nat_tests); counts_from = grind (arith, nat_tests) }

pub other_completes : (t : Transaction) (code : ℕ) → t.kind ≡ Other → awaits_final t.kind t.state ≡ true → t.reliable ≡ false → 200 ≤ code → code ≤ 699 → IsCompletedSince Other t.moment (step t (Response code)).transaction
unfolding step
other_completes t code is_other awaits unreliable low high =
    record { same_kind = grind (arith, nat_tests); is_completed = grind (arith, nat_tests); counts_from = grind (arith, nat_tests) }

pub response_keeps_moment : (t : Transaction) (code : ℕ) → (step t (Response code)).transaction.moment ≡ t.moment
unfolding step
response_keeps_moment t code = grind (arith, nat_tests)

-- Completed ends at the first tick at or after its timer's time
pub completed_ends : (kind : Kind) (since moment : ℕ) (t : Transaction) (events : List Event) → IsCompletedSince kind since t → t.moment ≡ since → All (IsBefore (since + timer_length kind)) events → since + timer_length kind ≤ moment → (step (run t events) (Tick moment)).transaction.state ≡ Terminated
completed_ends kind since moment t events completed now before late =
    let there = stays_completed_over kind since t events completed before in
    let early : t.moment ≤ since + timer_length kind = omega arith in
    let later = keeps_moment_over t events (since + timer_length kind) early before in
    tick_terminates (run t events) moment there.is_completed
    (rw (there.same_kind, there.counts_from) late)
    (omega arith)
