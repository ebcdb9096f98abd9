-- A request over an unreliable transport without any response, with a tick at each millisecond.
use Rattle.std.proofs.Common.{◌≡◌, ℕ, zero, suc, ◌+◌, ◌-◌, ◌<◌, ◌≤◌, Bool, true, false, List, [], ◌∷◌, Some, None, refl, ap, ◌∙◌, arith, cond}
use Rattle.std.proofs.lemmas.Bool.Decides.{nat_tests}
use Rattle.sipl_tx.specs.declared.parts.Kind.{Kind}
use Rattle.sipl_tx.specs.declared.parts.Kind.TheVariants.{Invite, Other}
use Rattle.sipl_tx.specs.declared.parts.Report.TheVariants.{Timeout}
use Rattle.sipl_tx.specs.declared.parts.Acts.{Acts}
use Rattle.sipl_tx.specs.Timers.{next_interval}
use Rattle.sipl_tx.specs.Table.{no_acts, send_acts}
use Rattle.sipl_tx.specs.Transaction.{Transaction, first_state, new_transaction}
use Rattle.sipl_tx.specs.Transaction.Event.{Tick}
use Rattle.sipl_tx.specs.Machine.{is_terminated}
use Rattle.sipl_tx.specs.Runs.{step, moments_of, every_millisecond, sends_request, reports_timeout, moments_after}
use Rattle.sipl_tx.proofs.RunLaws.{none_after_end}

-- no response has come yet
abbrev pub waiting : Kind → ℕ → ℕ → ℕ → ℕ → Transaction
waiting kind start sent interval moment =
    record { kind = kind; reliable = false; state = first_state kind; moment = moment; since = start; sent = sent; interval = interval }

-- the acts of timers B and F
abbrev pub times_out : Acts
times_out = record { send = false; ack = false; deliver = None; report = Some Timeout; ended = true }

-- the time, where the test holds, and then these
abbrev pub prepend_if : Bool → ℕ → List ℕ → List ℕ
prepend_if here moment moments = cond here (moment ∷ moments) moments

-- before the next retransmission and before the end nothing happens
silent : (kind : Kind) (start sent interval moment : ℕ) → moment + 1 < sent + interval → moment + 1 < start + 32000 → step (waiting kind start sent interval moment) (Tick (moment + 1)) ≡ record { transaction = waiting kind start sent interval (moment + 1); acts = no_acts }
unfolding step
silent kind start sent interval moment before_next before_end = grind (arith, nat_tests)

-- the request is sent again
resent : (kind : Kind) (start sent interval moment : ℕ) → moment + 1 ≡ sent + interval → moment + 1 < start + 32000 → step (waiting kind start sent interval moment) (Tick (moment + 1)) ≡ record { transaction = waiting kind start (moment + 1) (next_interval kind (first_state kind) interval) (moment + 1); acts = send_acts }
unfolding step
resent kind start sent interval moment at_next before_end = grind (arith, nat_tests)

-- the end
ends_then : (kind : Kind) (start sent interval moment : ℕ) → moment + 1 ≡ start + 32000 → is_terminated (step (waiting kind start sent interval moment) (Tick (moment + 1))).transaction.state ≡ true
unfolding step
ends_then kind start sent interval moment at_end = grind (arith, nat_tests)

times_out_then : (kind : Kind) (start sent interval moment : ℕ) → moment + 1 ≡ start + 32000 → (step (waiting kind start sent interval moment) (Tick (moment + 1))).acts ≡ times_out
unfolding step
times_out_then kind start sent interval moment at_end = grind (arith, nat_tests)

moment_then : (kind : Kind) (start sent interval moment : ℕ) → moment + 1 ≡ start + 32000 → (step (waiting kind start sent interval moment) (Tick (moment + 1))).transaction.moment ≡ moment + 1
unfolding step
moment_then kind start sent interval moment at_end = grind (arith, nat_tests)

-- a stretch of milliseconds in which nothing happens
silent_stretch : (test : Acts → Bool) → test no_acts ≡ false → (kind : Kind) (start sent interval moment stretch ticks rest later : ℕ) → ticks ≡ stretch + rest → later ≡ moment + stretch → later < sent + interval → later < start + 32000 → moments_of test (waiting kind start sent interval moment) (every_millisecond moment ticks) ≡ moments_of test (waiting kind start sent interval later) (every_millisecond later rest)
unfolding moments_of every_millisecond
silent_stretch test nothing kind start sent interval moment zero ticks rest later all_ticks is_later before_next before_end =
    let same_ticks : ticks ≡ rest = omega arith in
    let same_moment : later ≡ moment = omega arith in
    rw (same_ticks, same_moment) refl
silent_stretch test nothing kind start sent interval moment (suc stretch) zero rest later all_ticks is_later before_next before_end = absurd (omega arith)
silent_stretch test nothing kind start sent interval moment (suc stretch) (suc ticks) rest later all_ticks is_later before_next before_end =
    rw (silent kind start sent interval moment (omega arith) (omega arith), nothing)
    (silent_stretch test nothing kind start sent interval (moment + 1) stretch ticks rest later (omega arith) (omega arith) before_next before_end)

-- from one sending of the request to the next
next_sending : (test : Acts → Bool) → test no_acts ≡ false → (kind : Kind) (start sent interval gap ticks rest next : ℕ) → interval ≡ gap + 1 → ticks ≡ interval + rest → next ≡ sent + interval → next < start + 32000 → moments_of test (waiting kind start sent interval sent) (every_millisecond sent ticks) ≡ prepend_if (test send_acts) next (moments_of test (waiting kind start next (next_interval kind (first_state kind) interval) next) (every_millisecond next rest))
unfolding moments_of every_millisecond
next_sending test nothing kind start sent interval gap ticks rest next is_gap all_ticks is_next before_end =
    let is_after : next ≡ sent + gap + 1 = omega arith in
    silent_stretch test nothing kind start sent interval sent gap ticks (suc rest) (sent + gap) (omega arith) refl (omega arith) (omega arith)
    ∙ rw (resent kind start sent interval (sent + gap) (omega arith) (omega arith), is_after) refl

-- from the last sending of the request to the end
timeout_after : (test : Acts → Bool) → test no_acts ≡ false → (kind : Kind) (start sent interval gap ticks rest : ℕ) → sent + gap + 1 ≡ start + 32000 → ticks ≡ gap + 1 + rest → sent + gap < sent + interval → moments_of test (waiting kind start sent interval sent) (every_millisecond sent ticks) ≡ prepend_if (test times_out) (start + 32000) []
unfolding moments_of every_millisecond
timeout_after test nothing kind start sent interval gap ticks rest at_end all_ticks before_next =
    silent_stretch test nothing kind start sent interval sent gap ticks (suc rest) (sent + gap) (omega arith) refl (omega arith) (omega arith)
    ∙ rw (none_after_end test nothing (step (waiting kind start sent interval (sent + gap)) (Tick (sent + gap + 1))).transaction (every_millisecond (sent + gap + 1) rest) (ends_then kind start sent interval (sent + gap) at_end), moment_then kind start sent interval (sent + gap) at_end, times_out_then kind start sent interval (sent + gap) at_end, at_end) refl

-- INVITE: timer A doubles until timer B ends the transaction
invite_moments : (test : Acts → Bool) → test no_acts ≡ false → (start ticks : ℕ) → 32000 ≤ ticks → moments_of test (new_transaction Invite false start) (every_millisecond start ticks) ≡ prepend_if (test send_acts) (start + 500) (prepend_if (test send_acts) (start + 1500) (prepend_if (test send_acts) (start + 3500) (prepend_if (test send_acts) (start + 7500) (prepend_if (test send_acts) (start + 15500) (prepend_if (test send_acts) (start + 31500) (prepend_if (test times_out) (start + 32000) []))))))
invite_moments test nothing start ticks long =
    next_sending test nothing Invite start start 500 499 ticks (ticks - 500) (start + 500) refl (omega arith) refl (omega arith)
    ∙ ap (prepend_if (test send_acts) (start + 500)) (next_sending test nothing Invite start (start + 500) 1000 999 (ticks - 500) (ticks - 1500) (start + 1500) refl (omega arith) (omega arith) (omega arith)
    ∙ ap (prepend_if (test send_acts) (start + 1500)) (next_sending test nothing Invite start (start + 1500) 2000 1999 (ticks - 1500) (ticks - 3500) (start + 3500) refl (omega arith) (omega arith) (omega arith)
    ∙ ap (prepend_if (test send_acts) (start + 3500)) (next_sending test nothing Invite start (start + 3500) 4000 3999 (ticks - 3500) (ticks - 7500) (start + 7500) refl (omega arith) (omega arith) (omega arith)
    ∙ ap (prepend_if (test send_acts) (start + 7500)) (next_sending test nothing Invite start (start + 7500) 8000 7999 (ticks - 7500) (ticks - 15500) (start + 15500) refl (omega arith) (omega arith) (omega arith)
    ∙ ap (prepend_if (test send_acts) (start + 15500)) (next_sending test nothing Invite start (start + 15500) 16000 15999 (ticks - 15500) (ticks - 31500) (start + 31500) refl (omega arith) (omega arith) (omega arith)
    ∙ ap (prepend_if (test send_acts) (start + 31500)) (timeout_after test nothing Invite start (start + 31500) 32000 499 (ticks - 31500) (ticks - 32000) (omega arith) (omega arith) (omega arith)))))))

-- other methods: timer E doubles up to T2 until timer F ends the transaction
other_moments : (test : Acts → Bool) → test no_acts ≡ false → (start ticks : ℕ) → 32000 ≤ ticks → moments_of test (new_transaction Other false start) (every_millisecond start ticks) ≡ prepend_if (test send_acts) (start + 500) (prepend_if (test send_acts) (start + 1500) (prepend_if (test send_acts) (start + 3500) (prepend_if (test send_acts) (start + 7500) (prepend_if (test send_acts) (start + 11500) (prepend_if (test send_acts) (start + 15500) (prepend_if (test send_acts) (start + 19500) (prepend_if (test send_acts) (start + 23500) (prepend_if (test send_acts) (start + 27500) (prepend_if (test send_acts) (start + 31500) (prepend_if (test times_out) (start + 32000) []))))))))))
other_moments test nothing start ticks long =
    next_sending test nothing Other start start 500 499 ticks (ticks - 500) (start + 500) refl (omega arith) refl (omega arith)
    ∙ ap (prepend_if (test send_acts) (start + 500)) (next_sending test nothing Other start (start + 500) 1000 999 (ticks - 500) (ticks - 1500) (start + 1500) refl (omega arith) (omega arith) (omega arith)
    ∙ ap (prepend_if (test send_acts) (start + 1500)) (next_sending test nothing Other start (start + 1500) 2000 1999 (ticks - 1500) (ticks - 3500) (start + 3500) refl (omega arith) (omega arith) (omega arith)
    ∙ ap (prepend_if (test send_acts) (start + 3500)) (next_sending test nothing Other start (start + 3500) 4000 3999 (ticks - 3500) (ticks - 7500) (start + 7500) refl (omega arith) (omega arith) (omega arith)
    ∙ ap (prepend_if (test send_acts) (start + 7500)) (next_sending test nothing Other start (start + 7500) 4000 3999 (ticks - 7500) (ticks - 11500) (start + 11500) refl (omega arith) (omega arith) (omega arith)
    ∙ ap (prepend_if (test send_acts) (start + 11500)) (next_sending test nothing Other start (start + 11500) 4000 3999 (ticks - 11500) (ticks - 15500) (start + 15500) refl (omega arith) (omega arith) (omega arith)
    ∙ ap (prepend_if (test send_acts) (start + 15500)) (next_sending test nothing Other start (start + 15500) 4000 3999 (ticks - 15500) (ticks - 19500) (start + 19500) refl (omega arith) (omega arith) (omega arith)
    ∙ ap (prepend_if (test send_acts) (start + 19500)) (next_sending test nothing Other start (start + 19500) 4000 3999 (ticks - 19500) (ticks - 23500) (start + 23500) refl (omega arith) (omega arith) (omega arith)
    ∙ ap (prepend_if (test send_acts) (start + 23500)) (next_sending test nothing Other start (start + 23500) 4000 3999 (ticks - 23500) (ticks - 27500) (start + 27500) refl (omega arith) (omega arith) (omega arith)
    ∙ ap (prepend_if (test send_acts) (start + 27500)) (next_sending test nothing Other start (start + 27500) 4000 3999 (ticks - 27500) (ticks - 31500) (start + 31500) refl (omega arith) (omega arith) (omega arith)
    ∙ ap (prepend_if (test send_acts) (start + 31500)) (timeout_after test nothing Other start (start + 31500) 4000 499 (ticks - 31500) (ticks - 32000) (omega arith) (omega arith) (omega arith)))))))))))

pub invite_sendings : (start ticks : ℕ) → 32000 ≤ ticks → moments_of sends_request (new_transaction Invite false start) (every_millisecond start ticks) ≡ moments_after start (500 ∷ 1500 ∷ 3500 ∷ 7500 ∷ 15500 ∷ 31500 ∷ [])
invite_sendings start ticks long = invite_moments sends_request refl start ticks long

pub invite_timeout : (start ticks : ℕ) → 32000 ≤ ticks → moments_of reports_timeout (new_transaction Invite false start) (every_millisecond start ticks) ≡ moments_after start (32000 ∷ [])
invite_timeout start ticks long = invite_moments reports_timeout refl start ticks long

pub other_sendings : (start ticks : ℕ) → 32000 ≤ ticks → moments_of sends_request (new_transaction Other false start) (every_millisecond start ticks) ≡ moments_after start (500 ∷ 1500 ∷ 3500 ∷ 7500 ∷ 11500 ∷ 15500 ∷ 19500 ∷ 23500 ∷ 27500 ∷ 31500 ∷ [])
other_sendings start ticks long = other_moments sends_request refl start ticks long

pub other_timeout : (start ticks : ℕ) → 32000 ≤ ticks → moments_of reports_timeout (new_transaction Other false start) (every_millisecond start ticks) ≡ moments_after start (32000 ∷ [])
other_timeout start ticks long = other_moments reports_timeout refl start ticks long
