-- Laws over whole lists of events, by induction.
use Rattle.std.proofs.Common.{◌≡◌, ◌≢◌, ℕ, ◌+◌, ◌≤◌, Bool, true, false, List, [], ◌∷◌, length, Option, Some, None, refl, ◌∙◌, arith, cond}
use Rattle.std.proofs.lemmas.Bool.Decides.{nat_tests}
use Rattle.std.specs.List.{AllByRecursion}
use Rattle.sipl_tx.specs.declared.parts.Acts.{Acts}
use Rattle.sipl_tx.specs.Table.{no_acts}
use Rattle.sipl_tx.specs.Transaction.{Transaction, Event}
use Rattle.sipl_tx.specs.Machine.{is_terminated, awaits_final}
use Rattle.sipl_tx.specs.declared.parts.Kind.TheVariants.{Invite, Other}
use Rattle.sipl_tx.specs.declared.parts.State.TheVariants.{Calling, Trying, Completed}
use Rattle.sipl_tx.specs.Runs.{step, run, acts_of, moments_of, deliveries_of, with_code, EndsAtFinal, AreApart, sends_request, reports_timeout, ends_transaction}
use Rattle.sipl_tx.proofs.Steps.{interval_stays_long, sending_is_apart, sending_is_last, sending_stays, time_goes_on, counts_from_before, invite_never_tries, other_never_calls, reliable_never_completes, refused_at_end, timeout_ends, end_is_there, kind_stays, reliable_sends_nothing, none_delivered, awaits_no_more, final_is_last}

-- after the end no acts pass the test
pub none_after_end : (test : Acts → Bool) → test no_acts ≡ false → (t : Transaction) (events : List Event) → is_terminated t.state ≡ true → moments_of test t events ≡ []
unfolding moments_of
none_after_end test nothing t [] at_end = refl
none_after_end test nothing t (event ∷ events) at_end =
    rw (refused_at_end t event at_end, nothing) (none_after_end test nothing t events at_end)

-- a list that ends after its first element has at most one
at_most_one : (here : Bool) (moment : ℕ) (moments : List ℕ) → (here ≡ true → moments ≡ []) → length moments ≤ 1 → length (cond here (moment ∷ moments) moments) ≤ 1
at_most_one true moment moments none few = rw (none refl) (omega arith)
at_most_one false moment moments none few = few

-- acts that terminate the transaction come at most once
pub once_before_end : (test : Acts → Bool) → test no_acts ≡ false → ((t : Transaction) (event : Event) → test (step t event).acts ≡ true → is_terminated (step t event).transaction.state ≡ true) → (t : Transaction) (events : List Event) → length (moments_of test t events) ≤ 1
unfolding moments_of
once_before_end test nothing ends t [] = omega arith
once_before_end test nothing ends t (event ∷ events) =
    at_most_one (test (step t event).acts) (step t event).transaction.moment (moments_of test (step t event).transaction events)
    (λ here. none_after_end test nothing (step t event).transaction events (ends t event here))
    (once_before_end test nothing ends (step t event).transaction events)

pub timeout_is_reported_once : (t : Transaction) (events : List Event) → length (moments_of reports_timeout t events) ≤ 1
timeout_is_reported_once = once_before_end reports_timeout refl timeout_ends

pub end_is_reported_once : (t : Transaction) (events : List Event) → length (moments_of ends_transaction t events) ≤ 1
end_is_reported_once = once_before_end ends_transaction refl end_is_there

pub terminated_stays : (t : Transaction) (events : List Event) → is_terminated t.state ≡ true → run t events ≡ t
unfolding run
terminated_stays t [] at_end = refl
terminated_stays t (event ∷ events) at_end = rw (refused_at_end t event at_end) (terminated_stays t events at_end)

pub terminated_has_no_acts : (t : Transaction) (events : List Event) → is_terminated t.state ≡ true → AllByRecursion (λ acts. acts ≡ no_acts) (acts_of t events)
unfolding acts_of
terminated_has_no_acts t [] at_end = tt
terminated_has_no_acts t (event ∷ events) at_end = rw (refused_at_end t event at_end) (refl, terminated_has_no_acts t events at_end)

pub reliable_sends_once : (t : Transaction) (events : List Event) → t.reliable ≡ true → moments_of sends_request t events ≡ []
unfolding moments_of
reliable_sends_once t [] reliable = refl
reliable_sends_once t (event ∷ events) reliable =
    rw (reliable_sends_nothing t event reliable) (reliable_sends_once (step t event).transaction events ((kind_stays t event).1 ∙ reliable))

-- nothing is delivered after a final response
pub none_after_final : (t : Transaction) (events : List Event) → awaits_final t.kind t.state ≡ false → deliveries_of t events ≡ []
unfolding deliveries_of
none_after_final t [] none = refl
none_after_final t (event ∷ events) none =
    rw (none_delivered t event none) (none_after_final (step t event).transaction events (awaits_no_more t event none))

after_code : (here : Option ℕ) (codes : List ℕ) → ((code : ℕ) → here ≡ Some code → 200 ≤ code → codes ≡ []) → EndsAtFinal codes → EndsAtFinal (with_code here codes)
after_code None codes last rest = rest
after_code (Some code) codes last rest = (last code refl, rest)

pub ends_at_final : (t : Transaction) (events : List Event) → EndsAtFinal (deliveries_of t events)
unfolding deliveries_of
ends_at_final t [] = tt
ends_at_final t (event ∷ events) =
    after_code (step t event).acts.deliver (deliveries_of (step t event).transaction events)
    (λ code is_it final. none_after_final (step t event).transaction events (final_is_last t event (rw is_it (grind (arith, nat_tests)))))
    (ends_at_final (step t event).transaction events)

-- one time before others that are apart from it
apart_after : (here : Bool) (gap sent sent' moment : ℕ) (moments : List ℕ) → (here ≡ true → sent + gap ≤ moment) → (here ≡ true → sent' ≡ moment) → (here ≡ false → sent' ≡ sent) → AreApart gap sent' moments → AreApart gap sent (cond here (moment ∷ moments) moments)
apart_after true gap sent sent' moment moments far new same rest = (far refl, rw (new refl) at rest)
apart_after false gap sent sent' moment moments far new same rest = rw (same refl) at rest

pub sendings_are_apart : (t : Transaction) (events : List Event) → 500 ≤ t.interval → AreApart 500 t.sent (moments_of sends_request t events)
unfolding moments_of
sendings_are_apart t [] long = tt
sendings_are_apart t (event ∷ events) long =
    apart_after (sends_request (step t event).acts) 500 t.sent (step t event).transaction.sent (step t event).transaction.moment (moments_of sends_request (step t event).transaction events)
    (sending_is_apart t event long) (sending_is_last t event) (sending_stays t event)
    (sendings_are_apart (step t event).transaction events (interval_stays_long t event long))

pub time_goes_on_over : (t : Transaction) (events : List Event) → t.moment ≤ (run t events).moment
unfolding run
time_goes_on_over t [] = omega arith
time_goes_on_over t (event ∷ events) = omega (arith, time_goes_on t event, time_goes_on_over (step t event).transaction events)

pub counts_from_before_over : (t : Transaction) (events : List Event) → t.since ≤ t.moment → (run t events).since ≤ (run t events).moment
unfolding run
counts_from_before_over t [] before = before
counts_from_before_over t (event ∷ events) before = counts_from_before_over (step t event).transaction events (counts_from_before t event before)

pub kind_stays_over : (t : Transaction) (events : List Event) → (run t events).kind ≡ t.kind
unfolding run
kind_stays_over t [] = refl
kind_stays_over t (event ∷ events) = kind_stays_over (step t event).transaction events ∙ (kind_stays t event).0

pub invite_never_tries_over : (t : Transaction) (events : List Event) → t.kind ≡ Invite → t.state ≢ Trying → (run t events).state ≢ Trying
unfolding run
invite_never_tries_over t [] is_invite fits = fits
invite_never_tries_over t (event ∷ events) is_invite fits =
    invite_never_tries_over (step t event).transaction events ((kind_stays t event).0 ∙ is_invite) (invite_never_tries t event is_invite fits)

pub other_never_calls_over : (t : Transaction) (events : List Event) → t.kind ≡ Other → t.state ≢ Calling → (run t events).state ≢ Calling
unfolding run
other_never_calls_over t [] is_other fits = fits
other_never_calls_over t (event ∷ events) is_other fits =
    other_never_calls_over (step t event).transaction events ((kind_stays t event).0 ∙ is_other) (other_never_calls t event is_other fits)

pub reliable_never_completes_over : (t : Transaction) (events : List Event) → t.reliable ≡ true → t.state ≢ Completed → (run t events).state ≢ Completed
unfolding run
reliable_never_completes_over t [] reliable fits = fits
reliable_never_completes_over t (event ∷ events) reliable fits =
    reliable_never_completes_over (step t event).transaction events ((kind_stays t event).1 ∙ reliable) (reliable_never_completes t event reliable fits)
