-- Laws over lists of events, by induction.
use Rattle.std.proofs.Common.{◌≡◌, ◌≢◌, ℕ, ◌+◌, ◌-◌, ◌≤◌, ◌<◌, Bool, true, ◌⊎◌, inl, inr, Option, Some, None, is_some, List, [], ◌∷◌, ◌++◌, filter, take, length, slice_get, refl, ◌∙◌, arith, append_assoc}
use Rattle.std.specs.List.{All}
use Rattle.std.proofs.lemmas.List.{append-nil, take_more}
use Rattle.std.proofs.lemmas.List.Elements.{All-nil, All-append, All-from_recursion, filter-append, filter_map-append}
use Rattle.std.proofs.lemmas.Option.{slice_get_within, get_or_from_slice_get, slice_get_cases}
use Rattle.sipl_choice.specs.declared.endpoint.Endpoint.{Endpoint}
use Rattle.sipl_tx.specs.Transaction.{first_state}
use Rattle.sipl_failover.specs.declared.step.Step.{Step}
use Rattle.sipl_failover.specs.declared.step.Step.TheVariants.{Send}
use Rattle.sipl_failover.specs.FailoverRun.{FailoverRun, Event, has_ended}
use Rattle.sipl_failover.specs.Runs.{step, run_after, steps_of, IsAck, is_send, is_exhausted, is_final, contacted, contacted_target}
use Rattle.sipl_failover.proofs.EventLemmas.{same_targets, ended_stays, ended_acks, none_sent_stays, none_sent_contacts, send_has_target, send_moves, send_contacts, attempt_grows, provisional_stays_known, exhausted_ends, exhausted_once, exhausted_not_after_end, final_ends, final_once, final_not_after_end}

-- ---- after the end

pub ended_stays_over : (run : FailoverRun) (events : List Event) → has_ended run ≡ true → run_after run events ≡ run
unfolding run_after
ended_stays_over run [] ended = refl
ended_stays_over run (event ∷ events) ended =
    rw (ended_stays run event ended) (ended_stays_over run events ended)

pub ended_acks_over : (run : FailoverRun) (events : List Event) → has_ended run ≡ true → All IsAck (steps_of run events)
unfolding steps_of
ended_acks_over run [] ended = All-nil IsAck
ended_acks_over run (event ∷ events) ended =
    All-append IsAck (step run event).steps (steps_of (step run event).run events)
    (All-from_recursion IsAck (step run event).steps (ended_acks run event ended))
    (rw (ended_stays run event ended) (ended_acks_over run events ended))

-- ---- steps that come at most once, since they end the run

none_after_end : (test : Step → Bool) → ((run : FailoverRun) (event : Event) → has_ended run ≡ true → filter test (step run event).steps ≡ []) → (run : FailoverRun) (events : List Event) → has_ended run ≡ true → filter test (steps_of run events) ≡ []
unfolding steps_of
none_after_end test none run [] ended = refl
none_after_end test none run (event ∷ events) ended =
    filter-append test (step run event).steps (steps_of (step run event).run events)
    ∙ rw (none run event ended, ended_stays run event ended) (none_after_end test none run events ended)

empty_or_not : {A : Type 0} (xs : List A) → (xs ≡ []) ⊎ (xs ≢ [])
empty_or_not [] = inl refl
empty_or_not (x ∷ xs) = inr (λ e. absurd (cc e))

once_before_end : (test : Step → Bool) → ((run : FailoverRun) (event : Event) → has_ended run ≡ true → filter test (step run event).steps ≡ []) → ((run : FailoverRun) (event : Event) → filter test (step run event).steps ≢ [] → has_ended (step run event).run ≡ true) → ((run : FailoverRun) (event : Event) → length (filter test (step run event).steps) ≤ 1) → (run : FailoverRun) (events : List Event) → length (filter test (steps_of run events)) ≤ 1
unfolding steps_of
once_before_end test none ends few run [] = omega arith
once_before_end test none ends few run (event ∷ events) =
    rw (filter-append test (step run event).steps (steps_of (step run event).run events))
    (elim (empty_or_not (filter test (step run event).steps)) [
      | inl empty ↦ rw empty (once_before_end test none ends few (step run event).run events)
      | inr some ↦ rw (none_after_end test none (step run event).run events (ends run event some), append-nil) (few run event)
    ])

pub exhausted_once_over : (run : FailoverRun) (events : List Event) → length (filter is_exhausted (steps_of run events)) ≤ 1
exhausted_once_over = once_before_end is_exhausted exhausted_not_after_end exhausted_ends exhausted_once

pub final_once_over : (run : FailoverRun) (events : List Event) → length (filter is_final (steps_of run events)) ≤ 1
final_once_over = once_before_end is_final final_not_after_end final_ends final_once

-- ---- the targets that are contacted

next_is_taken : (run : FailoverRun) (event : Event) → filter is_send (step run event).steps ≢ [] → (next : Option Endpoint) → slice_get run.targets run.attempt ≡ next → is_some next ≡ true → take run.attempt run.targets ++ contacted run.targets (step run event).steps ≡ take (step run event).run.attempt run.targets
next_is_taken run event some None is_next there = absurd (cc there)
next_is_taken run event some (Some target) is_next there =
    let left : run.attempt < length run.targets = slice_get_within run.targets run.attempt target is_next in
    let same : run.attempt + 1 - 1 ≡ run.attempt = omega arith in
    rw (send_contacts run event run.targets some, send_moves run event some, same, is_next, take_more run.targets run.attempt target left, get_or_from_slice_get run.targets run.attempt target target is_next) refl

-- one event contacts the next target or none
contacts_next : (run : FailoverRun) (event : Event) → take run.attempt run.targets ++ contacted run.targets (step run event).steps ≡ take (step run event).run.attempt run.targets
contacts_next run event =
    elim (empty_or_not (filter is_send (step run event).steps)) [
      | inl none ↦ rw (none_sent_contacts run event run.targets none, none_sent_stays run event none, append-nil) refl
      | inr some ↦ next_is_taken run event some (slice_get run.targets run.attempt) refl (send_has_target run event some)
    ]

pub contacts_prefix : (run : FailoverRun) (events : List Event) → take run.attempt run.targets ++ contacted run.targets (steps_of run events) ≡ take (run_after run events).attempt run.targets
unfolding steps_of run_after
contacts_prefix run [] = append-nil (take run.attempt run.targets)
contacts_prefix run (event ∷ events) =
    let later = rw (same_targets run event) at (contacts_prefix (step run event).run events) in
    rw (filter_map-append (contacted_target run.targets) (step run event).steps (steps_of (step run event).run events), ← append_assoc, contacts_next run event) later

pub contacts_first : (targets : List Endpoint) (steps : List Step) → contacted targets (Send 1 ∷ steps) ≡ take 1 targets ++ contacted targets steps
contacts_first [] steps = refl
contacts_first (target ∷ targets) steps = refl

-- ---- a provisional response

attempt_grows_over : (run : FailoverRun) (events : List Event) → run.attempt ≤ (run_after run events).attempt
unfolding run_after
attempt_grows_over run [] = omega arith
attempt_grows_over run (event ∷ events) =
    omega (arith, attempt_grows run event, attempt_grows_over (step run event).run events)

pub known_over : (run : FailoverRun) (events : List Event) → run.transaction.state ≢ first_state run.transaction.kind → (run_after run events).attempt ≡ run.attempt → (run_after run events).transaction.state ≢ first_state (run_after run events).transaction.kind
unfolding run_after
known_over run [] known same = known
known_over run (event ∷ events) known same =
    let grows = attempt_grows run event in
    let grows_more = attempt_grows_over (step run event).run events in
    let here : (step run event).run.attempt ≡ run.attempt = omega arith in
    let there : (run_after (step run event).run events).attempt ≡ (step run event).run.attempt = omega arith in
    known_over (step run event).run events (provisional_stays_known run event known here) there

-- ---- indices

some_within : {A : Type 0} (xs : List A) (k : ℕ) (found : Option A) → slice_get xs k ≡ found → is_some found ≡ true → k < length xs
some_within xs k None e there = absurd (cc there)
some_within xs k (Some x) e there = slice_get_within xs k x e

pub is_some_within : {A : Type 0} (xs : List A) (k : ℕ) → is_some (slice_get xs k) ≡ true → k < length xs
is_some_within xs k there = some_within xs k (slice_get xs k) refl there

pub target_within : {A : Type 0} (xs : List A) (k : ℕ) → k < length xs → (x : A) × (slice_get xs k ≡ Some x)
target_within xs k within = elim ((slice_get_cases xs k).1) [
  | inl found ↦ (found.0, found.2)
  | inr past ↦ absurd (omega (arith, past.0))
]

pub none_past : {A : Type 0} (xs : List A) (k : ℕ) → slice_get xs k ≡ None → length xs ≤ k
none_past xs k none = elim ((slice_get_cases xs k).1) [
  | inl found ↦ absurd (cc (none, found.2))
  | inr past ↦ past.0
]
