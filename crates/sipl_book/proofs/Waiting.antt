-- What is queued is outdated, after each change of the entries and the queue.
use Rattle.std.proofs.Common.{◌≡◌, ℕ, Bool, true, false, not, ◌&&◌, ◌||◌, cond, eqb, List, [], ◌∷◌, ◌++◌, map, filter, inl, inr, refl, sym, ap, ◌∙◌, true≢false}
use Rattle.std.specs.FinSet as set
use Rattle.std.specs.List.{All, list_any}
use Rattle.std.proofs.lemmas.Bool.{and_from, and_parts, cond_both, eq-eqb, or_cases, or_left, or_right}
use Rattle.std.proofs.lemmas.List.Elements.{All-nil, All-cons, All-head, All-tail}
use Rattle.std.proofs.lemmas.List.Folds.{list_any-append}
use Rattle.std.proofs.lemmas.Map.Views.{exact_unsigned_eq}
use Rattle.sipl_records.specs.declared.record.Key.{Key}
use Rattle.sipl_uri.specs.declared.question.Question.{Question}
use Rattle.sipl_plans.specs.Findings.{Found}
use Rattle.sipl_repair.specs.QueueState.{QueueState, is_queued, is_held, is_leased, with_first_leased, after_mark, after_requeue, after_give_back}
use Rattle.sipl_book.specs.Entries.{EntryState, after_change, depends_on, is_of, renewed}
use Rattle.sipl_book.specs.Repairs.{after_marks, is_outdated, outdated, without}
use Rattle.sipl_book.proofs.Committed.{is_of_decides, renewed_cases}

abbrev pub AreOutdated : List EntryState → QueueState → Type 0
AreOutdated es q = (id : ℕ) → is_queued q id ≡ true → is_outdated es id ≡ true

-- whether an entry is the outdated one of an id
abbrev IsOutdatedAs : ℕ → EntryState → Bool
IsOutdatedAs id e = eqb e.id id && not e.is_current

was_true : (b : Bool) → not b ≡ false → b ≡ true
was_true true is = refl
was_true false is = absurd (true≢false is)

was_false : (b : Bool) → not b ≡ true → b ≡ false
was_false true is = absurd (true≢false (sym is))
was_false false is = refl

only : (b : Bool) → (b || false) ≡ true → b ≡ true
only true is = refl
only false is = is

-- ---- the queue

appended : (es : List EntryState) (ks : List ℕ) (id : ℕ) → ((k : ℕ) → list_any (eqb k) ks ≡ true → is_outdated es k ≡ true) → is_outdated es id ≡ true
    → (k : ℕ) → list_any (eqb k) (ks ++ id ∷ []) ≡ true → is_outdated es k ≡ true
appended es ks id so own k queued =
    elim (or_cases (list_any (eqb k) ks) (eqb k id || false) (sym (list_any-append (eqb k) ks (id ∷ [])) ∙ queued)) [
      | inl before ↦ so k before
      | inr here ↦ ap (is_outdated es) (exact_unsigned_eq k id (only (eqb k id) here)) ∙ own
    ]

outdated-mark : (es : List EntryState) (q : QueueState) (id : ℕ) → AreOutdated es q → is_outdated es id ≡ true → AreOutdated es (after_mark q id)
outdated-mark es q id so own =
    cond_both (is_held q id) q (record q { queued = q.queued ++ id ∷ [] }) (AreOutdated es) (λ _. so) (λ _. appended es q.queued id so own)

pub outdated-marks : (es : List EntryState) (q : QueueState) (ids : List ℕ) → AreOutdated es q → All (λ id. is_outdated es id ≡ true) ids → AreOutdated es (after_marks q ids)
outdated-marks es q [] so own = so
outdated-marks es q (id ∷ ids) so own =
    let P : ℕ → Type 0 = λ k. is_outdated es k ≡ true in
    outdated-marks es (after_mark q id) ids (outdated-mark es q id so (All-head P id ids own)) (All-tail P id ids own)

-- the ids of the outdated entries are those of outdated entries
pub are_outdated : (es : List EntryState) → All (λ id. is_outdated es id ≡ true) (outdated es)
are_outdated [] = All-nil (λ id. is_outdated [] id ≡ true)
are_outdated (x ∷ xs) =
    let P : ℕ → Type 0 = λ id. is_outdated (x ∷ xs) id ≡ true in
    let later : All P (outdated xs) = λ k d below. or_right (eqb x.id _ && not x.is_current) (is_outdated xs _) (are_outdated xs k d below) in
    elim (x.is_current) as (λ b. x.is_current ≡ b → All P (map (λ y. y.id) (cond (not b) (x ∷ filter (λ y. not y.is_current) xs) (filter (λ y. not y.is_current) xs)))) [
      | true ↦ λ _. later
      | false ↦ λ out_of_date. All-cons P x.id (outdated xs)
          (or_left (eqb x.id x.id && not x.is_current) (is_outdated xs x.id) (and_from (eqb x.id x.id) (not x.is_current) (eq-eqb x.id x.id refl) (ap not out_of_date)))
          later
    ] refl

pub outdated-lease : (es : List EntryState) (q : QueueState) → AreOutdated es q → (ks : List ℕ) → ks ≡ q.queued → AreOutdated es (with_first_leased q ks)
outdated-lease es q so [] is = so
outdated-lease es q so (k ∷ ks) is =
    λ id queued. so id (ap (list_any (eqb id)) (sym is) ∙ or_right (eqb id k) (list_any (eqb id) ks) queued)

pub outdated-requeue : (es : List EntryState) (q : QueueState) (id : ℕ) → AreOutdated es q → is_outdated es id ≡ true → AreOutdated es (after_requeue q id)
outdated-requeue es q id so own =
    cond_both (is_leased q id) (record q { queued = q.queued ++ id ∷ []; leased = set.remove q.leased id }) q (AreOutdated es)
    (λ _. appended es q.queued id so own) (λ _. so)

pub outdated-give_back : (es : List EntryState) (q : QueueState) (id : ℕ) → AreOutdated es q → is_outdated es id ≡ true → AreOutdated es (after_give_back q id)
outdated-give_back es q id so own =
    cond_both (is_leased q id) (record q { queued = id ∷ q.queued; leased = set.remove q.leased id }) q (AreOutdated es)
    (λ _ k queued. elim (or_cases (eqb k id) (is_queued q k) queued) [
      | inl same ↦ ap (is_outdated es) (exact_unsigned_eq k id same) ∙ own
      | inr before ↦ so k before
    ]) (λ _. so)

-- ---- the entries

-- an outdated entry stays so when sets change
pub outdated-after_change : (keys : List Key) (es : List EntryState) (id : ℕ) → is_outdated es id ≡ true → is_outdated (map (after_change keys) es) id ≡ true
outdated-after_change keys [] id is = is
outdated-after_change keys (e ∷ es) id is =
    elim (or_cases (eqb e.id id && not e.is_current) (is_outdated es id) is) [
      | inl here ↦
          let parts = and_parts (eqb e.id id) (not e.is_current) here in
          or_left (IsOutdatedAs id (after_change keys e)) (is_outdated (map (after_change keys) es) id)
          (and_from (eqb e.id id) (not (e.is_current && not (depends_on keys e))) parts.0 (ap (λ b. not (b && not (depends_on keys e))) (was_false e.is_current parts.1)))
      | inr rest ↦
          or_right (IsOutdatedAs id (after_change keys e)) (is_outdated (map (after_change keys) es) id) (outdated-after_change keys es id rest)
    ]

-- an id that is not that of a question's entries
abbrev pub HasId : Question → ℕ → EntryState → Type 0
HasId question id e = e.found.question ≡ question → e.id ≡ id

other_entry : (e : EntryState) (own k : ℕ) → e.id ≡ own → eqb k own ≡ false → (eqb e.id k && not e.is_current) ≡ true → ⊥
other_entry e own k mine other here =
    let same = exact_unsigned_eq e.id k (and_parts (eqb e.id k) (not e.is_current) here).0 in
    true≢false (sym (eq-eqb k own (sym same ∙ mine)) ∙ other)

-- another entry stays outdated when a question's entry is renewed
pub outdated-renewed : (found : Found) (es : List EntryState) (own : ℕ) → All (HasId found.question own) es → (k : ℕ) → eqb k own ≡ false
    → is_outdated es k ≡ true → is_outdated (map (renewed found) es) k ≡ true
outdated-renewed found [] own mine k other is = is
outdated-renewed found (e ∷ es) own mine k other is =
    elim (or_cases (eqb e.id k && not e.is_current) (is_outdated es k) is) [
      | inl here ↦
          or_left (IsOutdatedAs k (renewed found e)) (is_outdated (map (renewed found) es) k)
          (renewed_cases found e (λ x. IsOutdatedAs k x ≡ true)
          (λ same. absurd (other_entry e own k (All-head (HasId found.question own) e es mine same) other here)) (λ _. here))
      | inr rest ↦
          or_right (IsOutdatedAs k (renewed found e)) (is_outdated (map (renewed found) es) k)
          (outdated-renewed found es own (All-tail (HasId found.question own) e es mine) k other rest)
    ]

-- or when it is removed
pub outdated-without : (question : Question) (es : List EntryState) (own : ℕ) → All (HasId question own) es → (k : ℕ) → eqb k own ≡ false
    → is_outdated es k ≡ true → is_outdated (without question es) k ≡ true
outdated-without question [] own mine k other is = is
outdated-without question (e ∷ es) own mine k other is =
    let tail = without question es in
    let P : List EntryState → Type 0 = λ xs. is_outdated xs k ≡ true in
    elim (or_cases (eqb e.id k && not e.is_current) (is_outdated es k) is) [
      | inl here ↦
          cond_both (not (is_of question e)) (e ∷ tail) tail P (λ _. or_left (IsOutdatedAs k e) (is_outdated tail k) here)
          (λ own_one. absurd (other_entry e own k (All-head (HasId question own) e es mine ((is_of_decides question e).0 (was_true (is_of question e) own_one))) other here))
      | inr rest ↦
          let later = outdated-without question es own (All-tail (HasId question own) e es mine) k other rest in
          cond_both (not (is_of question e)) (e ∷ tail) tail P (λ _. or_right (IsOutdatedAs k e) (is_outdated tail k) later) (λ _. later)
    ]

-- or when an entry is added
pub outdated-added : (es : List EntryState) (x : EntryState) (k : ℕ) → is_outdated es k ≡ true → is_outdated (es ++ x ∷ []) k ≡ true
outdated-added es x k is = list_any-append (IsOutdatedAs k) es (x ∷ []) ∙ or_left (is_outdated es k) _ is
