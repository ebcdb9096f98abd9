-- Ids that no entry has, after a change of the entries.
use Rattle.std.proofs.Common.{◌≡◌, ℕ, ◌<◌, eqb, not, Bool, true, false, List, [], ◌∷◌, ◌++◌, map, Some, None, inl, inr, refl, sym, ap, ◌∙◌, arith}
use Rattle.std.specs.List.{All, filter}
use Rattle.std.proofs.lemmas.Bool.{cases_Bool, cond-true, cond-false}
use Rattle.std.proofs.lemmas.List.Elements.{All-head, All-tail}
use Rattle.sipl_uri.specs.declared.question.Question.{Question}
use Rattle.sipl_plans.specs.Findings.{Found}
use Rattle.sipl_book.specs.Cache.{InOrder}
use Rattle.sipl_book.specs.Entries.{EntryState, committed, entry_of, is_of, renewed}
use Rattle.sipl_book.specs.Repairs.{entry_with, without}
use Rattle.sipl_book.proofs.Public.{All-entry_of, InOrder-head, InOrder-tail, committed_cases, differ, id-renewed}

-- the first entry has another id
first_apart : (e : EntryState) (es : List EntryState) (id : ℕ) → entry_with (e ∷ es) id ≡ None → (eqb e.id id ≡ false) × (entry_with es id ≡ None)
first_apart e es id none = elim (cases_Bool (eqb e.id id)) [
  | inl own ↦ let never : Some e ≡ None = sym (cond-true _ _ _ own) ∙ none in cc
  | inr other ↦ (other, sym (cond-false _ _ _ other) ∙ none)
]

absent-cons : (e : EntryState) (es : List EntryState) (id : ℕ) → eqb e.id id ≡ false → entry_with es id ≡ None → entry_with (e ∷ es) id ≡ None
absent-cons e es id other none = cond-false _ _ _ other ∙ none

pub absent-map : (f : EntryState → EntryState) → ((e : EntryState) → (f e).id ≡ e.id) → (es : List EntryState) (id : ℕ)
    → entry_with es id ≡ None → entry_with (map f es) id ≡ None
absent-map f same [] id none = refl
absent-map f same (e ∷ es) id none =
    let parts = first_apart e es id none in
    absent-cons (f e) (map f es) id (ap (λ n. eqb n id) (same e) ∙ parts.0) (absent-map f same es id parts.1)

pub absent-push : (es : List EntryState) (e : EntryState) (id : ℕ) → entry_with es id ≡ None → eqb e.id id ≡ false → entry_with (es ++ e ∷ []) id ≡ None
absent-push [] e id none other = absent-cons e [] id other refl
absent-push (first ∷ es) e id none other =
    let parts = first_apart first es id none in
    absent-cons first (es ++ e ∷ []) id parts.0 (absent-push es e id parts.1 other)

pub absent-filter : (p : EntryState → Bool) (es : List EntryState) (id : ℕ) → entry_with es id ≡ None → entry_with (filter p es) id ≡ None
absent-filter p [] id none = refl
absent-filter p (e ∷ es) id none =
    let parts = first_apart e es id none in
    elim (cases_Bool (p e)) [
      | inl kept ↦ ap (λ xs. entry_with xs id) (cond-true _ _ _ kept) ∙ absent-cons e (filter p es) id parts.0 (absent-filter p es id parts.1)
      | inr dropped ↦ ap (λ xs. entry_with xs id) (cond-false _ _ _ dropped) ∙ absent-filter p es id parts.1
    ]

-- an id below those of all entries is that of none
absent-below : (es : List EntryState) (id : ℕ) → All (λ e. id < e.id) es → entry_with es id ≡ None
absent-below [] id above = refl
absent-below (e ∷ es) id above =
    let P : EntryState → Type 0 = λ x. id < x.id in
    let here = All-head P e es above in
    absent-cons e es id (differ e.id id (λ same. omega (arith, here, same))) (absent-below es id (All-tail P e es above))

-- a commit gives no entry an id below the number of its event
pub absent-committed : (found : Found) (number max : ℕ) (es : List EntryState) (id : ℕ) → id < number
    → entry_with es id ≡ None → entry_with (committed found number max es) id ≡ None
absent-committed found number max es id below none =
    committed_cases found number max es (λ new. entry_with new id ≡ None)
    (λ _ _. absent-map (renewed found) (id-renewed found) es id none)
    (λ _ _. absent-push es (record { id = number; is_current = true; found = found }) id none (differ number id (λ same. omega (arith, below, same))))
    (λ _ _. none)

-- the entry of a question is the only one with its id
pub absent-without : (q : Question) (es : List EntryState) (e : EntryState) → InOrder es → entry_of es q ≡ Some e → entry_with (without q es) e.id ≡ None
absent-without q [] e order own = cc
absent-without q (x ∷ es) e order own = elim (cases_Bool (is_of q x)) [
  | inl here ↦
      let same : Some x ≡ Some e = sym (cond-true _ _ _ here) ∙ own in
      let is : x ≡ e = cc in
      let kept : without q (x ∷ es) ≡ without q es = cond-false _ _ _ (ap not here) in
      ap (λ xs. entry_with xs e.id) kept
      ∙ absent-filter (λ y. not (is_of q y)) es e.id (ap (λ (y : EntryState). entry_with es y.id) (sym is) ∙ absent-below es x.id (InOrder-head x es order))
  | inr other ↦
      let rest : entry_of es q ≡ Some e = sym (cond-false _ _ _ other) ∙ own in
      let above : x.id < e.id = All-entry_of (λ y. x.id < y.id) q es e (InOrder-head x es order) rest in
      let kept : without q (x ∷ es) ≡ x ∷ without q es = cond-true _ _ _ (ap not other) in
      ap (λ xs. entry_with xs e.id) kept
      ∙ absent-cons x (without q es) e.id (differ x.id e.id (λ same. omega (arith, above, same))) (absent-without q es e (InOrder-tail x es order) rest)
]
