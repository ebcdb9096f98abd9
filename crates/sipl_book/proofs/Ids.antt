-- The ids of the entries, which ascend: no two entries have the same.
use Rattle.std.proofs.Common.{◌≡◌, ◌≢◌, ℕ, suc, ◌<◌, ◌≤◌, Bool, true, false, not, ◌&&◌, ◌||◌, cond, eqb, ltb, List, [], ◌∷◌, map, length, get_or, zero, None, Some, Err, is_some, option_map, inl, inr, refl, sym, ap, subst, ◌∙◌, arith, true≢false}
use Rattle.std.specs.List.{All, AllPairs, HoldsAt, IsDistinct, list_any}
use Rattle.std.specs.List.Sorted.{IsBinarySearchResult, IsNonDecreasingBy, IsPartitionPoint}
use Rattle.std.specs.Ordering.{nat_cmp, ordering_index}
use Rattle.std.specs.declared.cmp.Ordering.TheVariants.{Less, Equal, Greater}
use Rattle.std.proofs.Math.ListN.{length-map}
use Rattle.std.proofs.lemmas.Bool.{cases_Bool, cond-true, cond-false, eq-eqb, ltb-true, ltb-false}
use Rattle.std.proofs.lemmas.Bool.Decides.{nat_tests}
use Rattle.std.proofs.lemmas.Cmp.{ranked}
use Rattle.std.proofs.lemmas.List.{get_or-map}
use Rattle.std.proofs.lemmas.List.Elements.{All-nil, All-cons, All-head, All-tail, All-weaker}
use Rattle.std.proofs.lemmas.Map.Keys.{IsDistinct-from_apart}
use Rattle.std.proofs.lemmas.Map.Views.{exact_unsigned_eq}
use Rattle.std.proofs.lemmas.Option.{none-some, same_Some}
use Rattle.sipl_uri.specs.declared.question.Question.{Question}
use Rattle.sipl_book.specs.Cache.{InOrder}
use Rattle.sipl_book.specs.Entries.{EntryState, is_of, entry_of}
use Rattle.sipl_book.specs.Repairs.{entry_with, is_outdated}
use Rattle.sipl_book.proofs.Committed.{is_of_decides, All-entry_of}

abbrev pub ids_of : List EntryState → List ℕ
ids_of es = map (λ e. e.id) es

-- whether an id is that of an entry
abbrev pub is_id : List EntryState → ℕ → Bool
is_id es id = list_any (λ e. eqb e.id id) es

-- two numbers that differ
pub differ : (a b : ℕ) → (a ≡ b → ⊥) → eqb a b ≡ false
differ a b other = elim (cases_Bool (eqb a b)) [
  | inl same ↦ absurd (other (exact_unsigned_eq a b same))
  | inr apart ↦ apart
]

pub eqb-swap : (a b : ℕ) → eqb a b ≡ eqb b a
eqb-swap a b = elim (cases_Bool (eqb a b)) [
  | inl same ↦ same ∙ sym (eq-eqb b a (sym (exact_unsigned_eq a b same)))
  | inr apart ↦ apart ∙ sym (differ b a (λ same. true≢false (sym (eq-eqb a b (sym same)) ∙ apart)))
]

pub is_id-ids_of : (es : List EntryState) (id : ℕ) → list_any (eqb id) (ids_of es) ≡ is_id es id
is_id-ids_of [] id = refl
is_id-ids_of (e ∷ es) id = λ i. eqb-swap id e.id i || is_id-ids_of es id i

-- ---- in order

pub InOrder-head : (e : EntryState) (es : List EntryState) → InOrder (e ∷ es) → All (λ x. e.id < x.id) es
InOrder-head e es order = λ k d within. order 0 (suc k) d (omega arith) (omega arith)

pub InOrder-tail : (e : EntryState) (es : List EntryState) → InOrder (e ∷ es) → InOrder es
InOrder-tail e es order = λ i j d below within. order (suc i) (suc j) d (omega arith) (omega arith)

pub apart-ids_of : (es : List EntryState) → InOrder es → AllPairs (λ a b. eqb a b ≡ false) (ids_of es)
apart-ids_of [] order = λ i j d below within. absurd (omega arith)
apart-ids_of (e ∷ es) order =
    λ i j d below within.
    let last : j < length (e ∷ es) = omega (arith, length-map (e ∷ es) (λ (x : EntryState). x.id)) in
    let first = get_or-map (λ (x : EntryState). x.id) (e ∷ es) i e d (omega arith) in
    let second = get_or-map (λ (x : EntryState). x.id) (e ∷ es) j e d last in
    differ _ _ (λ same. let less = order i j e below last in omega (arith, less, first, second, same))

pub IsDistinct-ids_of : (es : List EntryState) → InOrder es → IsDistinct eqb (ids_of es)
IsDistinct-ids_of es order = IsDistinct-from_apart eqb (ids_of es) (apart-ids_of es order)

-- an id below those of all entries is that of none
is_id-below : (es : List EntryState) (id : ℕ) → All (λ e. id < e.id) es → is_id es id ≡ false
is_id-below [] id above = refl
is_id-below (e ∷ es) id above =
    let P : EntryState → Type 0 = λ x. id < x.id in
    let here = All-head P e es above in
    ap (λ b. b || is_id es id) (differ e.id id (λ same. omega (arith, here, same))) ∙ is_id-below es id (All-tail P e es above)

-- an id of an entry is that of the one that is found
pub entry_with-is_id : (es : List EntryState) (id : ℕ) → is_some (entry_with es id) ≡ is_id es id
entry_with-is_id [] id = refl
entry_with-is_id (e ∷ es) id = elim (eqb e.id id) as (λ b. is_some (cond b (Some e) (entry_with es id)) ≡ (b || is_id es id)) [
  | true ↦ refl
  | false ↦ entry_with-is_id es id
]

-- the entry with an id is the only one, and decides whether it is outdated
pub is_outdated-entry_with : (es : List EntryState) (id : ℕ) → InOrder es
    → is_outdated es id ≡ elim (entry_with es id) [ Some e ↦ not e.is_current | None ↦ false ]
is_outdated-entry_with [] id order = refl
is_outdated-entry_with (e ∷ es) id order =
    elim (eqb e.id id) as (λ b. eqb e.id id ≡ b → ((b && not e.is_current) || is_outdated es id)
    ≡ elim (cond b (Some e) (entry_with es id)) [ Some x ↦ not x.is_current | None ↦ false ]) [
      | true ↦ λ own. others (not e.is_current) (absent es id (subst (λ (n : ℕ). All (λ x. n < x.id) es) (exact_unsigned_eq e.id id own) (InOrder-head e es order)))
      | false ↦ λ other. is_outdated-entry_with es id (InOrder-tail e es order)
    ] refl
  where
    absent : (xs : List EntryState) (k : ℕ) → All (λ x. k < x.id) xs → is_outdated xs k ≡ false
    absent [] k above = refl
    absent (x ∷ xs) k above =
        let P : EntryState → Type 0 = λ y. k < y.id in
        let here = All-head P x xs above in
        (λ i. (differ x.id k (λ same. omega (arith, here, same)) i && not x.is_current) || is_outdated xs k)
        ∙ absent xs k (All-tail P x xs above)

    others : (b : Bool) {c : Bool} → c ≡ false → (b || c) ≡ b
    others true none = refl
    others false none = none

-- an outdated entry makes its id one of those
pub not_outdated : (es : List EntryState) (id : ℕ) → is_outdated es id ≡ false → All (λ e. e.is_current ≡ false → eqb e.id id ≡ false) es
not_outdated [] id none = All-nil (λ e. e.is_current ≡ false → eqb e.id id ≡ false)
not_outdated (e ∷ es) id none =
    All-cons (λ x. x.is_current ≡ false → eqb x.id id ≡ false) e es (first (eqb e.id id) e.is_current (is_outdated es id) none)
    (not_outdated es id (rest (eqb e.id id) e.is_current (is_outdated es id) none))
  where
    first : (a b c : Bool) → ((a && not b) || c) ≡ false → b ≡ false → a ≡ false
    first true true c none out_of_date = absurd (true≢false out_of_date)
    first true false c none out_of_date = absurd (true≢false none)
    first false b c none out_of_date = refl

    rest : (a b c : Bool) → ((a && not b) || c) ≡ false → c ≡ false
    rest true true c none = none
    rest true false c none = absurd (true≢false none)
    rest false b c none = none

-- ---- the entry of a question

-- other entries than that of a question have other ids
pub other_ids : (question : Question) (es : List EntryState) (own : EntryState) → InOrder es → entry_of es question ≡ Some own
    → All (λ e. e.found.question ≢ question → eqb e.id own.id ≡ false) es
other_ids question [] own order found = All-nil (λ e. e.found.question ≢ question → eqb e.id own.id ≡ false)
other_ids question (x ∷ es) own order found =
    let Other : EntryState → Type 0 = λ e. e.found.question ≢ question → eqb e.id own.id ≡ false in
    let above = InOrder-head x es order in
    elim (is_of question x) as (λ b. is_of question x ≡ b → cond b (Some x) (entry_of es question) ≡ Some own → All Other (x ∷ es)) [
      | true ↦ λ mine first.
          let same = same_Some x own first in
          All-cons Other x es (λ other. absurd (other ((is_of_decides question x).0 mine)))
          (All-weaker (λ e. x.id < e.id) Other (λ e less _. differ e.id own.id (λ is. omega (arith, less, is, ap (λ (y : EntryState). y.id) same))) es above)
      | false ↦ λ _ later.
          All-cons Other x es (λ _. let less = All-entry_of (λ e. x.id < e.id) question es own above later in differ x.id own.id (λ is. omega (arith, less, is)))
          (other_ids question es own (InOrder-tail x es order) later)
    ] refl found

-- ---- a search by id

-- an entry in a place is the one with its id
entry_with-at : (es : List EntryState) (i : ℕ) (d : EntryState) → InOrder es → i < length es → entry_with es (get_or es i d).id ≡ Some (get_or es i d)
entry_with-at [] i d order within = absurd (omega arith)
entry_with-at (e ∷ es) zero d order within = cond-true (eqb e.id e.id) (Some e) (entry_with es e.id) (eq-eqb e.id e.id refl)
entry_with-at (e ∷ es) (suc i) d order within =
    let x = get_or es i d in
    let below = order 0 (suc i) d (omega arith) within in
    cond-false (eqb e.id x.id) (Some e) (entry_with es x.id) (differ e.id x.id (λ same. omega (arith, below, same)))
    ∙ entry_with-at es i d (InOrder-tail e es order) (omega arith)

entry_with-none : (es : List EntryState) (id : ℕ) → ((i : ℕ) (d : EntryState) → i < length es → (get_or es i d).id ≢ id) → entry_with es id ≡ None
entry_with-none [] id other = refl
entry_with-none (e ∷ es) id other =
    cond-false (eqb e.id id) (Some e) (entry_with es id) (differ e.id id (other 0 e (omega arith)))
    ∙ entry_with-none es id (λ i d within. other (suc i) d (omega arith))

-- what a search by id ends with
pub searched_at : (es : List EntryState) (id i : ℕ) → InOrder es → i < length es → HoldsAt (λ (e : EntryState). nat_cmp e.id id ≡ Equal) es i
    → (d : EntryState) → entry_with es id ≡ Some (get_or es i d)
searched_at es id i order within equal d =
    ap (entry_with es) (sym (ranked (get_or es i d).id id _ (sym (equal d)))) ∙ entry_with-at es i d order within

pub searched_none : (es : List EntryState) (id i : ℕ) → InOrder es
    → IsBinarySearchResult (λ (e : EntryState). nat_cmp e.id id) es (Err i) → entry_with es id ≡ None
searched_none es id i order parted =
    entry_with-none es id (λ j d within same. by j d within same (parted rises))
  where
    rises : IsNonDecreasingBy (λ (e : EntryState). ordering_index (nat_cmp e.id id)) es
    rises k l d le within =
        let up : (get_or es k d).id ≤ (get_or es l d).id = grind (arith, order k l d, λ (same : k ≡ l). ap (λ n. (get_or es n d).id) same) in
        grind (arith, nat_tests)

    by : (j : ℕ) (d : EntryState) → j < length es → (get_or es j d).id ≡ id
        → IsPartitionPoint (λ (e : EntryState). nat_cmp e.id id ≡ Less) (λ e. nat_cmp e.id id ≡ Greater) es i → ⊥
    by j d within same point =
        elim (cases_Bool (ltb j i)) [
          | inl below ↦ let less : (get_or es j d).id < id = ranked _ id _ (sym (point.0 j d (omega arith) (ltb-true j i below))) in omega (arith, less, same)
          | inr above ↦ let more : id < (get_or es j d).id = ranked _ id _ (sym (point.1 j d (ltb-false j i above) within)) in omega (arith, more, same)
        ]

-- ---- the question of an id

-- what holds of each entry holds of the one with an id, and that has the id
pub All-entry_with : (P : EntryState → Type 0) (es : List EntryState) (id : ℕ) (e : EntryState) → All P es → entry_with es id ≡ Some e → P e × (e.id ≡ id)
All-entry_with P [] id e all found = absurd (none-some e found)
All-entry_with P (x ∷ es) id e all found =
    elim (eqb x.id id) as (λ b. eqb x.id id ≡ b → cond b (Some x) (entry_with es id) ≡ Some e → P e × (e.id ≡ id)) [
      | true ↦ λ own first. subst (λ y. P y × (y.id ≡ id)) (same_Some x e first) (All-head P x es all, exact_unsigned_eq x.id id own)
      | false ↦ λ other later. All-entry_with P es id e (All-tail P x es all) later
    ] refl found

-- the entry with an id is that of its question
entry_of-entry_with : (es : List EntryState) (id : ℕ) (e : EntryState) → AllPairs (λ a b. a.found.question ≢ b.found.question) es
    → entry_with es id ≡ Some e → entry_of es e.found.question ≡ Some e
entry_of-entry_with [] id e apart found = absurd (none-some e found)
entry_of-entry_with (x ∷ es) id e apart found =
    let q = e.found.question in
    let Other : EntryState → Type 0 = λ y. x.found.question ≢ y.found.question in
    let is = is_of_decides q x in
    elim (eqb x.id id) as (λ b. cond b (Some x) (entry_with es id) ≡ Some e → cond (is_of q x) (Some x) (entry_of es q) ≡ Some e) [
      | true ↦ λ first. cond-true (is_of q x) (Some x) (entry_of es q) (is.1 (ap (λ (y : EntryState). y.found.question) (same_Some x e first))) ∙ first
      | false ↦ λ later.
          let other = (All-entry_with Other es id e (λ k d within. apart 0 (suc k) d (omega arith) (omega arith)) later).0 in
          let apart' : is_of q x ≡ false = elim (cases_Bool (is_of q x)) [
            | inl own ↦ absurd (other (is.0 own))
            | inr not ↦ not
          ] in
          cond-false (is_of q x) (Some x) (entry_of es q) apart'
          ∙ entry_of-entry_with es id e (λ i j d below within. apart (suc i) (suc j) d (omega arith) (omega arith)) later
    ] found

-- so the question of an id has the entry with that id
pub own_entry : (es : List EntryState) (id : ℕ) (question : Question) → AllPairs (λ a b. a.found.question ≢ b.found.question) es
    → option_map (λ e. e.found.question) (entry_with es id) ≡ Some question → option_map (λ e. e.id) (entry_of es question) ≡ Some id
own_entry es id question apart own =
    elim (entry_with es id) as (λ o. entry_with es id ≡ o → option_map (λ e. e.found.question) o ≡ Some question → option_map (λ e. e.id) (entry_of es question) ≡ Some id) [
      | None ↦ λ _ none. absurd (none-some question none)
      | Some e ↦ λ found same.
          let is : e.found.question ≡ question = same_Some e.found.question question same in
          let number = (All-entry_with (λ y. y ≡ y) es id e (λ k d within. refl) found).1 in
          ap (λ q. option_map (λ x. x.id) (entry_of es q)) (sym is) ∙ ap (option_map (λ x. x.id)) (entry_of-entry_with es id e apart found) ∙ ap Some number
    ] refl own
