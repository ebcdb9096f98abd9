-- What `unique` keeps of a list.
use Rattle.std.proofs.Common.{◌≡◌, ◌<◌, Bool, true, false, not, cond, ◌&&◌, ◌||◌, List, [], ◌∷◌, ◌++◌, Some, refl, ap, sym, ◌∙◌, inl, inr, if◌then◌else◌, append-nil, arith}
use Rattle.std.specs.Prelude.{◌↔◌}
use Rattle.std.specs.Bool.{Decides}
use Rattle.std.specs.Cmp.{IsEquivalence}
use Rattle.std.specs.List.{filter, find, list_any, All, AllPairs, Contains, IsDistinct, position_or_len}
use Rattle.std.proofs.lemmas.Bool.{cases_Bool}
use Rattle.std.proofs.lemmas.Bool.Decides.{same_from_decides, Decides-like}
use Rattle.std.proofs.lemmas.List.Elements.{filter_agree, filter-append, filter_passes, All-nil, All-cons, recursion_from_All}
use Rattle.std.proofs.lemmas.List.Kept.{AllPairs-cons}
use Rattle.std.proofs.lemmas.Map.Keys.{IsDistinct-from_apart, apart_from_distinct}
use Rattle.std.proofs.lemmas.Map.Views.{Contains-from_any, list_any-from_Contains}
use Rattle.sipl_records.specs.Unique.{unique}
use Rattle.sipl_records.proofs.Filters.{filter-filter, filter-swap, filter-weaker, list_any-filter, All-filter_weaker, AllPairs-filter_weaker}

-- a test that decides equality is an equivalence
pub equivalence_from_decides : {A : Type 0} (same : A → A → Bool) → ((a b : A) → Decides (same a b) (a ≡ b)) → IsEquivalence same
equivalence_from_decides same decides = record {
  refl = λ a. (decides a a).1 refl;
  symm = λ a b. same_from_decides (same a b) (same b a) (decides a b) (Decides-like (same b a) (λ e. sym e) (λ e. sym e) (decides b a));
  congr = λ a b c e. ap (λ x. same x c) ((decides a b).0 e);
}

pub transitive_from_equivalence : {A : Type 0} (same : A → A → Bool) → IsEquivalence same → (a b c : A) → same a b ≡ true → same b c ≡ true → same a c ≡ true
transitive_from_equivalence same laws a b c ab bc = laws.congr a b c ab ∙ bc

not_same : (b : Bool) → not b ≡ false → b ≡ true
not_same true e = refl
not_same false e = sym e

is_other : (b : Bool) → not b ≡ true → b ≡ false
is_other true e = sym e
is_other false e = refl

step : {A : Type 0} (same : A → A → Bool) → ((a b c : A) → same a b ≡ true → same b c ≡ true → same a c ≡ true) → (a x : A) (others : List A) → (same a x || list_any (λ y. same y x) (filter (λ y. not (same a y)) others)) ≡ (same a x || list_any (λ y. same y x) others)
step same trans a x others = elim (cases_Bool (same a x)) [
  | inl here ↦ rw here refl
  | inr other ↦ ap (λ b. same a x || b) (list_any-filter (λ y. same y x) (λ y. not (same a y)) (λ y same_y. elim (cases_Bool (same y x)) [ inl holds ↦ let never : true ≡ false = sym (trans a y x (not_same (same a y) same_y) holds) ∙ other in cc | inr fails ↦ fails ]) others)
]

-- a value is the same as one that is kept where it is the same as one of the list
pub list_any-unique : {A : Type 0} (same : A → A → Bool) → ((a b c : A) → same a b ≡ true → same b c ≡ true → same a c ≡ true) → (xs : List A) (x : A) → list_any (λ y. same y x) (unique same xs) ≡ list_any (λ y. same y x) xs
list_any-unique same trans [] x = refl
list_any-unique same trans (a ∷ xs) x =
    step same trans a x (unique same xs) ∙ ap (λ b. same a x || b) (list_any-unique same trans xs x)

filter-true : {A : Type 0} (xs : List A) → filter (λ _. true) xs ≡ xs
filter-true [] = refl
filter-true (x ∷ xs) = ap (λ ys. x ∷ ys) (filter-true xs)

not_both : (a b : Bool) → (not b && not a) ≡ not (a || b)
not_both true true = refl
not_both true false = refl
not_both false true = refl
not_both false false = refl

-- two lists joined: of the second, the values that are not in the first
pub unique-append_list : {A : Type 0} (same : A → A → Bool) (xs ys : List A) → unique same (xs ++ ys) ≡ unique same xs ++ filter (λ y. not (list_any (λ x. same x y) xs)) (unique same ys)
unique-append_list same [] ys = sym (filter-true (unique same ys))
unique-append_list same (a ∷ xs) ys =
    ap (λ zs. a ∷ zs) (ap (filter (λ y. not (same a y))) (unique-append_list same xs ys)
    ∙ filter-append (λ y. not (same a y)) (unique same xs) (filter (λ y. not (list_any (λ x. same x y) xs)) (unique same ys))
    ∙ ap (λ zs. filter (λ y. not (same a y)) (unique same xs) ++ zs) (filter-filter (λ y. not (same a y)) (λ y. not (list_any (λ x. same x y) xs)) (unique same ys) ∙ filter_agree (λ y. not (list_any (λ x. same x y) xs) && not (same a y)) (λ y. not (same a y || list_any (λ x. same x y) xs)) (λ y. not_both (same a y) (list_any (λ x. same x y) xs)) (unique same ys)))

push : {A : Type 0} (b : Bool) (kept : List A) (x : A) → kept ++ cond (not b) (x ∷ []) [] ≡ cond b kept (kept ++ x ∷ [])
push true kept x = append-nil kept
push false kept x = refl

-- one more value: it is kept where it is the same as none that is kept
pub unique-append : {A : Type 0} (same : A → A → Bool) → ((a b c : A) → same a b ≡ true → same b c ≡ true → same a c ≡ true) → (xs : List A) (x : A) → unique same (xs ++ x ∷ []) ≡ (if list_any (λ y. same y x) (unique same xs) then unique same xs else unique same xs ++ x ∷ [])
unique-append same trans xs x =
    unique-append_list same xs (x ∷ []) ∙ push (list_any (λ y. same y x) xs) (unique same xs) x ∙ ap (λ b. cond b (unique same xs) (unique same xs ++ x ∷ [])) (sym (list_any-unique same trans xs x))

-- a test that values which are the same pass together
pub unique-filter : {A : Type 0} (same : A → A → Bool) (p : A → Bool) → ((x y : A) → same x y ≡ true → p x ≡ p y) → (xs : List A) → filter p (unique same xs) ≡ unique same (filter p xs)
unique-filter same p respects [] = refl
unique-filter same p respects (x ∷ xs) = elim (cases_Bool (p x)) [
  | inl holds ↦ rw holds (ap (λ ys. x ∷ ys) (filter-swap p (λ y. not (same x y)) (unique same xs) ∙ ap (filter (λ y. not (same x y))) (unique-filter same p respects xs)))
  | inr fails ↦ rw fails (filter-weaker p (λ y. not (same x y)) (λ y here. sym (respects x y (not_same (same x y) here)) ∙ fails) (unique same xs) ∙ unique-filter same p respects xs)
]

-- no value is kept twice
pub IsDistinct-unique : {A : Type 0} (same : A → A → Bool) (xs : List A) → IsDistinct same (unique same xs)
unfolding IsDistinct
IsDistinct-unique same [] = tt
IsDistinct-unique same (x ∷ xs) =
    let others = filter_passes (λ y. not (same x y)) (unique same xs) in
    (recursion_from_All (λ y. same x y ≡ false) _ (λ k d inside. is_other _ (others k d inside)), IsDistinct-from_apart same _ (AllPairs-filter_weaker (λ a b. same a b ≡ false) (λ a b. same a b ≡ false) (λ y. not (same x y)) (λ a b _ _ apart. apart) (unique same xs) (λ i j d below inside. apart_from_distinct same (unique same xs) i j d (IsDistinct-unique same xs) below inside)))

-- each is kept as the first that is the same
pub find-unique : {A : Type 0} (same : A → A → Bool) → IsEquivalence same → (xs : List A) → All (λ x. find (same x) xs ≡ Some x) (unique same xs)
find-unique same laws [] = All-nil _
find-unique same laws (a ∷ xs) =
    All-cons (λ x. find (same x) (a ∷ xs) ≡ Some x) a (filter (λ y. not (same a y)) (unique same xs)) (rw (laws.refl a) refl) (All-filter_weaker (λ x. find (same x) xs ≡ Some x) (λ x. find (same x) (a ∷ xs) ≡ Some x) (λ y. not (same a y)) (λ x other found. rw (laws.symm x a ∙ is_other (same a x) other) found) (unique same xs) (find-unique same laws xs))

-- the first value is before each other
at_front : {A : Type 0} (same : A → A → Bool) → IsEquivalence same → (a : A) (xs : List A) (x : A) → same a x ≡ false → position_or_len (same a) (a ∷ xs) < position_or_len (same x) (a ∷ xs)
at_front same laws a xs x other = rw (laws.refl a, laws.symm x a ∙ other) (omega arith)

-- and the others keep their order after it
one_later : {A : Type 0} (same : A → A → Bool) → IsEquivalence same → (a : A) (xs : List A) (x y : A) → not (same a x) ≡ true → not (same a y) ≡ true → position_or_len (same x) xs < position_or_len (same y) xs → position_or_len (same x) (a ∷ xs) < position_or_len (same y) (a ∷ xs)
one_later same laws a xs x y other_x other_y below =
    rw (laws.symm x a ∙ is_other (same a x) other_x, laws.symm y a ∙ is_other (same a y) other_y) (omega arith)

-- in the order of their first places
pub ordered-unique : {A : Type 0} (same : A → A → Bool) → IsEquivalence same → (xs : List A) → AllPairs (λ x y. position_or_len (same x) xs < position_or_len (same y) xs) (unique same xs)
ordered-unique same laws [] = λ i j d below inside. absurd (omega arith)
ordered-unique same laws (a ∷ xs) =
    let passes = filter_passes (λ y. not (same a y)) (unique same xs) in
    AllPairs-cons (λ x y. position_or_len (same x) (a ∷ xs) < position_or_len (same y) (a ∷ xs)) a (filter (λ y. not (same a y)) (unique same xs)) (λ k d inside. at_front same laws a xs _ (is_other _ (passes k d inside))) (AllPairs-filter_weaker (λ x y. position_or_len (same x) xs < position_or_len (same y) xs) (λ x y. position_or_len (same x) (a ∷ xs) < position_or_len (same y) (a ∷ xs)) (λ y. not (same a y)) (one_later same laws a xs) (unique same xs) (ordered-unique same laws xs))

-- each value of a list is kept
pub Contains-unique : {A : Type 0} (same : A → A → Bool) → ((a b : A) → Decides (same a b) (a ≡ b)) → (xs : List A) (x : A) → Contains (unique same xs) x ↔ Contains xs x
Contains-unique {A} same decides xs x =
    let back : (a b : A) → Decides (same b a) (a ≡ b) = λ a b. Decides-like (same b a) (λ e. sym e) (λ e. sym e) (decides b a) in
    let laws : IsEquivalence (λ a b. same b a) = equivalence_from_decides (λ a b. same b a) back in
    let kept = list_any-unique same (transitive_from_equivalence same (equivalence_from_decides same decides)) xs x in
    (λ among. Contains-from_any (λ a b. (back a b).0) x xs (sym kept ∙ list_any-from_Contains laws x (unique same xs) among), λ among. Contains-from_any (λ a b. (back a b).0) x (unique same xs) (kept ∙ list_any-from_Contains laws x xs among))
