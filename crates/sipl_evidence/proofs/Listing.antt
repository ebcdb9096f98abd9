-- The ids of the first pairs of a code.
use Rattle.std.proofs.Common.{◌≡◌, ℕ, zero, suc, ◌<◌, ◌≤◌, true, false, ◌||◌, eqb, ltb, List, [], ◌∷◌, ◌++◌, Option, None, Some, is_some, length, refl, sym, ap, ◌∙◌, ◌⊎◌, inl, inr, arith, true≢false, Decides, length-append}
use Rattle.std.specs.List.{list_any, IsDistinct}
use Rattle.std.specs.Cmp.{nat_eq_equiv}
use Rattle.std.proofs.lemmas.Bool.{cases_Bool, or_cases, or_left, or_right, eqb-true, eq-eqb, ltb-true, ltb-false}
use Rattle.std.proofs.lemmas.Bool.Decides.{same_from_decides, Decides-like}
use Rattle.std.proofs.lemmas.List.Folds.{list_any-append}
use Rattle.std.proofs.lemmas.Map.Made.{length-le_from_is_member}
use Rattle.std.proofs.lemmas.Map.Keys.{IsDistinct-push}
use Rattle.sipl_evidence.specs.declared.spot.Spot.{Spot}
use Rattle.sipl_evidence.specs.declared.lists.Lists.{Lists}
use Rattle.sipl_evidence.specs.Spots.{spot}
use Rattle.sipl_evidence.specs.Lists.{at, len_of, AreDense}
use Rattle.sipl_evidence.specs.Dependents.{AreIdsOf, ids_of}
use Rattle.sipl_evidence.specs.Linked.{Table, IsOnce, pairs_of}
use Rattle.sipl_evidence.proofs.Pairs.{HasPair, len-le-ids, list_any-ids_of, ids_are_distinct}
use Rattle.sipl_evidence.proofs.Linking.{Decides-pairs, within_len, some_within}

abbrev pub id_at : Option Spot → ℕ
id_at None = 0
id_at (Some p) = p.list

-- the ids of the first n places of a list
abbrev pub first_ids : Table → ℕ → ℕ → List ℕ
first_ids a code zero = []
first_ids a code (suc n) = first_ids a code n ++ id_at (a (spot code n)) ∷ []

pub length-first_ids : (a : Table) (code n : ℕ) → length (first_ids a code n) ≡ n
length-first_ids a code zero = refl
length-first_ids a code (suc n) = omega (arith, length-append (first_ids a code n) (id_at (a (spot code n)) ∷ []), length-first_ids a code n)

-- one of the first n places has the id
abbrev HasFirst : Table → ℕ → ℕ → ℕ → Type 0
HasFirst a code n id = (q : ℕ) × (p : Spot) × (q < n) × (a (spot code q) ≡ Some p) × (p.list ≡ id)

first-from : (a : Table) (code n id : ℕ) → ((q : ℕ) → q < n → is_some (a (spot code q)) ≡ true) → list_any (eqb id) (first_ids a code n) ≡ true → HasFirst a code n id
first-from a code zero id there e = absurd (true≢false (sym e))
first-from a code (suc n) id there e =
    elim (or_cases (list_any (eqb id) (first_ids a code n)) (eqb id (id_at (a (spot code n))) || false) (sym (list_any-append (eqb id) (first_ids a code n) (id_at (a (spot code n)) ∷ [])) ∙ e)) [
      | inl before ↦
          let h = first-from a code n id (λ q below. there q (omega arith)) before in
          (h.0, h.1, omega (arith, h.2), h.3, h.4)
      | inr here ↦ own (a (spot code n)) refl (there n (omega arith)) (or_cases (eqb id (id_at (a (spot code n)))) false here)
    ]
  where
    own : (o : Option Spot) → a (spot code n) ≡ o → is_some (a (spot code n)) ≡ true → (eqb id (id_at (a (spot code n))) ≡ true) ⊎ (false ≡ true) → HasFirst a code (suc n) id
    own None is some h = absurd (true≢false (sym some ∙ ap is_some is))
    own (Some p) is some (inl h) = (n, p, omega arith, is, sym (eqb-true _ _ h ∙ ap id_at is))
    own (Some p) is some (inr h) = absurd (true≢false (sym h))

first-to : (a : Table) (code n id : ℕ) → HasFirst a code n id → list_any (eqb id) (first_ids a code n) ≡ true
first-to a code zero id h = absurd (omega (arith, h.2))
first-to a code (suc n) id h =
    list_any-append (eqb id) (first_ids a code n) (id_at (a (spot code n)) ∷ [])
    ∙ by (λ below. first-to a code n id (h.0, h.1, below, h.3, h.4)) (cases_Bool (ltb h.0 n))
  where
    by : (h.0 < n → list_any (eqb id) (first_ids a code n) ≡ true) → (ltb h.0 n ≡ true) ⊎ (ltb h.0 n ≡ false) → (list_any (eqb id) (first_ids a code n) || (eqb id (id_at (a (spot code n))) || false)) ≡ true
    by rest (inl below) = or_left _ _ (rest (ltb-true _ _ below))
    by rest (inr last) =
        let here : h.0 ≡ n = omega (arith, h.2, ltb-false _ _ last) in
        or_right _ _ (or_left _ _ (eq-eqb _ _ (sym h.4 ∙ ap id_at (sym h.3) ∙ ap (λ n. id_at (a (spot code n))) here)))

Decides-first : (a : Table) (code n id : ℕ) → ((q : ℕ) → q < n → is_some (a (spot code q)) ≡ true) → Decides (list_any (eqb id) (first_ids a code n)) (HasFirst a code n id)
Decides-first a code n id there = (first-from a code n id there, first-to a code n id)

distinct-first : (a : Table) (code n : ℕ) → IsOnce a → ((q : ℕ) → q < n → is_some (a (spot code q)) ≡ true) → IsDistinct eqb (first_ids a code n)
unfolding IsDistinct
distinct-first a code zero once there = tt
distinct-first a code (suc n) once there =
    IsDistinct-push nat_eq_equiv (first_ids a code n) (id_at (a (spot code n)))
    (distinct-first a code n once (λ q below. there q (omega arith)))
    (new (a (spot code n)) refl (there n (omega arith)) (cases_Bool (list_any (eqb (id_at (a (spot code n)))) (first_ids a code n))))
  where
    new : (o : Option Spot) → a (spot code n) ≡ o → is_some (a (spot code n)) ≡ true
        → (list_any (eqb (id_at (a (spot code n)))) (first_ids a code n) ≡ true) ⊎ (list_any (eqb (id_at (a (spot code n)))) (first_ids a code n) ≡ false)
        → list_any (eqb (id_at (a (spot code n)))) (first_ids a code n) ≡ false
    new None is some h = absurd (true≢false (sym some ∙ ap is_some is))
    new (Some p) is some (inr none) = none
    new (Some p) is some (inl any) =
        let h = first-from a code n (id_at (a (spot code n))) (λ q below. there q (omega arith)) any in
        let same = once (spot code h.0) (spot code n) h.1 p h.3 is refl (h.4 ∙ ap id_at is) in
        absurd (omega (arith, h.2, ap (λ (t : Spot). t.index) same))

-- no id is twice among those of a code
pub distinct_ids : (lists : Lists) → AreDense lists → IsOnce (at lists) → (code : ℕ) → IsDistinct eqb (ids_of (pairs_of lists) code)
distinct_ids lists dense once code = ids_are_distinct (at lists) once code lists.spots.entries dense.unique (λ place p found. found)

-- the ids of all places of a code are those of its pairs
module _ (lists : Lists) (dense : AreDense lists) (once : IsOnce (at lists)) (code : ℕ) where
  pub AreIdsOf-all : AreIdsOf (pairs_of lists) code (first_ids (at lists) code (len_of lists code))
  AreIdsOf-all = record {
    distinct = distinct-first (at lists) code (len_of lists code) once (some_within lists dense code);
    members = λ id. same_from_decides _ _
        (Decides-like (list_any (eqb id) (first_ids (at lists) code (len_of lists code))) (from id) (to id) (Decides-first (at lists) code (len_of lists code) id (some_within lists dense code)))
        (Decides-pairs lists dense code id);
  }
    where
      from : (id : ℕ) → HasFirst (at lists) code (len_of lists code) id → HasPair (at lists) code id
      from id h = (spot code h.0, h.1, h.3, refl, h.4)

      to : (id : ℕ) → HasPair (at lists) code id → HasFirst (at lists) code (len_of lists code) id
      to id h =
          let here : h.0 ≡ spot code h.0.index = λ i. spot (h.3 i) h.0.index in
          (h.0.index, h.1, omega (arith, within_len lists dense h.0 h.1 h.2, ap (len_of lists) h.3), ap (at lists) (sym here) ∙ h.2, h.4)

  pub len-le-count : len_of lists code ≤ length (ids_of (pairs_of lists) code)
  len-le-count = len-le-ids code (len_of lists code) lists.spots.entries (some_within lists dense code)

  -- a list is as long as its code has pairs
  pub len-is-count : len_of lists code ≡ length (ids_of (pairs_of lists) code)
  len-is-count =
      let most = length-le_from_is_member nat_eq_equiv (ids_of (pairs_of lists) code) (first_ids (at lists) code (len_of lists code)) (distinct_ids lists dense once code)
      (λ id there. AreIdsOf-all.members id ∙ sym (list_any-ids_of code id (pairs_of lists)) ∙ there) in
      omega (arith, most, len-le-count, length-first_ids (at lists) code (len_of lists code))
