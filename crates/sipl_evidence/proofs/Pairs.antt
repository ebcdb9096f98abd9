-- Which pairs a table of spots has.
use Rattle.std.proofs.Common.{◌≡◌, ℕ, suc, ◌<◌, ◌≤◌, Bool, true, false, cond, not, ◌&&◌, ◌||◌, eqb, List, [], ◌∷◌, ◌++◌, None, Some, is_some, length, map, filter, refl, sym, ap, ◌∙◌, inl, inr, arith, true≢false, Decides, Contains}
use Rattle.std.specs.List.{list_any, IsDistinct, AllByRecursion}
use Rattle.std.specs.Map.{lookup, keys_of}
use Rattle.std.proofs.lemmas.Bool.{cases_Bool, cond-true, cond-false, and_parts, and_from, eqb-true, eq-eqb, or_cases, or_left, or_right, or_parts}
use Rattle.std.proofs.lemmas.List.{map-append, length-map}
use Rattle.std.proofs.lemmas.List.Filters.{length-filter_both}
use Rattle.std.proofs.lemmas.List.Elements.{Contains-get_or, Contains-append_right}
use Rattle.std.proofs.lemmas.List.Folds.{list_any-append}
use Rattle.std.specs.Cmp.{nat_eq_equiv}
use Rattle.std.proofs.lemmas.Map.Keys.{IsDistinct-head, IsDistinct-tail, IsDistinct-cons}
use Rattle.std.proofs.lemmas.Map.Views.{lookup-from_Contains}
use Rattle.std.proofs.lemmas.Map.Steps.{le-length_from_below}
use Rattle.sipl_evidence.specs.declared.spot.Spot.{Spot}
use Rattle.sipl_evidence.specs.Spots.{spot, same_spot}
use Rattle.sipl_evidence.specs.Dependents.{Dependent, depends, ids_of}
use Rattle.sipl_evidence.specs.Linked.{Table, IsOnce, pair_of}
use Rattle.sipl_evidence.proofs.Spots.{same_spot-true, same_spot-refl, spot_equiv}

abbrev pub Entries : Type 0
Entries = List (Spot × Spot)

-- the table has a pair
abbrev pub HasPair : Table → ℕ → ℕ → Type 0
HasPair a code id = (place : Spot) × (p : Spot) × (a place ≡ Some p) × (place.list ≡ code) × (p.list ≡ id)

-- an element of a list that passes a test
found : {X : Type 0} (test : X → Bool) (xs : List X) → list_any test xs ≡ true → (x : X) × Contains xs x × (test x ≡ true)
found test [] e = absurd (true≢false (sym e))
found test (x ∷ xs) e = elim (or_cases (test x) (list_any test xs) e) [
  | inl here ↦ (x, Contains-get_or (x ∷ xs) 0 x (omega arith), here)
  | inr later ↦ let rest = found test xs later in (rest.0, Contains-append_right (x ∷ []) xs rest.0 rest.1, rest.2)
]

any_map : {X Y : Type 0} (test : Y → Bool) (f : X → Y) (xs : List X) → list_any test (map f xs) ≡ list_any (λ x. test (f x)) xs
any_map test f [] = refl
any_map test f (x ∷ xs) = ap (λ b. test (f x) || b) (any_map test f xs)

-- a look-up of a place that is there
any_from_lookup : (test : Spot × Spot → Bool) (es : Entries) (place p : Spot) → lookup (same_spot place) es ≡ Some p → test (place, p) ≡ true → list_any test es ≡ true
any_from_lookup test [] place p e passes = let never : None ≡ Some p = e in cc
any_from_lookup test (entry ∷ es) place p e passes = elim (cases_Bool (same_spot place entry.0)) [
  | inl same ↦
      let got : Some entry.1 ≡ Some p = sym (cond-true _ (Some entry.1) (lookup (same_spot place) es) same) ∙ e in
      let own : entry.1 ≡ p = cc in
      let here : place ≡ entry.0 = same_spot-true place entry.0 same in
      or_left _ _ (ap test (λ i. (sym here i, own i)) ∙ passes)
  | inr apart ↦ or_right _ _ (any_from_lookup test es place p (sym (cond-false _ (Some entry.1) (lookup (same_spot place) es) apart) ∙ e) passes)
]

module _ (es : Entries) (distinct : IsDistinct same_spot (keys_of es)) where
  pub Decides-depends : (code id : ℕ) → Decides (depends (map pair_of es) code id) (HasPair (λ place. lookup (same_spot place) es) code id)
  Decides-depends code id = (from, to)
    where
      test : Dependent → Bool
      test p = eqb p.code code && eqb p.id id

      from : depends (map pair_of es) code id ≡ true → HasPair (λ place. lookup (same_spot place) es) code id
      from e =
          let entry = found (λ x. test (pair_of x)) es (sym (any_map test pair_of es) ∙ e) in
          let parts = and_parts (eqb entry.0.0.list code) (eqb entry.0.1.list id) entry.2 in
          (entry.0.0, entry.0.1, lookup-from_Contains spot_equiv entry.0.0 entry.0.1 es distinct entry.1, eqb-true _ _ parts.0, eqb-true _ _ parts.1)

      to : HasPair (λ place. lookup (same_spot place) es) code id → depends (map pair_of es) code id ≡ true
      to h = any_map test pair_of es ∙ any_from_lookup (λ x. test (pair_of x)) es h.0 h.1 h.2 (and_from _ _ (eq-eqb _ _ h.3) (eq-eqb _ _ h.4))

-- the indexes of the entries of a list
abbrev indexes : ℕ → Entries → List ℕ
indexes code es = map (λ (e : Spot × Spot). e.0.index) (filter (λ (e : Spot × Spot). eqb e.0.list code) es)

any_index : (b : Bool) (q : ℕ) (e : Spot × Spot) (es : Entries) → list_any (eqb q) (map (λ (e : Spot × Spot). e.0.index) (cond b (e ∷ es) es)) ≡ ((b && eqb q e.0.index) || list_any (eqb q) (map (λ (e : Spot × Spot). e.0.index) es))
any_index true q e es = refl
any_index false q e es = refl

index_there : (code q : ℕ) (es : Entries) → is_some (lookup (same_spot (spot code q)) es) ≡ true → list_any (eqb q) (indexes code es) ≡ true
index_there code q [] e = absurd (true≢false (sym e))
index_there code q (entry ∷ es) e =
    any_index (eqb entry.0.list code) q entry (filter (λ (e : Spot × Spot). eqb e.0.list code) es)
    ∙ elim (cases_Bool (same_spot (spot code q) entry.0)) [
      | inl same ↦
          let parts = and_parts (eqb code entry.0.list) (eqb q entry.0.index) same in
          or_left _ _ (and_from _ _ (eq-eqb _ _ (sym (eqb-true _ _ parts.0))) parts.1)
      | inr apart ↦ or_right _ _ (index_there code q es (ap is_some (sym (cond-false _ (Some entry.1) (lookup (same_spot (spot code q)) es) apart)) ∙ e))
    ]

-- the ids of a code with one entry more
ids-cond : {X : Type 0} (b : Bool) (p : Dependent) (ps : List Dependent) (x : X) (xs : List X) → length (map (λ (p : Dependent). p.id) ps) ≡ length xs → length (map (λ (p : Dependent). p.id) (cond b (p ∷ ps) ps)) ≡ length (cond b (x ∷ xs) xs)
ids-cond true p ps x xs e = ap (λ n. suc n) e
ids-cond false p ps x xs e = e

length-ids_of : (code : ℕ) (es : Entries) → length (ids_of (map pair_of es) code) ≡ length (filter (λ (e : Spot × Spot). eqb e.0.list code) es)
length-ids_of code [] = refl
length-ids_of code (e ∷ es) = ids-cond (eqb e.0.list code) (pair_of e) (filter (λ (p : Dependent). eqb p.code code) (map pair_of es)) e (filter (λ (e : Spot × Spot). eqb e.0.list code) es) (length-ids_of code es)

-- a list is at most as long as its code has pairs
pub len-le-ids : (code n : ℕ) (es : Entries) → ((q : ℕ) → q < n → is_some (lookup (same_spot (spot code q)) es) ≡ true) → n ≤ length (ids_of (map pair_of es) code)
len-le-ids code n es there =
    let all = le-length_from_below (indexes code es) n (λ q below. index_there code q es (there q below)) in
    omega (arith, all, length-ids_of code es, length-map (filter (λ (e : Spot × Spot). eqb e.0.list code) es) (λ (e : Spot × Spot). e.0.index))

-- and than the table
pub len-le-entries : (code n : ℕ) (es : Entries) → ((q : ℕ) → q < n → is_some (lookup (same_spot (spot code q)) es) ≡ true) → n ≤ length es
len-le-entries code n es there =
    let all = len-le-ids code n es there in
    let some = length-filter_both (λ (e : Spot × Spot). eqb e.0.list code) (λ (e : Spot × Spot). not (eqb e.0.list code)) (λ _. refl) es in
    omega (arith, all, some, length-ids_of code es)

swapped : (a b : Bool) → (a || (b || false)) ≡ (b || a)
swapped true true = refl
swapped true false = refl
swapped false true = refl
swapped false false = refl

-- the pairs of a table with one more entry
pub depends-push : (es new : Entries) (x y : Spot) → new ≡ es ++ (x, y) ∷ [] → (code id : ℕ) → depends (map pair_of new) code id ≡ ((eqb x.list code && eqb y.list id) || depends (map pair_of es) code id)
depends-push es new x y is code id =
    ap (λ es. depends (map pair_of es) code id) is
    ∙ ap (λ ps. depends ps code id) (map-append pair_of es ((x, y) ∷ []))
    ∙ list_any-append (λ (p : Dependent). eqb p.code code && eqb p.id id) (map pair_of es) (pair_of (x, y) ∷ [])
    ∙ swapped (depends (map pair_of es) code id) (eqb x.list code && eqb y.list id)

-- what is there already adds nothing
pub or_there : (a b : Bool) → (a ≡ true → b ≡ true) → b ≡ (a || b)
or_there true b e = e refl
or_there false b e = refl

any_ids_cond : (b : Bool) (id : ℕ) (p : Dependent) (ps : List Dependent) → list_any (eqb id) (map (λ (p : Dependent). p.id) (cond b (p ∷ ps) ps)) ≡ ((b && eqb id p.id) || list_any (eqb id) (map (λ (p : Dependent). p.id) ps))
any_ids_cond true id p ps = refl
any_ids_cond false id p ps = refl

-- an id is among those of a code exactly if the pair is there
pub list_any-ids_of : (code id : ℕ) (ps : List Dependent) → list_any (eqb id) (ids_of ps code) ≡ depends ps code id
list_any-ids_of code id [] = refl
list_any-ids_of code id (p ∷ ps) =
    any_ids_cond (eqb p.code code) id p (filter (λ (p : Dependent). eqb p.code code) ps)
    ∙ (λ i. (eqb p.code code && nat_eq_equiv.symm id p.id i) || list_any-ids_of code id ps i)

-- a key that differs from each key of the entries differs from one that a look-up finds
apart_from_found : (x place p : Spot) (es : Entries) → AllByRecursion (λ y. same_spot x y ≡ false) (keys_of es) → lookup (same_spot place) es ≡ Some p → same_spot x place ≡ false
apart_from_found x place p [] all e = let never : None ≡ Some p = e in cc
apart_from_found x place p (entry ∷ es) all e = elim (cases_Bool (same_spot place entry.0)) [
  | inl same ↦ ap (same_spot x) (same_spot-true place entry.0 same) ∙ all.0
  | inr apart ↦ apart_from_found x place p es all.1 (sym (cond-false _ (Some entry.1) (lookup (same_spot place) es) apart) ∙ e)
]

each_apart : (id : ℕ) (ids : List ℕ) → list_any (eqb id) ids ≡ false → AllByRecursion (λ y. eqb id y ≡ false) ids
each_apart id [] none = tt
each_apart id (x ∷ xs) none = let parts = or_parts (eqb id x) (list_any (eqb id) xs) none in (parts.0, each_apart id xs parts.1)

distinct-cond : (b : Bool) (p : Dependent) (ps : List Dependent) → (b ≡ true → list_any (eqb p.id) (map (λ (p : Dependent). p.id) ps) ≡ false) → IsDistinct eqb (map (λ (p : Dependent). p.id) ps) → IsDistinct eqb (map (λ (p : Dependent). p.id) (cond b (p ∷ ps) ps))
distinct-cond true p ps new distinct = IsDistinct-cons eqb p.id (map (λ (p : Dependent). p.id) ps) (each_apart p.id (map (λ (p : Dependent). p.id) ps) (new refl)) distinct
distinct-cond false p ps new distinct = distinct

-- no id is twice among those of a code
pub ids_are_distinct : (a : Table) → IsOnce a → (code : ℕ) (es : Entries) → IsDistinct same_spot (keys_of es) → ((place p : Spot) → lookup (same_spot place) es ≡ Some p → a place ≡ Some p) → IsDistinct eqb (ids_of (map pair_of es) code)
unfolding IsDistinct
ids_are_distinct a once code [] distinct there = tt
ids_are_distinct a once code (e ∷ es) distinct there =
    distinct-cond (eqb e.0.list code) (pair_of e) (filter (λ (p : Dependent). eqb p.code code) (map pair_of es)) new
    (ids_are_distinct a once code es (IsDistinct-tail same_spot e.0 (keys_of es) distinct) later)
  where
    other : (place p : Spot) → lookup (same_spot place) es ≡ Some p → same_spot e.0 place ≡ false
    other place p found = apart_from_found e.0 place p es (IsDistinct-head same_spot e.0 (keys_of es) distinct) found

    later : (place p : Spot) → lookup (same_spot place) es ≡ Some p → a place ≡ Some p
    later place p found =
        there place p (elim (cases_Bool (same_spot place e.0)) [
          | inl same ↦ absurd (true≢false (sym (same_spot-refl place) ∙ ap (λ t. same_spot t place) (same_spot-true place e.0 same) ∙ other place p found))
          | inr apart ↦ cond-false _ (Some e.1) (lookup (same_spot place) es) apart ∙ found
        ])

    new : eqb e.0.list code ≡ true → list_any (eqb e.1.list) (ids_of (map pair_of es) code) ≡ false
    new own = elim (cases_Bool (list_any (eqb e.1.list) (ids_of (map pair_of es) code))) [
      | inr none ↦ none
      | inl any ↦
          let h = (Decides-depends es (IsDistinct-tail same_spot e.0 (keys_of es) distinct) code e.1.list).0 (sym (list_any-ids_of code e.1.list (map pair_of es)) ∙ any) in
          let first : a e.0 ≡ Some e.1 = there e.0 e.1 (cond-true _ (Some e.1) (lookup (same_spot e.0) es) (same_spot-refl e.0)) in
          let one : e.0 ≡ h.0 = once e.0 h.0 e.1 h.1 first (later h.0 h.1 h.2) (eqb-true _ _ own ∙ sym h.3) (sym h.4) in
          absurd (true≢false (sym (same_spot-refl e.0) ∙ ap (same_spot e.0) one ∙ other h.0 h.1 h.2))
    ]
