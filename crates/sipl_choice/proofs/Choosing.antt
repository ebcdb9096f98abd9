-- The first of the least choices in a set, found in one pass over it.
use Rattle.std.proofs.Common.{◌≡◌, ℕ, zero, suc, ◌<◌, ◌≤◌, ◌+◌, Bool, true, false, not, List, [], ◌∷◌, length, Option, None, Some, slice_get, refl, ap, sym, ◌∙◌, inl, inr, arith}
use borrow.Author.Count.{below_more}
use Rattle.std.specs.List.{find, list_all, range_with_len}
use Rattle.std.proofs.lemmas.Bool.{and_parts, cases_lt, false_from_ne_true}
use Rattle.std.proofs.lemmas.Bool.Decides.{nat_tests}
use Rattle.std.proofs.lemmas.Option.{slice_get_within}
use Rattle.sipl_records.specs.declared.data.Data.{Data}
use Rattle.sipl_choice.specs.Abilities.{Client}
use Rattle.sipl_choice.specs.Pointers.{Choice, choice_of, choice_at, is_before, is_least, is_chosen, chosen_pointer, chosen}

-- a choice before one that a third is not before is before the third
pub before-trans : (a b c : Choice) → is_before a b ≡ true → is_before c b ≡ false → is_before a c ≡ true
before-trans a b c ab cb = grind (arith, nat_tests)

pub before-asym : (a b : Choice) → is_before a b ≡ true → is_before b a ≡ false
before-asym a b ab = grind (arith, nat_tests)

pub before-self : (a : Choice) → is_before a a ≡ false
before-self a = grind (arith, nat_tests)

-- the data before the place choose nothing
abbrev pub NoneApply : Bool → Client → List Data → ℕ → Type 0
NoneApply secure client set end = (k : ℕ) → k < end → choice_at secure client set k ≡ None

-- the choice of a place is the least of those before the end, and the first of equal ones
pub record IsFirstLeast (secure : Bool) (client : Client) (set : List Data) (end place : ℕ) (choice : Choice) : Type 0 where
  pub within : place < end
  pub applies : choice_at secure client set place ≡ Some choice
  pub least : (k : ℕ) → k < end → (other : Choice) → choice_at secure client set k ≡ Some other → is_before other choice ≡ false
  pub first : (k : ℕ) → k < place → (other : Choice) → choice_at secure client set k ≡ Some other → is_before choice other ≡ true

module _ (secure : Bool) (client : Client) (set : List Data) where
  never_some : {P : Type 0} (k : ℕ) (other : Choice) → choice_at secure client set k ≡ None → choice_at secure client set k ≡ Some other → P
  never_some k other none some = let never : None ≡ Some other = sym none ∙ some in cc

  -- one place more, whose data do not apply
  pub none-more : (i : ℕ) → NoneApply secure client set i → choice_at secure client set i ≡ None → NoneApply secure client set (i + 1)
  none-more i none here = below_more _ i none here

  pub least-more_none : (i place : ℕ) (choice : Choice) → IsFirstLeast secure client set i place choice → choice_at secure client set i ≡ None → IsFirstLeast secure client set (i + 1) place choice
  least-more_none i place choice least here = record {
    within = omega (arith, least.within);
    applies = least.applies;
    least = below_more _ i least.least (λ other at. never_some i other here at);
    first = least.first;
  }

  -- the first that applies
  pub least-first : (i : ℕ) (choice : Choice) → NoneApply secure client set i → choice_at secure client set i ≡ Some choice → IsFirstLeast secure client set (i + 1) i choice
  least-first i choice none here = record {
    within = omega arith;
    applies = here;
    least = below_more _ i (λ k below other at. never_some k other (none k below) at) (λ other at. let same : choice ≡ other = cc in ap (λ c. is_before c choice) (sym same) ∙ before-self choice);
    first = λ k below other at. never_some k other (none k below) at;
  }

  -- one that applies and is not before the least
  pub least-more_after : (i place : ℕ) (choice here : Choice) → IsFirstLeast secure client set i place choice → choice_at secure client set i ≡ Some here → is_before here choice ≡ false → IsFirstLeast secure client set (i + 1) place choice
  least-more_after i place choice here least at_here after = record {
    within = omega (arith, least.within);
    applies = least.applies;
    least = below_more _ i least.least (λ other at. let same : here ≡ other = cc in ap (λ c. is_before c choice) (sym same) ∙ after);
    first = least.first;
  }

  -- one that is before the least so far
  pub least-more_before : (i place : ℕ) (choice here : Choice) → IsFirstLeast secure client set i place choice → choice_at secure client set i ≡ Some here → is_before here choice ≡ true → IsFirstLeast secure client set (i + 1) i here
  least-more_before i place choice here least at_here before = record {
    within = omega arith;
    applies = at_here;
    least = below_more _ i
        (λ k below other at. before-asym here other (before-trans here choice other before (least.least k below other at)))
        (λ other at. let same : here ≡ other = cc in ap (λ c. is_before c here) (sym same) ∙ before-self here);
    first = λ k below other at. before-trans here choice other before (least.least k below other at);
  }

-- what a search among numbers in order finds
find-none : (test : ℕ → Bool) (start n : ℕ) → ((k : ℕ) → start ≤ k → k < start + n → test k ≡ false) → find test (range_with_len start n) ≡ None
find-none test start zero none = refl
find-none test start (suc n) none =
    rw (none start (omega arith) (omega arith))
    (find-none test (start + 1) n (λ k from below. none k (omega arith) (omega arith)))

find-first : (test : ℕ → Bool) (start n i : ℕ) → start ≤ i → i < start + n → test i ≡ true → ((k : ℕ) → start ≤ k → k < i → test k ≡ false) → find test (range_with_len start n) ≡ Some i
find-first test start zero i from below here before = absurd (omega arith)
find-first test start (suc n) i from below here before = elim (cases_lt start i) [
  | inl later ↦
      rw (before start (omega arith) later)
      (find-first test (start + 1) n i (omega arith) (omega arith) here (λ k from' below'. before k (omega arith) below'))
  | inr at ↦
      let same : start ≡ i = omega arith in
      rw (ap test same ∙ here) (ap Some same)
]

-- a test of all elements, by places
all-places : {X : Type 0} (test : X → Bool) (xs : List X) → ((k : ℕ) (x : X) → slice_get xs k ≡ Some x → test x ≡ true) → list_all test xs ≡ true
all-places test [] each = refl
all-places test (x ∷ xs) each = rw (each 0 x refl) (all-places test xs (λ k y at. each (suc k) y at))

place-all : {X : Type 0} (test : X → Bool) (xs : List X) (k : ℕ) (x : X) → slice_get xs k ≡ Some x → list_all test xs ≡ true → test x ≡ true
place-all test [] k x at all = let never : None ≡ Some x = at in cc
place-all test (y ∷ ys) zero x at all = let same : y ≡ x = cc in ap test (sym same) ∙ (and_parts (test y) (list_all test ys) all).0
place-all test (y ∷ ys) (suc k) x at all = place-all test ys k x at (and_parts (test y) (list_all test ys) all).1

module _ (secure : Bool) (client : Client) (set : List Data) where
  -- the parts of the definitions, by what they look at
  abbrev choice_in : Option Data → Option Choice
  choice_in o = elim o [ Some datum ↦ choice_of secure client datum | None ↦ None ]

  abbrev is_after : Choice → Option Choice → Bool
  is_after choice o = elim o [ Some other ↦ not (is_before other choice) | None ↦ true ]

  abbrev is_least_in : Option Choice → Bool
  is_least_in o = elim o [ Some choice ↦ is_least secure client set choice | None ↦ false ]

  datum_at : (place : ℕ) (choice : Choice) → choice_at secure client set place ≡ Some choice → (datum : Data) × (slice_get set place ≡ Some datum) × (choice_of secure client datum ≡ Some choice)
  datum_at place choice at = by (slice_get set place) refl
    where
      by : (o : Option Data) → slice_get set place ≡ o → (datum : Data) × (slice_get set place ≡ Some datum) × (choice_of secure client datum ≡ Some choice)
      by None e = let never : None ≡ Some choice = sym (ap choice_in e) ∙ at in cc
      by (Some datum) e = (datum, e, sym (ap choice_in e) ∙ at)

  least-all : (place : ℕ) (choice : Choice) → IsFirstLeast secure client set (length set) place choice → is_least secure client set choice ≡ true
  least-all place choice least = all-places _ set (λ k datum at. by k datum at (choice_of secure client datum) refl)
    where
      by : (k : ℕ) (datum : Data) → slice_get set k ≡ Some datum → (o : Option Choice) → choice_of secure client datum ≡ o → is_after choice (choice_of secure client datum) ≡ true
      by k datum at None e = ap (is_after choice) e
      by k datum at (Some other) e =
          ap (is_after choice) e
          ∙ ap not (least.least k (slice_get_within set k datum at) other (ap choice_in at ∙ e))

  not-least : (place : ℕ) (choice other : Choice) → choice_at secure client set place ≡ Some choice → is_before choice other ≡ true → is_least secure client set other ≡ false
  not-least place choice other at before = false_from_ne_true _ (λ all.
      let datum = datum_at place choice at in
      let after : true ≡ not true = sym (place-all (λ datum. is_after other (choice_of secure client datum)) set place datum.0 datum.1 all) ∙ ap (is_after other) datum.2 ∙ ap not before in cc)

  chosen-not_before : (place : ℕ) (choice : Choice) → IsFirstLeast secure client set (length set) place choice → (k : ℕ) → k < place → is_chosen secure client set k ≡ false
  chosen-not_before place choice least k below = by (choice_at secure client set k) refl
    where
      by : (o : Option Choice) → choice_at secure client set k ≡ o → is_chosen secure client set k ≡ false
      by None e = ap is_least_in e
      by (Some other) e = ap is_least_in e ∙ not-least place choice other least.applies (least.first k below other e)

  -- what the pass found is what is chosen
  pub pointer-none : NoneApply secure client set (length set) → chosen_pointer secure client set ≡ None
  pointer-none none = find-none (is_chosen secure client set) 0 (length set) (λ k from below. ap is_least_in (none k (omega arith)))

  pub pointer-least : (place : ℕ) (choice : Choice) → IsFirstLeast secure client set (length set) place choice → chosen_pointer secure client set ≡ Some place
  pointer-least place choice least =
      find-first (is_chosen secure client set) 0 (length set) place (omega arith) (omega (arith, least.within))
      (ap is_least_in least.applies ∙ least-all place choice least)
      (λ k from below. chosen-not_before place choice least k below)

  -- what is chosen at a place
  abbrev chosen_at : Option ℕ → Option Choice
  chosen_at o = elim o [ Some place ↦ choice_at secure client set place | None ↦ None ]

  pub chosen-none : NoneApply secure client set (length set) → chosen secure client set ≡ None
  chosen-none none = ap chosen_at (pointer-none none)

  pub chosen-least : (place : ℕ) (choice : Choice) → IsFirstLeast secure client set (length set) place choice → chosen secure client set ≡ Some choice
  chosen-least place choice least = ap chosen_at (pointer-least place choice least) ∙ least.applies
