-- The first key that a route looks at and that was not read, and those after it.
use Rattle.std.proofs.Common.{◌≡◌, Bool, true, false, not, List, [], ◌∷◌, ◌++◌, map, refl, ap, sym, ◌∙◌, inl, inr}
use Rattle.std.specs.List.{All, filter, find}
use Rattle.std.proofs.lemmas.Bool.{cases_Bool}
use Rattle.std.proofs.lemmas.List.Elements.{All-contains, Contains-get_or}
use Rattle.sipl_records.specs.Sets.{same_key}
use Rattle.sipl_records.specs.Unique.{unique}
use Rattle.sipl_records.specs.declared.record.Key.{Key}
use Rattle.sipl_records.proofs.Public.{same_key-Decides, Contains-unique, unique-filter}
use Rattle.sipl_evidence.specs.Items.{Item}
use Rattle.sipl_evidence.specs.Known.{Agrees, IsTrace, is_unknown, first_unknown}
use Rattle.sipl_evidence.specs.Looks.{Look, Asking, asked}
use Rattle.sipl_evidence.proofs.Public.{first_unknown-find, unique-trace}
use Rattle.sipl_plans.specs.Runs.{first_unread}

-- the first value that passes is not among those that a filter leaves out
find-filter : {X : Type 0} (p q : X → Bool) → ((x : X) → p x ≡ true → q x ≡ true) → (xs : List X) → find p (filter q xs) ≡ find p xs
find-filter p q keeps [] = refl
find-filter p q keeps (x ∷ xs) = elim (cases_Bool (q x)) [
  | inl kept ↦ rw kept (elim (cases_Bool (p x)) [ inl passes ↦ rw passes refl | inr fails ↦ rw fails (find-filter p q keeps xs) ])
  | inr out ↦ elim (cases_Bool (p x)) [
    | inl passes ↦ let never : false ≡ true = sym out ∙ keeps x passes in cc
    | inr fails ↦ rw (out, fails) (find-filter p q keeps xs)
  ]
]

-- a test that values which are the same pass together
module _ {X : Type 0} (same : X → X → Bool) (p : X → Bool) (respects : (x y : X) → same x y ≡ true → p x ≡ p y) where
  passes-apart : (x y : X) → p x ≡ false → p y ≡ true → not (same x y) ≡ true
  passes-apart x y fails passes = elim (cases_Bool (same x y)) [
    | inl alike ↦ let never : false ≡ true = sym fails ∙ respects x y alike ∙ passes in cc
    | inr apart ↦ rw apart refl
  ]

  find-unique : (xs : List X) → find p (unique same xs) ≡ find p xs
  find-unique [] = refl
  find-unique (x ∷ xs) = elim (cases_Bool (p x)) [
    | inl passes ↦ rw passes refl
    | inr fails ↦ rw fails (find-filter p (λ y. not (same x y)) (λ y passes. passes-apart x y fails passes) (unique same xs) ∙ find-unique xs)
  ]

same_unknown : (items : List Item) (k other : Key) → same_key k other ≡ true → is_unknown items k ≡ is_unknown items other
same_unknown items k other same = ap (is_unknown items) ((same_key-Decides k other).0 same)

module _ {A : Type 0} (asking : Asking A) (items : List Item) (look : Look) (agrees : Agrees look items) where
  -- what is unknown first is the first of the keys that was not read
  pub first_unknown-unread : first_unknown items asking ≡ first_unread items (unique same_key (asked look asking))
  first_unknown-unread =
      first_unknown-find look items agrees asking
      ∙ sym (find-unique same_key (is_unknown items) (same_unknown items) (asked look asking))

  -- the keys are those of the items, and after them those that were not read
  pub reads-trace : IsTrace asking items → unique same_key (asked look asking) ≡ map (λ item. item.key) items ++ filter (is_unknown items) (unique same_key (asked look asking))
  reads-trace trace =
      unique-trace look asking items agrees trace
      ∙ ap (λ keys. map (λ item. item.key) items ++ keys) (sym (unique-filter same_key (is_unknown items) (same_unknown items) (asked look asking)))

-- what holds of each key once holds of all
pub All-from_unique : (P : Key → Type 0) (keys : List Key) → All P (unique same_key keys) → All P keys
All-from_unique P keys all =
    λ n d inside. All-contains P (unique same_key keys) _ all ((Contains-unique same_key same_key-Decides keys _).1 (Contains-get_or keys n d inside))
