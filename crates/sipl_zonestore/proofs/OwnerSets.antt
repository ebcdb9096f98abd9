-- The sets of an owner by their kinds.
use Rattle.std.proofs.Common.{◌≡◌, ℕ, ◌<◌, Bool, true, false, not, ◌&&◌, ◌||◌, [], ◌∷◌, ◌++◌, length, get_or, set, None, Some, if◌then◌else◌, refl, ap, sym, ◌∙◌, inl, inr, arith, zero, suc}
use Rattle.std.specs.List.{list_all, list_any, position, position_from}
use Rattle.std.proofs.lemmas.Bool.{cases_Bool}
use Rattle.std.proofs.lemmas.Iterator.Adapters.{position_from-zero}
use Rattle.std.proofs.lemmas.List.{append-nil}
use Rattle.std.proofs.lemmas.List.Quantifiers.{position-Some}
use Rattle.sipl_records.specs.declared.kind.Kind.{Kind}
use Rattle.sipl_records.specs.Sets.{same_kind}
use Rattle.sipl_records.proofs.Public.{same_kind-Decides}
use Rattle.sipl_zonestore.specs.Numbers.{is_empty}
use Rattle.sipl_zonestore.specs.Content.{Content, no_content, carried}
use Rattle.sipl_zonestore.specs.SetTable.{OwnerSets, has_kinds_once, has_no_data, held, set_at, with_set}
use Rattle.sipl_zonestore.specs.declared.owner_sets.KindSet.{KindSet}
use Rattle.sipl_zonestore.proofs.Contents.{carried_none}
use Rattle.sipl_zonestore.proofs.Positions.{from-some}

-- whether an owner has a set of this kind
abbrev pub has_kind_of : Kind → OwnerSets → Bool
has_kind_of kind sets = list_any (λ own. same_kind own.kind kind) sets

pub same_kind-refl : (kind : Kind) → same_kind kind kind ≡ true
same_kind-refl kind = (same_kind-Decides kind kind).1 refl

pub same_kind-sym : (a b : Kind) → same_kind a b ≡ same_kind b a
same_kind-sym a b = elim (cases_Bool (same_kind a b)) [
  | inl same ↦ same ∙ sym ((same_kind-Decides b a).1 (sym ((same_kind-Decides a b).0 same)))
  | inr apart ↦ elim (cases_Bool (same_kind b a)) [
    | inr apart' ↦ apart ∙ sym apart'
    | inl same ↦
        let never : true ≡ false = sym ((same_kind-Decides a b).1 (sym ((same_kind-Decides b a).0 same))) ∙ apart in cc
  ]
]

-- ---- one of them is written

-- another kind keeps its set
at-other : (kind other : Kind) (set : Content) (sets : OwnerSets) → same_kind kind other ≡ false → set_at other (with_set kind set sets) ≡ set_at other sets
at-other kind other set [] apart = elim (cases_Bool (is_empty set.values)) [
  | inl none ↦ rw none refl
  | inr filled ↦ rw (filled, apart) refl
]
at-other kind other set (own ∷ sets) apart = elim (cases_Bool (same_kind own.kind kind)) [
  | inl here ↦
      let away : same_kind own.kind other ≡ false = ap (λ k. same_kind k other) ((same_kind-Decides own.kind kind).0 here) ∙ apart in
      rw (here, away) refl
  | inr elsewhere ↦ elim (cases_Bool (same_kind own.kind other)) [
    | inl found ↦ rw (elsewhere, found) refl
    | inr passed ↦ rw (elsewhere, passed) (at-other kind other set sets apart)
  ]
]

-- the kind has that set
pub held-with_set : (kind : Kind) (set : Content) (sets : OwnerSets) → held kind (with_set kind set sets) ≡ carried set.number set.values
held-with_set kind set [] = elim (cases_Bool (is_empty set.values)) [
  | inl none ↦ ap (λ sets. held kind sets) (gone none) ∙ carried_none set.number set.values none
  | inr filled ↦ ap (λ sets. held kind sets) (added filled) ∙ alone
] where
  gone : is_empty set.values ≡ true → with_set kind set [] ≡ []
  gone none = rw none refl

  added : is_empty set.values ≡ false → with_set kind set [] ≡ record { kind = kind; set = set } ∷ []
  added filled = rw filled refl

  alone : held kind (record { kind = kind; set = set } ∷ []) ≡ carried set.number set.values
  alone = rw (same_kind-refl kind) refl
held-with_set kind set (own ∷ sets) = elim (cases_Bool (same_kind own.kind kind)) [
  | inl here ↦ ap (λ sets. held kind sets) (written here) ∙ found here
  | inr elsewhere ↦ ap (λ sets. held kind sets) (kept elsewhere) ∙ passed elsewhere (with_set kind set sets) ∙ held-with_set kind set sets
] where
  kept : same_kind own.kind kind ≡ false → with_set kind set (own ∷ sets) ≡ own ∷ with_set kind set sets
  kept elsewhere = rw elsewhere refl

  passed : same_kind own.kind kind ≡ false → (rest : OwnerSets) → held kind (own ∷ rest) ≡ held kind rest
  passed elsewhere rest = rw elsewhere refl

  written : same_kind own.kind kind ≡ true → with_set kind set (own ∷ sets) ≡ record { kind = own.kind; set = set } ∷ sets
  written here = rw here refl

  found : same_kind own.kind kind ≡ true → held kind (record { kind = own.kind; set = set } ∷ sets) ≡ carried set.number set.values
  found here = rw here refl

-- what a look-up finds of each kind
pub at_kind : (f g : Content → Content) (sets : OwnerSets) (kind other : Kind) → ((set : Content) → carried (g set).number (g set).values ≡ f (carried set.number set.values)) → held other (with_set kind (g (set_at kind sets)) sets) ≡ (if same_kind kind other then f (held other sets) else held other sets)
at_kind f g sets kind other is = elim (cases_Bool (same_kind kind other)) [
  | inl same ↦
      let one : kind ≡ other = (same_kind-Decides kind other).0 same in
      ap (λ k. held k (with_set kind (g (set_at kind sets)) sets)) (sym one)
      ∙ held-with_set kind (g (set_at kind sets)) sets ∙ is (set_at kind sets) ∙ ap (λ k. f (held k sets)) one
      ∙ ap (λ b. if b then f (held other sets) else held other sets) (sym same)
  | inr apart ↦
      ap (λ (set : Content). carried set.number set.values) (at-other kind other (g (set_at kind sets)) sets apart)
      ∙ ap (λ b. if b then f (held other sets) else held other sets) (sym apart)
]

-- ---- which have data

pub absent : (kind : Kind) (sets : OwnerSets) → has_kind_of kind sets ≡ false → set_at kind sets ≡ no_content
absent kind [] none = refl
absent kind (own ∷ sets) none = elim (cases_Bool (same_kind own.kind kind)) [
  | inl here ↦ let never : true ≡ false = rw here at none in cc
  | inr elsewhere ↦ rw elsewhere (absent kind sets (rw elsewhere at none))
]

among : (all sets : OwnerSets) (kind : Kind) → list_all (λ own. is_empty (set_at own.kind all).values) sets ≡ true → has_kind_of kind sets ≡ true → is_empty (set_at kind all).values ≡ true
among all [] kind none some = cc
among all (own ∷ sets) kind none some = elim (cases_Bool (is_empty (set_at own.kind all).values)) [
  | inr filled ↦ let never : false ≡ true = rw filled at none in cc
  | inl empty ↦ elim (cases_Bool (same_kind own.kind kind)) [
    | inl here ↦ ap (λ k. is_empty (set_at k all).values) (sym ((same_kind-Decides own.kind kind).0 here)) ∙ empty
    | inr elsewhere ↦ among all sets kind (rw empty at none) (rw elsewhere at some)
  ]
]

-- all sets of an owner are empty
pub all_empty : (sets : OwnerSets) → has_no_data sets ≡ true → (kind : Kind) → is_empty (set_at kind sets).values ≡ true
all_empty sets none kind = elim (cases_Bool (has_kind_of kind sets)) [
  | inl some ↦ among sets sets kind none some
  | inr away ↦ ap (λ (set : Content). is_empty set.values) (absent kind sets away)
]

each-empty : (all sets : OwnerSets) → ((kind : Kind) → is_empty (set_at kind all).values ≡ true) → list_all (λ own. is_empty (set_at own.kind all).values) sets ≡ true
each-empty all [] empty = refl
each-empty all (own ∷ sets) empty = rw (empty own.kind) (each-empty all sets empty)

pub no_data-is : (sets : OwnerSets) → ((kind : Kind) → is_empty (set_at kind sets).values ≡ true) → has_no_data sets ≡ true
no_data-is sets empty = each-empty sets sets empty

-- an owner has data where one of its sets does
pub data-with_set : (kind : Kind) (set : Content) (sets : OwnerSets) → is_empty set.values ≡ false → has_no_data (with_set kind set sets) ≡ false
data-with_set kind set sets filled = elim (cases_Bool (has_no_data (with_set kind set sets))) [
  | inr some ↦ some
  | inl none ↦
      let empty : is_empty set.values ≡ true = ap (λ (set : Content). is_empty set.values) (sym (held-with_set kind set sets)) ∙ all_empty (with_set kind set sets) none kind in
      let never : true ≡ false = sym empty ∙ filled in cc
]

-- and a set with the same data
same-empty : (kind : Kind) (set : Content) (sets : OwnerSets) → is_empty set.values ≡ is_empty (set_at kind sets).values → (other : Kind) → is_empty (set_at other (with_set kind set sets)).values ≡ is_empty (set_at other sets).values
same-empty kind set sets same other = elim (cases_Bool (same_kind kind other)) [
  | inl equal ↦
      let one : kind ≡ other = (same_kind-Decides kind other).0 equal in
      ap (λ k. is_empty (set_at k (with_set kind set sets)).values) (sym one)
      ∙ ap (λ (set : Content). is_empty set.values) (held-with_set kind set sets) ∙ same
      ∙ ap (λ k. is_empty (set_at k sets).values) one
  | inr apart ↦ ap (λ (set : Content). is_empty set.values) (at-other kind other set sets apart)
]

pub data-same : (kind : Kind) (set : Content) (sets : OwnerSets) → is_empty set.values ≡ is_empty (set_at kind sets).values → has_no_data (with_set kind set sets) ≡ has_no_data sets
data-same kind set sets same = elim (cases_Bool (has_no_data sets)) [
  | inl none ↦ no_data-is (with_set kind set sets) (λ other. same-empty kind set sets same other ∙ all_empty sets none other) ∙ sym none
  | inr some ↦ elim (cases_Bool (has_no_data (with_set kind set sets))) [
    | inr some' ↦ some' ∙ sym some
    | inl none ↦
        let never : true ≡ false = sym (no_data-is sets (λ other. sym (same-empty kind set sets same other) ∙ all_empty (with_set kind set sets) none other)) ∙ some in cc
  ]
]

-- a kind whose set has data
pub data-somewhere : (all sets : OwnerSets) → list_all (λ own. is_empty (set_at own.kind all).values) sets ≡ false → (kind : Kind) × (is_empty (set_at kind all).values ≡ false)
data-somewhere all [] some = cc
data-somewhere all (own ∷ sets) some = elim (cases_Bool (is_empty (set_at own.kind all).values)) [
  | inr filled ↦ (own.kind, filled)
  | inl empty ↦ data-somewhere all sets (rw empty at some)
]

-- ---- at most one set of each kind

any-with_set : (kind other : Kind) (set : Content) (sets : OwnerSets) → same_kind kind other ≡ false → has_kind_of other (with_set kind set sets) ≡ has_kind_of other sets
any-with_set kind other set [] apart = elim (cases_Bool (is_empty set.values)) [
  | inl none ↦ rw none refl
  | inr filled ↦ rw (filled, apart) refl
]
any-with_set kind other set (own ∷ sets) apart = elim (cases_Bool (same_kind own.kind kind)) [
  | inl here ↦ rw here refl
  | inr elsewhere ↦ rw elsewhere (ap (λ b. same_kind own.kind other || b) (any-with_set kind other set sets apart))
]

pub once-with_set : (kind : Kind) (set : Content) (sets : OwnerSets) → has_kinds_once sets ≡ true → has_kinds_once (with_set kind set sets) ≡ true
once-with_set kind set [] once = elim (cases_Bool (is_empty set.values)) [
  | inl none ↦ rw none refl
  | inr filled ↦ rw filled refl
]
once-with_set kind set (own ∷ sets) once = elim (cases_Bool (same_kind own.kind kind)) [
  | inl here ↦ rw here once
  | inr elsewhere ↦
      rw elsewhere (ap (λ b. not b && has_kinds_once (with_set kind set sets)) (any-with_set kind own.kind set sets (same_kind-sym kind own.kind ∙ elsewhere)) ∙ both (not (has_kind_of own.kind sets)) (has_kinds_once sets) (has_kinds_once (with_set kind set sets)) (once-with_set kind set sets) once)
] where
  both : (a b c : Bool) → (b ≡ true → c ≡ true) → (a && b) ≡ true → (a && c) ≡ true
  both true b c more is = more is
  both false b c more is = is

-- so each set is that of its kind
own-sets : (all sets : OwnerSets) → ((kind : Kind) → has_kind_of kind sets ≡ true → set_at kind all ≡ set_at kind sets) → has_kinds_once sets ≡ true → list_all (λ own. is_empty own.set.values) sets ≡ list_all (λ own. is_empty (set_at own.kind all).values) sets
own-sets all [] at once = refl
own-sets all (own ∷ sets) at once = elim (cases_Bool (has_kind_of own.kind sets)) [
  | inl again ↦ let never : false ≡ true = rw again at once in cc
  | inr first ↦
      let here : set_at own.kind all ≡ own.set = at own.kind (rw (same_kind-refl own.kind) refl) ∙ rw (same_kind-refl own.kind) refl in
      let same : is_empty own.set.values ≡ is_empty (set_at own.kind all).values = ap (λ (set : Content). is_empty set.values) (sym here) in
      (λ i. same i && own-sets all sets later (rw first at once) i)
] where
  later : (kind : Kind) → has_kind_of kind sets ≡ true → set_at kind all ≡ set_at kind sets
  later kind some = elim (cases_Bool (same_kind own.kind kind)) [
    | inl same ↦
        let again : has_kind_of own.kind sets ≡ true = ap (λ k. has_kind_of k sets) ((same_kind-Decides own.kind kind).0 same) ∙ some in
        let never : false ≡ true = rw again at once in cc
    | inr apart ↦ at kind (rw apart some) ∙ rw apart refl
  ]

pub no_data-once : (sets : OwnerSets) → has_kinds_once sets ≡ true → list_all (λ own. is_empty own.set.values) sets ≡ has_no_data sets
no_data-once sets once = own-sets sets sets (λ kind some. refl) once

-- ---- the place of a kind's set

at-step : (kind : Kind) (sets : OwnerSets) (place : ℕ) (d : KindSet) → place < length sets → same_kind (get_or sets place d).kind kind ≡ true → ((k : ℕ) → k < place → same_kind (get_or sets k d).kind kind ≡ false) → set_at kind sets ≡ (get_or sets place d).set
at-step kind [] place d inside here before = absurd (omega (arith, inside))
at-step kind (own ∷ sets) zero d inside here before = rw here refl
at-step kind (own ∷ sets) (suc place) d inside here before =
    rw (before 0 (omega arith)) (at-step kind sets place d (omega (arith, inside)) here (λ k below. before (suc k) (omega (arith, below))))

write-step : (kind : Kind) (set' : Content) (sets : OwnerSets) (place : ℕ) (d : KindSet) → place < length sets → same_kind (get_or sets place d).kind kind ≡ true → ((k : ℕ) → k < place → same_kind (get_or sets k d).kind kind ≡ false) → set sets place (record { kind = (get_or sets place d).kind; set = set' }) ≡ with_set kind set' sets
write-step kind set' [] place d inside here before = absurd (omega (arith, inside))
write-step kind set' (own ∷ sets) zero d inside here before = rw here refl
write-step kind set' (own ∷ sets) (suc place) d inside here before =
    rw (before 0 (omega arith)) (ap (λ rest. own ∷ rest) (write-step kind set' sets place d (omega (arith, inside)) here (λ k below. before (suc k) (omega (arith, below)))))

-- the set at the place of a kind is that of the kind
pub at-place : (kind : Kind) (sets : OwnerSets) (place : ℕ) (own : KindSet) → Some place ≡ position (λ own. same_kind own.kind kind) sets → own ≡ get_or sets place own → set_at kind sets ≡ own.set
at-place kind sets place own is here =
    let found = position-Some (λ own. same_kind own.kind kind) sets place own (sym is) in
    at-step kind sets place own found.0 found.1 found.2 ∙ ap (λ (own : KindSet). own.set) (sym here)

-- and is written there
pub write-place : (kind : Kind) (set' : Content) (sets : OwnerSets) (place : ℕ) (own : KindSet) → Some place ≡ position (λ own. same_kind own.kind kind) sets → own ≡ get_or sets place own → set sets place (record { kind = own.kind; set = set' }) ≡ with_set kind set' sets
write-place kind set' sets place own is here =
    let found = position-Some (λ own. same_kind own.kind kind) sets place own (sym is) in
    ap (λ (own : KindSet). set sets place (record { kind = own.kind; set = set' })) here
    ∙ write-step kind set' sets place own found.0 found.1 found.2

-- where a kind has no place, it has no set, and a set is appended
none-from : (kind : Kind) (sets : OwnerSets) → position_from (λ own. same_kind own.kind kind) 0 sets ≡ None → has_kind_of kind sets ≡ false
none-from kind sets none = elim (cases_Bool (has_kind_of kind sets)) [
  | inr away ↦ away
  | inl some ↦
      let found : (n : ℕ) × (position_from (λ own. same_kind own.kind kind) 0 sets ≡ Some n) = from-some (λ own. same_kind own.kind kind) 0 sets some in
      let never : Some found.0 ≡ None = sym found.1 ∙ none in cc
]

no-place : (kind : Kind) (sets : OwnerSets) → None ≡ position (λ own. same_kind own.kind kind) sets → has_kind_of kind sets ≡ false
no-place kind sets none = none-from kind sets (sym (position_from-zero (λ own. same_kind own.kind kind) sets) ∙ sym none)

pub at-none : (kind : Kind) (sets : OwnerSets) → None ≡ position (λ own. same_kind own.kind kind) sets → set_at kind sets ≡ no_content
at-none kind sets none = absent kind sets (no-place kind sets none)

add-absent : (kind : Kind) (set' : Content) (sets : OwnerSets) → has_kind_of kind sets ≡ false → with_set kind set' sets ≡ sets ++ with_set kind set' []
add-absent kind set' [] away = refl
add-absent kind set' (own ∷ sets) away = elim (cases_Bool (same_kind own.kind kind)) [
  | inl here ↦ let never : true ≡ false = rw here at away in cc
  | inr elsewhere ↦ rw elsewhere (ap (λ rest. own ∷ rest) (add-absent kind set' sets (rw elsewhere at away)))
]

pub add-none : (kind : Kind) (set' : Content) (sets : OwnerSets) → None ≡ position (λ own. same_kind own.kind kind) sets → is_empty set'.values ≡ false → sets ++ record { kind = kind; set = set' } ∷ [] ≡ with_set kind set' sets
add-none kind set' sets none filled = sym (add-absent kind set' sets (no-place kind sets none) ∙ rw filled refl)

pub stay-none : (kind : Kind) (set' : Content) (sets : OwnerSets) → None ≡ position (λ own. same_kind own.kind kind) sets → is_empty set'.values ≡ true → sets ≡ with_set kind set' sets
stay-none kind set' sets none empty = sym (add-absent kind set' sets (no-place kind sets none) ∙ rw empty (append-nil sets))
