-- The changed keys are exactly those whose set differs, each once.
use Rattle.std.proofs.Common.{◌≡◌, ◌≢◌, Bool, true, false, not, ◌&&◌, ◌||◌, List, [], ◌∷◌, ◌++◌, map, cond, refl, ap, sym, subst, ◌∙◌, inl, inr}
use Rattle.std.specs.Prelude.{◌↔◌}
use Rattle.std.specs.Cmp.{IsEquivalence}
use Rattle.std.specs.List.{filter, list_any, list_all, AllPairs, Contains, IsDistinct}
use Rattle.std.proofs.lemmas.Bool.{cases_Bool}
use Rattle.std.proofs.lemmas.Bool.Decides.{Decides-like}
use Rattle.std.proofs.lemmas.List.Folds.{list_any-append}
use Rattle.std.proofs.lemmas.Map.Keys.{IsDistinct-from_apart, apart_from_distinct}
use Rattle.std.proofs.lemmas.Map.Views.{Contains-from_any, list_any-from_Contains}
use Rattle.sipl_names.specs.Labels.{Labels, same_name}
use Rattle.sipl_names.proofs.Public.{same_name_decides}
use Rattle.sipl_records.specs.Sets.{exists_in, existence_of, is_existence, same_key, set_of}
use Rattle.sipl_records.specs.Unique.{unique}
use Rattle.sipl_records.specs.declared.kind.Kind.TheVariants.{Exists}
use Rattle.sipl_records.specs.declared.record.Record.{Record}
use Rattle.sipl_records.specs.declared.record.Key.{Key}
use Rattle.sipl_records.proofs.Public.{equivalence_from_decides, exists_in-append, IsDistinct-unique, list_any-unique, same_key-Decides, set_of-data, set_of-existence, transitive_from_equivalence, unique-filter}
use Rattle.sipl_zonestore.specs.Changes.{changed_existence, changed_keys, changed_names, changed_sets, existence_key, existing_names, exists_in_one, is_changed}
use Rattle.sipl_zonestore.proofs.BareOwners.{any-filter_tied}
use Rattle.sipl_zonestore.proofs.ChangedKeys.{among-no_existence, changed-any, changed-no_existence, changed_sets-once, differs-is, differs-true, failed-none}
use Rattle.sipl_zonestore.proofs.ChangedNames.{any-names, names_of, respects_name}
use Rattle.sipl_zonestore.proofs.Consistency.{pairs-append}
use Rattle.sipl_zonestore.proofs.OwnerSets.{same_kind-sym}

flipped : IsEquivalence (λ a b. same_key b a)
flipped = equivalence_from_decides (λ a b. same_key b a) (λ a b. Decides-like (same_key b a) (λ e. sym e) (λ e. sym e) (same_key-Decides b a))

same_name-trans : (a b c : Labels) → same_name a b ≡ true → same_name b c ≡ true → same_name a c ≡ true
same_name-trans = transitive_from_equivalence same_name (equivalence_from_decides same_name same_name_decides)

-- ---- which names change

one-any : (a b : Bool) → (cond a (not b) b && (a || b)) ≡ cond a (not b) b
one-any true true = refl
one-any true false = refl
one-any false true = refl
one-any false false = refl

pub changed_names-any : (old new : List Record) (name : Labels) → list_any (λ other. same_name other name) (changed_names old new) ≡ exists_in_one old new name
changed_names-any old new name =
    any-filter_tied (λ other. same_name other name) (exists_in_one old new) (exists_in_one old new name) (λ other same. respects_name (exists_in_one old new) other name same) (existing_names (old ++ new))
    ∙ ap (λ any. exists_in_one old new name && any) (list_any-unique same_name same_name-trans (names_of (old ++ new)) name ∙ any-names (old ++ new) name ∙ exists_in-append old new name)
    ∙ one-any (exists_in old name) (exists_in new name)

-- ---- which keys change

existence-any : (key : Key) (names : List Labels) → list_any (λ other. same_key other key) (map existence_key names) ≡ (list_any (λ other. same_name other key.name) names && is_existence key)
existence-any key [] = refl
existence-any key (name ∷ names) =
    (λ i. same_name name key.name && same_kind-sym Exists key.kind i || existence-any key names i) ∙ shared (same_name name key.name) (is_existence key) (list_any (λ other. same_name other key.name) names) where
      shared : (a b c : Bool) → (a && b || c && b) ≡ ((a || c) && b)
      shared true true c = refl
      shared true false true = refl
      shared true false false = refl
      shared false b c = refl

none-of_records : (key : Key) (keys : List Key) → list_any is_existence keys ≡ false → is_existence key ≡ true → list_any (λ other. same_key other key) keys ≡ false
none-of_records key keys none of = elim (cases_Bool (list_any (λ other. same_key other key) keys)) [
  | inr apart ↦ apart
  | inl some ↦ let never : true ≡ false = sym of ∙ among-no_existence key keys none some in cc
]

and_false : (a : Bool) → (a && false) ≡ false
and_false true = refl
and_false false = refl

and_true : (a : Bool) → (a && true) ≡ a
and_true true = refl
and_true false = refl

or_false : (a : Bool) → (a || false) ≡ a
or_false true = refl
or_false false = refl

-- a key of existence is among the changed ones where the name exists on one side alone
pub changed-existence_any : (old new : List Record) (key : Key) → is_existence key ≡ true → list_any (λ other. same_key other key) (changed_keys old new) ≡ exists_in_one old new key.name
changed-existence_any old new key of =
    list_any-append (λ other. same_key other key) (changed_sets old new) (changed_existence old new)
    ∙ (λ i. none-of_records key (changed_sets old new) (changed-no_existence old new) of i || existence-any key (changed_names old new) i)
    ∙ ap (λ b. list_any (λ other. same_name other key.name) (changed_names old new) && b) of
    ∙ and_true (list_any (λ other. same_name other key.name) (changed_names old new))
    ∙ changed_names-any old new key.name

-- another key where its data differ
pub changed-set_any : (old new : List Record) (key : Key) → is_existence key ≡ false → list_any (λ other. same_key other key) (changed_keys old new) ≡ is_changed old new key
changed-set_any old new key other =
    list_any-append (λ other. same_key other key) (changed_sets old new) (changed_existence old new)
    ∙ ap (λ b. list_any (λ other. same_key other key) (changed_sets old new) || b) (existence-any key (changed_names old new) ∙ ap (λ b. list_any (λ other. same_name other key.name) (changed_names old new) && b) other ∙ and_false (list_any (λ other. same_name other key.name) (changed_names old new)))
    ∙ or_false (list_any (λ other. same_key other key) (changed_sets old new))
    ∙ elim (cases_Bool (is_changed old new key)) [
      | inl differs ↦ changed-any old new key differs ∙ sym differs
      | inr same ↦ failed-none (is_changed old new) key same _ ∙ sym same
    ]

existence-differs : (a b : Bool) → (cond a (not b) b ≡ true) ↔ (existence_of a ≢ existence_of b)
existence-differs true true = (λ never. cc, λ differs. absurd (differs refl))
existence-differs true false = (λ _ same. cc, λ _. refl)
existence-differs false true = (λ _ same. cc, λ _. refl)
existence-differs false false = (λ never. cc, λ differs. absurd (differs refl))

differs-iff : (old new : List Record) (key : Key) → (list_any (λ other. same_key other key) (changed_keys old new) ≡ true) ↔ (set_of old key ≢ set_of new key)
differs-iff old new key = elim (cases_Bool (is_existence key)) [
  | inl of ↦
      let differ = existence-differs (exists_in old key.name) (exists_in new key.name) in (
        λ some same. differ.0 (sym (changed-existence_any old new key of) ∙ some) (sym (set_of-existence old key of) ∙ same ∙ set_of-existence new key of),
        λ apart. changed-existence_any old new key of ∙ differ.1 (λ same. apart (set_of-existence old key of ∙ same ∙ sym (set_of-existence new key of))),
      )
  | inr other ↦ (
    λ some same. differs-true old new key (sym (changed-set_any old new key other) ∙ some) (sym (set_of-data old key other) ∙ same ∙ set_of-data new key other),
    λ apart. changed-set_any old new key other ∙ differs-is old new key (λ same. apart (set_of-data old key other ∙ same ∙ sym (set_of-data new key other))),
  )
]

-- the changed keys are exactly those whose set differs
pub changed_keys-exact : (old new : List Record) (key : Key) → Contains (changed_keys old new) key ↔ (set_of old key ≢ set_of new key)
changed_keys-exact old new key =
    let equal : (a b : Key) → same_key b a ≡ true → a ≡ b = λ a b same. sym ((same_key-Decides b a).0 same) in
    (λ there. (differs-iff old new key).0 (list_any-from_Contains flipped key (changed_keys old new) there), λ apart. Contains-from_any equal key (changed_keys old new) ((differs-iff old new key).1 apart))

-- ---- each once

map-filter : (name : Labels) (names : List Labels) → map existence_key (filter (λ other. not (same_name name other)) names) ≡ filter (λ other. not (same_key (existence_key name) other)) (map existence_key names)
map-filter name [] = refl
map-filter name (first ∷ names) = elim (cases_Bool (same_name name first)) [
  | inl same ↦ rw same (map-filter name names)
  | inr apart ↦ rw apart (ap (λ keys. existence_key first ∷ keys) (map-filter name names))
]

map-unique : (names : List Labels) → map existence_key (unique same_name names) ≡ unique same_key (map existence_key names)
map-unique [] = refl
map-unique (name ∷ names) =
    ap (λ keys. existence_key name ∷ keys) (map-filter name (unique same_name names) ∙ ap (filter (λ other. not (same_key (existence_key name) other))) (map-unique names))

existence-once : (old new : List Record) → IsDistinct same_key (changed_existence old new)
existence-once old new =
    subst (λ keys. IsDistinct same_key keys) (sym (ap (map existence_key) (unique-filter same_name (exists_in_one old new) (respects_name (exists_in_one old new)) (names_of (old ++ new))) ∙ map-unique (filter (exists_in_one old new) (names_of (old ++ new))))) (IsDistinct-unique same_key (map existence_key (filter (exists_in_one old new) (names_of (old ++ new)))))

all-existence : (names : List Labels) → list_all is_existence (map existence_key names) ≡ true
all-existence [] = refl
all-existence (name ∷ names) = all-existence names

all-others : (keys : List Key) → list_any is_existence keys ≡ false → list_all (λ key. not (is_existence key)) keys ≡ true
all-others [] none = refl
all-others (key ∷ keys) none = elim (cases_Bool (is_existence key)) [
  | inl of ↦ let never : true ≡ false = rw of at none in cc
  | inr other ↦ rw other (all-others keys (rw other at none))
]

of-others : (a b : Key) → not (is_existence a) ≡ true → is_existence b ≡ true → same_key a b ≡ false
of-others a b other of = elim (cases_Bool (same_key a b)) [
  | inr apart ↦ apart
  | inl same ↦ let never : false ≡ true = ap not (sym of ∙ ap is_existence (sym ((same_key-Decides a b).0 same))) ∙ other in cc
]

pub changed_keys-once : (old new : List Record) → IsDistinct same_key (changed_keys old new)
changed_keys-once old new =
    let sets : AllPairs (λ a b. same_key a b ≡ false) (changed_sets old new) = λ i j d below inside. apart_from_distinct same_key (changed_sets old new) i j d (changed_sets-once old new) below inside in
    let names : AllPairs (λ a b. same_key a b ≡ false) (changed_existence old new) = λ i j d below inside. apart_from_distinct same_key (changed_existence old new) i j d (existence-once old new) below inside in
    let all : AllPairs (λ a b. same_key a b ≡ false) (changed_keys old new) = pairs-append (λ a b. same_key a b ≡ false) (λ key. not (is_existence key)) is_existence of-others (changed_sets old new) (changed_existence old new) (all-others (changed_sets old new) (changed-no_existence old new)) (all-existence (changed_names old new)) sets names in
    IsDistinct-from_apart same_key (changed_keys old new) (λ i j d below inside. all i j d below inside)
