-- The places of owners in a table of record sets.
use Rattle.std.proofs.Common.{◌≡◌, ℕ, zero, suc, Bool, true, false, List, [], ◌∷◌, get_or, length, position, slice_get, Option, None, Some, is_some, refl, ap, subst, sym, ◌∙◌, inl, inr, arith}
use Rattle.std.specs.Prelude.{IfSome}
use Rattle.std.specs.Bool.{OnTrue}
use Rattle.std.specs.Option.{option_map, unwrap_or}
use Rattle.std.specs.Map.{keys_of, lookup, lookup_key, values_of}
use Rattle.std.proofs.lemmas.Bool.{cases_Bool}
use Rattle.std.proofs.lemmas.Option.{slice_get-get_or, slice_get-map}
use Rattle.indexmap.proofs.CallerLemmas.{updates-with_value_at}
use Rattle.indexmap.proofs.MapLemmas.{Found, Found-position}
use Rattle.indexmap.specs.IndexMap.{IndexMap, IsUnique, set_value_at}
use Rattle.sipl_names.specs.Labels.{Labels, same_name}
use Rattle.sipl_names.proofs.Public.{same_name_decides}
use Rattle.sipl_records.proofs.Public.{equivalence_from_decides}
use Rattle.sipl_zonestore.specs.SetTable.{IsPlace, OwnerTable, no_sets}
use Rattle.sipl_zonestore.specs.SetTable.{OwnerSets}
use Rattle.sipl_zonestore.proofs.SetTables.{IsUpdated}

-- a look-up in an empty table finds nothing
pub lookup-empty : {X : Type 0} (test : Labels → Bool) (es : List (Labels × X)) → length es ≡ 0 → lookup test es ≡ None
lookup-empty test [] none = refl
lookup-empty test (e ∷ es) none = absurd (omega arith)

pub on-true : (b : Bool) (P : Type 0) → (b ≡ true → P) → OnTrue b P
on-true true P f = f refl
on-true false P f = tt

-- the owner that is at a place
pub place-at : (es : OwnerTable) (name own : Labels) (place : ℕ) (sets : OwnerSets) → slice_get es place ≡ Some (own, sets) → lookup (same_name own) es ≡ Some sets → same_name own name ≡ true → IsPlace es name place
place-at es name own place sets there found same =
    subst (λ n. IsPlace es n place) ((same_name_decides own name).0 same) (record { sets = sets; there = there; found = found })

-- a key that passes
key-passes : (test : Labels → Bool) (es : OwnerTable) (name : Labels) → lookup_key test es ≡ Some name → test name ≡ true
key-passes test [] name is = let no : false ≡ true = ap is_some is in cc
key-passes test (e ∷ es) name is = elim (cases_Bool (test e.0)) [
  | inl here ↦
      let first : Some e.0 ≡ Some name = rw here at is in
      let same : e.0 ≡ name = cc in
      ap test (sym same) ∙ here
  | inr other ↦ key-passes test es name (rw other at is)
]

-- the first owner of a name
first-place : (es : OwnerTable) (name : Labels) (place : ℕ) → Found (same_name name) es place → IsPlace es name place
first-place es name place found =
    let e : Labels × OwnerSets = get_or es place (name, no_sets) in
    let there : slice_get es place ≡ Some e = slice_get-get_or es place (name, no_sets) found.within in
    let key : lookup_key (same_name name) es ≡ Some e.0 = found.key ∙ slice_get-map (λ (e : Labels × OwnerSets). e.0) es place ∙ ap (option_map (λ e. e.0)) there in
    let own : name ≡ e.0 = (same_name_decides name e.0).0 (key-passes (same_name name) es e.0 key) in
    record {
      sets = e.1;
      there = there ∙ (λ i. Some (sym own i, e.1));
      found = found.value ∙ slice_get-map (λ (e : Labels × OwnerSets). e.1) es place ∙ ap (option_map (λ e. e.1)) there;
    }

-- a search by hash
pub place-index : (es : OwnerTable) (name : Labels) (index : Option ℕ) → index ≡ position (same_name name) (keys_of es) → IfSome index (IsPlace es name)
place-index es name None is = tt
place-index es name (Some place) is = first-place es name place (Found-position (same_name name) es place (sym is))

-- the sets at the place of an owner are those that a look-up finds
pub value-at : (es : OwnerTable) (name : Labels) (place : ℕ) (sets : OwnerSets) → IsPlace es name place → slice_get (values_of es) place ≡ Some sets → Some sets ≡ lookup (same_name name) es
value-at es name place sets at is =
    sym is ∙ slice_get-map (λ (e : Labels × OwnerSets). e.1) es place ∙ ap (option_map (λ e. e.1)) at.there ∙ sym at.found

pub entry-at : (es : OwnerTable) (name : Labels) (place : ℕ) (entry : Labels × OwnerSets) → IsPlace es name place → slice_get es place ≡ Some entry → Some entry.1 ≡ lookup (same_name name) es
entry-at es name place entry at is = ap (option_map (λ (e : Labels × OwnerSets). e.1)) (sym is ∙ at.there) ∙ sym at.found

-- sets that are written at the place of an owner
pub updated-at : {S : Type 0} (m : IndexMap Labels OwnerSets S) (name : Labels) (place : ℕ) (written : OwnerSets) → IsUnique same_name m → IsPlace m.entries name place → IsUpdated m.entries (set_value_at m.entries place written) name (Some written)
updated-at m name place written unique at other =
    (updates-with_value_at m place written (equivalence_from_decides same_name same_name_decides) unique name at.sets at.there).0 other

-- and as they were
pub set_value_at-same : (es : OwnerTable) (place : ℕ) (entry : Labels × OwnerSets) → slice_get es place ≡ Some entry → set_value_at es place entry.1 ≡ es
set_value_at-same [] place entry is = refl
set_value_at-same (e ∷ es) zero entry is = (λ i. (e.0, same i) ∷ es) where
  same : entry.1 ≡ e.1
  same = ap (λ found. (unwrap_or found entry).1) (sym is)
set_value_at-same (e ∷ es) (suc place) entry is = ap (λ rest. e ∷ rest) (set_value_at-same es place entry is)
