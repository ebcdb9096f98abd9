-- The sets of a store, as they are read.
use Rattle.std.proofs.Common.{◌≡◌, ◌⊎◌, ◌≤◌, Bool, true, false, leb, List, [], ◌∷◌, length, Option, Some, None, inl, inr, refl, sym, ap, ◌∙◌, arith}
use Rattle.std.specs.List.{All, list_all, count_by}
use Rattle.std.proofs.lemmas.Bool.{cases_Bool, and_parts, leb-true}
use Rattle.std.proofs.lemmas.List.Elements.{All-nil, All-cons}
use Rattle.sipl_names.specs.Labels.{same_name}
use Rattle.sipl_records.specs.Sets.{data_of, exists_in, existence_of, has_key, has_kind, has_own_kind, is_existence, key_of, set_of, shares_set}
use Rattle.sipl_records.specs.declared.kind.Kind.TheVariants.{Exists}
use Rattle.sipl_records.specs.declared.record.Key.{Key}
use Rattle.sipl_records.specs.declared.record.Record.{Record}
use Rattle.sipl_records.proofs.Public.{has_key-key_of, has_kind-own, is_key, length-data_of, length-existence, same_key-Decides, same_kind-Decides, set_of-data, shares_set-Some}
use Rattle.sipl_plans.specs.Runs.{IsSet}
use Rattle.sipl_zonestore.specs.Consistent.{IsConsistent}
use Rattle.sipl_zonestore.specs.Store.{Store, number_in}

-- ---- the kind of a set's data

-- the data of records with a key are of its kind
data_of-kind : (records : List Record) (k : Key) → All (λ datum. has_kind k.kind datum ≡ true) (data_of records k)
data_of-kind [] k = All-nil (λ datum. has_kind k.kind datum ≡ true)
data_of-kind (r ∷ records) k = elim (cases_Bool (has_key k r)) [
  | inl own ↦ rw own (All-cons (λ datum. has_kind k.kind datum ≡ true) r.value (data_of records k)
      (has_kind-own k.kind r.value (and_parts (same_name r.owner k.name) (has_own_kind k.kind r.value) own).1) (data_of-kind records k))
  | inr other ↦ rw other (data_of-kind records k)
]

-- the datum of a name that exists is of the kind of existence
existence-kind : (exists : Bool) → All (λ datum. has_kind Exists datum ≡ true) (existence_of exists)
existence-kind true = All-cons (λ datum. has_kind Exists datum ≡ true) _ [] refl (All-nil (λ datum. has_kind Exists datum ≡ true))
existence-kind false = All-nil (λ datum. has_kind Exists datum ≡ true)

-- the data of a set are of its kind
set_of-kind : (records : List Record) (k : Key) → All (λ datum. has_kind k.kind datum ≡ true) (set_of records k)
set_of-kind records k = elim (cases_Bool (is_existence k)) [
  | inl of ↦ rw (of, (same_kind-Decides k.kind Exists).0 of) (existence-kind (exists_in records k.name))
  | inr other ↦ rw other (data_of-kind records k)
]

-- ---- how many data a set has

-- a record with a key is in that key's set
has_key-own : (k : Key) (own : Option Key) → is_key k own ≡ true → own ≡ Some k
has_key-own k None has = cc
has_key-own k (Some own) has = ap (λ key. Some key) ((same_key-Decides own k).0 has)

-- so as many records share its set as the set has data
length-shared : (k : Key) (r : Record) (records : List Record) → has_key k r ≡ true → length (data_of records k) ≡ count_by (shares_set r) records
length-shared k r records has =
    let own : key_of r ≡ Some k = has_key-own k (key_of r) (sym (has_key-key_of k r) ∙ has) in
    length-data_of records k ∙ (λ i. count_by (λ other. sym (shares_set-Some r k own other) i) records)

-- a key has no data, or few
few_or_none : (k : Key) (all records : List Record) → list_all (λ r. leb (count_by (shares_set r) all) 32) records ≡ true
    → (data_of records k ≡ []) ⊎ (length (data_of all k) ≤ 32)
few_or_none k all [] fit = inl refl
few_or_none k all (r ∷ records) fit =
    let both = and_parts (leb (count_by (shares_set r) all) 32) (list_all (λ r. leb (count_by (shares_set r) all) 32) records) fit in
    elim (cases_Bool (has_key k r)) [
      | inl own ↦ inr (omega (arith, length-shared k r all own, leb-true (count_by (shares_set r) all) 32 both.0))
      | inr other ↦ elim (few_or_none k all records both.1) [ inl none ↦ inl (rw (other, none) refl) | inr few ↦ inr few ]
    ]

length-few : (k : Key) (records : List Record) → list_all (λ r. leb (count_by (shares_set r) records) 32) records ≡ true → length (set_of records k) ≤ 32
length-few k records fit = elim (cases_Bool (is_existence k)) [
  | inl of ↦ omega (arith, length-existence records k of)
  | inr other ↦ rw (set_of-data records k other) (elim (few_or_none k records records fit) [ inl none ↦ omega (arith, ap length none) | inr few ↦ few ])
]

-- ---- a set as it can be read

-- a store's set is one for its key
pub set_is_set : (store : Store) (k : Key) → IsConsistent store → IsSet k (number_in store k) (set_of store.zones.records k)
set_is_set store k good =
    record {
      kind = set_of-kind store.zones.records k;
      few = length-few k store.zones.records good.sets_fit;
      number = good.numbered.empty k;
    }
