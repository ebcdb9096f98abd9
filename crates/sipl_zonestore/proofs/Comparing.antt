-- What the tables of sets and owners tell of a record beside others.
use Rattle.std.proofs.Common.{◌≡◌, suc, Bool, true, false, not, ◌&&◌, ◌||◌, List, [], ◌∷◌, length, Option, None, Some, option_map, if◌then◌else◌, refl, ap, sym, ◌∙◌, inl, inr}
use Rattle.std.specs.List.{filter, list_any, count_by}
use Rattle.std.specs.Option.{is_some, option_map_or}
use Rattle.std.proofs.lemmas.Bool.{cases_Bool}
use Rattle.std.proofs.lemmas.List.Sums.{length-filter}
use Rattle.sipl_names.specs.Labels.{Labels, same_name}
use Rattle.sipl_names.proofs.Public.{same_name_decides}
use Rattle.sipl_records.specs.declared.data.Data.{Data}
use Rattle.sipl_records.specs.declared.data.Data.TheVariants.{Bare}
use Rattle.sipl_records.specs.declared.kind.Kind.{Kind}
use Rattle.sipl_records.specs.declared.kind.Kind.TheVariants.{Alias, Exists}
use Rattle.sipl_records.specs.declared.record.Record.{Record}
use Rattle.sipl_records.specs.declared.record.Key.{Key}
use Rattle.sipl_records.specs.Sets.{conflicts, has_key, has_own_kind, has_some_kind, key_of, kind_of, same_data, same_kind, same_record, data_of, shares_set}
use Rattle.sipl_records.proofs.Public.{own_kind-no_existence, filter-none, has_key-key_of, has_key-name, is_key, key_of-name, same_key-refl, same_name-sym, same_record-Decides, shares_set-Some}
use Rattle.sipl_zonestore.specs.Numbers.{is_empty}
use Rattle.sipl_zonestore.specs.SetTable.{OwnerTable, HasSets, conflicts_in, content_of, has_data, has_kind_set, has_no_data, has_set, set_at}
use Rattle.sipl_zonestore.specs.BareOwners.{HasBare, is_bare_at}
use Rattle.sipl_zonestore.proofs.Elements.{count-same, or_left, or_right}
use Rattle.sipl_zonestore.proofs.OwnerSets.{all_empty, data-somewhere, same_kind-refl}
use Rattle.sipl_zonestore.proofs.BareOwners.{any-agree, any-none}

-- a key has a set where a record has the key
not_empty : (records : List Record) (key : Key) → not (is_empty (data_of records key)) ≡ list_any (has_key key) records
not_empty [] key = refl
not_empty (r ∷ records) key = elim (cases_Bool (has_key key r)) [
  | inl here ↦ rw here refl
  | inr other ↦ rw other (not_empty records key)
]

has_set-any : (sets : OwnerTable) (records : List Record) (key : Key) → HasSets sets records → has_set sets key ≡ list_any (has_key key) records
has_set-any sets records key has = ap (λ set. not (is_empty set)) (has key) ∙ not_empty records key

-- ---- a record of a set

-- it is among the records where its datum is in its set
repeated-in : (records : List Record) (new : Record) (key : Key) → key_of new ≡ Some key → list_any (same_data new.value) (data_of records key) ≡ list_any (same_record new) records
repeated-in [] new key own = refl
repeated-in (r ∷ records) new key own = elim (cases_Bool (has_key key r)) [
  | inl here ↦
      let owner : same_name new.owner r.owner ≡ true = (same_name_decides new.owner r.owner).1 (key_of-name new key own ∙ sym (has_key-name key r here)) in
      rw (here, owner) (ap (λ b. same_data new.value r.value || b) (repeated-in records new key own))
  | inr other ↦
      let apart : same_record new r ≡ false = elim (cases_Bool (same_record new r)) [
        | inl same ↦
            let never : true ≡ false = sym (has_key-key_of key new ∙ ap (is_key key) own ∙ same_key-refl key) ∙ ap (has_key key) ((same_record-Decides new r).0 same) ∙ other in cc
        | inr apart ↦ apart
      ] in
      rw (other, apart) (repeated-in records new key own)
]

pub repeated-is : (sets : OwnerTable) (records : List Record) (new : Record) (key : Key) → HasSets sets records → key_of new ≡ Some key → list_any (same_data new.value) (content_of sets key).values ≡ list_any (same_record new) records
repeated-is sets records new key has own = ap (list_any (same_data new.value)) (has key) ∙ repeated-in records new key own

length-set : (records : List Record) (key : Key) → length (data_of records key) ≡ length (filter (has_key key) records)
length-set [] key = refl
length-set (r ∷ records) key = elim (cases_Bool (has_key key r)) [
  | inl here ↦ rw here (ap suc (length-set records key))
  | inr other ↦ rw other (length-set records key)
]

-- its set has as many data as there are records in its set
pub set_len-is : (sets : OwnerTable) (records : List Record) (new : Record) (key : Key) → HasSets sets records → key_of new ≡ Some key → length (content_of sets key).values ≡ count_by (shares_set new) records
set_len-is sets records new key has own =
    ap length (has key) ∙ length-set records key ∙ length-filter (has_key key) records ∙ sym (count-same (shares_set new) (has_key key) (shares_set-Some new key own) records)

-- the kind of a record's key
own_kind : (new : Record) (key : Key) (own : Option Kind) → option_map (λ kind. record { name = new.owner; kind = kind }) own ≡ Some key → own ≡ Some key.kind
own_kind new key None is = cc
own_kind new key (Some kind) is =
    let made : Key = record { name = new.owner; kind = kind } in
    let same : made ≡ key = cc in
    ap (λ (k : Key). Some k.kind) same

-- the records of an owner and a kind
abbrev of_kind : Labels → Kind → Record → Bool
of_kind name kind r = has_key (record { name = name; kind = kind }) r

-- no record is of the kind of existence
no_record-exists : (value : Data) → option_map_or (λ own. same_kind own Exists) (kind_of value) false ≡ false
no_record-exists value = elim (cases_Bool (has_own_kind Exists value)) [
  | inr other ↦ other
  | inl own ↦ let never : true ≡ false = own_kind-no_existence Exists value own in cc
]

beside-alias : (same other : Bool) (own : Option Kind) → (same && true && is_some own && (true || other)) ≡ (same && is_some own)
beside-alias true other None = refl
beside-alias true other (Some kind) = refl
beside-alias false other own = refl

beside-other : (same : Bool) (other : Option Kind) → (same && true && is_some other && (false || option_map_or (λ own. same_kind own Alias) other false)) ≡ (same && option_map_or (λ own. same_kind own Alias) other false)
beside-other true None = refl
beside-other false None = refl
beside-other true (Some kind) = refl
beside-other false (Some kind) = refl

conflicts-of : (new r : Record) (key : Key) → key_of new ≡ Some key → conflicts new r ≡ (same_name r.owner key.name && true && is_some (kind_of r.value) && (same_kind key.kind Alias || option_map_or (λ own. same_kind own Alias) (kind_of r.value) false))
conflicts-of new r key own =
    let kind : kind_of new.value ≡ Some key.kind = own_kind new key (kind_of new.value) own in
    let owner : same_name new.owner r.owner ≡ same_name r.owner key.name = same_name-sym new.owner r.owner ∙ ap (same_name r.owner) (key_of-name new key own) in
    (λ i. owner i && is_some (kind i) && is_some (kind_of r.value) && (option_map_or (λ own. same_kind own Alias) (kind i) false || option_map_or (λ own. same_kind own Alias) (kind_of r.value) false))

-- the records of an owner of which something is kept
abbrev is_owned : Labels → Record → Bool
is_owned name r = same_name r.owner name && is_some (kind_of r.value)

no_kind-of : (same : Bool) (own : Option Kind) (kind : Kind) → (same && is_some own) ≡ false → (same && option_map_or (λ own. same_kind own kind) own false) ≡ false
no_kind-of false own kind none = refl
no_kind-of true None kind none = refl
no_kind-of true (Some own) kind none = cc

some_kind-of : (same : Bool) (own : Option Kind) → (same && is_some own) ≡ true → (kind : Kind) × ((same && option_map_or (λ own. same_kind own kind) own false) ≡ true)
some_kind-of false own some = cc
some_kind-of true None some = cc
some_kind-of true (Some own) some = (own, same_kind-refl own)

owned-some : (records : List Record) (name : Labels) (kind : Kind) → list_any (of_kind name kind) records ≡ true → list_any (is_owned name) records ≡ true
owned-some [] name kind some = cc
owned-some (r ∷ records) name kind some = elim (cases_Bool (is_owned name r)) [
  | inl owned ↦ rw owned refl
  | inr other ↦
      let away : of_kind name kind r ≡ false = no_kind-of (same_name r.owner name) (kind_of r.value) kind other in
      rw other (owned-some records name kind (rw away at some))
]

owned-none : (records : List Record) (name : Labels) → ((kind : Kind) → list_any (of_kind name kind) records ≡ false) → list_any (is_owned name) records ≡ false
owned-none [] name none = refl
owned-none (r ∷ records) name none = elim (cases_Bool (is_owned name r)) [
  | inl owned ↦
      let own : (kind : Kind) × (of_kind name kind r ≡ true) = some_kind-of (same_name r.owner name) (kind_of r.value) owned in
      let never : true ≡ false = sym own.1 ∙ or_left (of_kind name own.0 r) (list_any (of_kind name own.0) records) (none own.0) in cc
  | inr other ↦ rw other (owned-none records name (λ kind. or_right (of_kind name kind r) (list_any (of_kind name kind) records) (none kind)))
]

-- an owner has data where one of its kinds has a set
data-kind : (sets : OwnerTable) (name : Labels) → has_data sets name ≡ true → (kind : Kind) × (has_kind_set sets name kind ≡ true)
data-kind [] name some = cc
data-kind (owner ∷ owners) name some = elim (cases_Bool (same_name owner.0 name)) [
  | inl here ↦ elim (cases_Bool (has_no_data owner.1)) [
    | inl none ↦ let never : false ≡ true = rw (here, none) at some in cc
    | inr filled ↦
        let own : (kind : Kind) × (is_empty (set_at kind owner.1).values ≡ false) = data-somewhere owner.1 owner.1 filled in
        (own.0, rw here (ap not own.1))
  ]
  | inr other ↦
      let own : (kind : Kind) × (has_kind_set owners name kind ≡ true) = data-kind owners name (rw other at some) in
      (own.0, rw other own.1)
]

no_data-kind : (sets : OwnerTable) (name : Labels) → has_data sets name ≡ false → (kind : Kind) → has_kind_set sets name kind ≡ false
no_data-kind [] name none kind = refl
no_data-kind (owner ∷ owners) name none kind = elim (cases_Bool (same_name owner.0 name)) [
  | inl here ↦ elim (cases_Bool (has_no_data owner.1)) [
    | inl empty ↦ rw here (ap not (all_empty owner.1 empty kind))
    | inr filled ↦ let never : true ≡ false = rw (here, filled) at none in cc
  ]
  | inr other ↦ rw other (no_data-kind owners name (rw other at none) kind)
]

pub conflicts-is : (sets : OwnerTable) (records : List Record) (new : Record) (key : Key) → HasSets sets records → key_of new ≡ Some key → conflicts_in sets key ≡ list_any (conflicts new) records
conflicts-is sets records new key has own = by_case (same_kind key.kind Alias) refl where
  found : (kind : Kind) → has_kind_set sets key.name kind ≡ list_any (of_kind key.name kind) records
  found kind = has_set-any sets records (record { name = key.name; kind = kind }) has

  any : has_data sets key.name ≡ list_any (is_owned key.name) records
  any = elim (cases_Bool (has_data sets key.name)) [
    | inl some ↦
        let kept : (kind : Kind) × (has_kind_set sets key.name kind ≡ true) = data-kind sets key.name some in
        some ∙ sym (owned-some records key.name kept.0 (sym (found kept.0) ∙ kept.1))
    | inr none ↦ none ∙ sym (owned-none records key.name (λ kind. sym (found kind) ∙ no_data-kind sets key.name none kind))
  ]

  by_case : (b : Bool) → same_kind key.kind Alias ≡ b → (if b then has_data sets key.name else has_kind_set sets key.name Alias) ≡ list_any (conflicts new) records
  by_case true alias =
      any
      ∙ any-agree (is_owned key.name) (conflicts new) (λ r. sym (conflicts-of new r key own ∙ ap (λ b. same_name r.owner key.name && true && is_some (kind_of r.value) && (b || option_map_or (λ own. same_kind own Alias) (kind_of r.value) false)) alias ∙ beside-alias (same_name r.owner key.name) (option_map_or (λ own. same_kind own Alias) (kind_of r.value) false) (kind_of r.value))) records
  by_case false other =
      found Alias
      ∙ any-agree (of_kind key.name Alias) (conflicts new) (λ r. sym (conflicts-of new r key own ∙ ap (λ b. same_name r.owner key.name && true && is_some (kind_of r.value) && (b || option_map_or (λ own. same_kind own Alias) (kind_of r.value) false)) other ∙ beside-other (same_name r.owner key.name) (kind_of r.value))) records

-- a record's key is its owner with its kind
pub key-of_kind : (new : Record) (kind : Kind) → kind_of new.value ≡ Some kind → key_of new ≡ Some (record { name = new.owner; kind = kind })
key-of_kind new kind own = ap (option_map {U = Key} (λ kind. record { name = new.owner; kind = kind })) own

pub key-of_none : (new : Record) → kind_of new.value ≡ None → key_of new ≡ None
key-of_none new none = ap (option_map {U = Key} (λ kind. record { name = new.owner; kind = kind })) none

-- ---- a record of no set

no_kind : (new : Record) (own : Option Kind) → option_map {U = Key} (λ kind. record { name = new.owner; kind = kind }) own ≡ None → own ≡ None
no_kind new None is = refl
no_kind new (Some kind) is = cc

pub kindless : (new : Record) → key_of new ≡ None → kind_of new.value ≡ None
kindless new none = no_kind new (kind_of new.value) none

same-bare : (a b : Data) → kind_of a ≡ None → not (is_some (kind_of b)) ≡ same_data a b
same-bare Bare Bare none = refl
same-bare Bare _ none = refl
same-bare _ _ none = cc

pub bare-repeated : (owners : Labels → Bool) (records : List Record) (new : Record) → HasBare owners records → key_of new ≡ None → owners new.owner ≡ list_any (same_record new) records
bare-repeated owners records new has none =
    has new.owner ∙ any-agree (is_bare_at new.owner) (same_record new) (λ r. ap (λ b. same_name new.owner r.owner && b) (same-bare new.value r.value (kindless new none))) records

pub bare-conflicts : (records : List Record) (new : Record) → key_of new ≡ None → false ≡ list_any (conflicts new) records
bare-conflicts records new none = sym (any-none (conflicts new) (λ r. ap (λ (own : Option Kind). same_name new.owner r.owner && is_some own && has_some_kind r.value && (option_map_or (λ own. same_kind own Alias) own false || has_own_kind Alias r.value)) (kindless new none) ∙ nothing (same_name new.owner r.owner) (has_some_kind r.value) (has_own_kind Alias r.value)) records) where
  nothing : (a b c : Bool) → (a && false && b && (false || c)) ≡ false
  nothing true b c = refl
  nothing false b c = refl

pub bare-count : (records : List Record) (new : Record) → key_of new ≡ None → 0 ≡ count_by (shares_set new) records
bare-count records new none = sym (sym (length-filter (shares_set new) records) ∙ ap length (filter-none (shares_set new) (λ r. ap (λ (own : Option Kind). same_name new.owner r.owner && option_map_or (λ kind. has_own_kind kind r.value) own false) (kindless new none) ∙ nothing (same_name new.owner r.owner)) records)) where
  nothing : (a : Bool) → (a && false) ≡ false
  nothing true = refl
  nothing false = refl

-- the kind of a record's data is not that of existence
pub kind-of_records : (value : Data) (kind : Kind) → kind_of value ≡ Some kind → same_kind kind Exists ≡ false
kind-of_records value kind is = sym (ap (λ own. option_map_or (λ own. same_kind own Exists) own false) is) ∙ no_record-exists value
