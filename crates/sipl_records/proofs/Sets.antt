-- The sets of a list of records, of a part of it, and of two lists joined.
use Rattle.std.proofs.Common.{◌≡◌, ℕ, Bool, true, false, ◌&&◌, List, [], ◌∷◌, ◌++◌, map, refl, ap, sym, ◌∙◌, inl, inr, if◌then◌else◌}
use Rattle.std.specs.List.{filter}
use Rattle.std.proofs.lemmas.Bool.{cases_Bool}
use Rattle.sipl_names.proofs.Public.{same_name_decides}
use Rattle.sipl_records.specs.declared.record.Record.{Record}
use Rattle.sipl_records.specs.declared.record.Key.{Key}
use Rattle.sipl_records.specs.Sets.{has_own_kind, has_key, data_of}

-- a set by a filter
pub data_of-is : (records : List Record) (key : Key) → data_of records key ≡ map (λ r. r.value) (filter (has_key key) records)
data_of-is [] key = refl
data_of-is (r ∷ records) key = elim (cases_Bool (has_key key r)) [
  | inl holds ↦ rw holds (ap (λ set. r.value ∷ set) (data_of-is records key))
  | inr fails ↦ rw fails (data_of-is records key)
]

-- two lists joined
pub data_of-append : (a b : List Record) (key : Key) → data_of (a ++ b) key ≡ data_of a key ++ data_of b key
data_of-append [] b key = refl
data_of-append (r ∷ a) b key = elim (cases_Bool (has_key key r)) [
  | inl holds ↦ rw holds (ap (λ set. r.value ∷ set) (data_of-append a b key))
  | inr fails ↦ rw fails (data_of-append a b key)
]

-- records that are left out without their sets
pub data_of-filter_kept : (p : Record → Bool) (key : Key) → ((r : Record) → has_key key r ≡ true → p r ≡ true) → (records : List Record) → data_of (filter p records) key ≡ data_of records key
data_of-filter_kept p key keeps [] = refl
data_of-filter_kept p key keeps (r ∷ records) = elim (cases_Bool (has_key key r)) [
  | inl holds ↦ rw (keeps r holds) (rw holds (ap (λ set. r.value ∷ set) (data_of-filter_kept p key keeps records)))
  | inr fails ↦ rw fails (elim (cases_Bool (p r)) [ inl kept ↦ rw kept (rw fails (data_of-filter_kept p key keeps records)) | inr out ↦ rw out (data_of-filter_kept p key keeps records) ])
]

-- records that are left out with their set
pub data_of-filter_dropped : (p : Record → Bool) (key : Key) → ((r : Record) → has_key key r ≡ true → p r ≡ false) → (records : List Record) → data_of (filter p records) key ≡ []
data_of-filter_dropped p key drops [] = refl
data_of-filter_dropped p key drops (r ∷ records) = elim (cases_Bool (p r)) [
  | inl kept ↦ rw kept (elim (cases_Bool (has_key key r)) [ inl holds ↦ let fails : true ≡ false = sym kept ∙ drops r holds in cc | inr fails ↦ rw fails (data_of-filter_dropped p key drops records) ])
  | inr out ↦ rw out (data_of-filter_dropped p key drops records)
]

both_true : (a b : Bool) → (a && b) ≡ true → a ≡ true
both_true true b h = refl
both_true false b h = h

-- a record of a key's set has the key's name
pub has_key-name : (key : Key) (r : Record) → has_key key r ≡ true → r.owner ≡ key.name
has_key-name key r of = (same_name_decides r.owner key.name).0 (both_true _ (has_own_kind key.kind r.value) of)

-- records that are kept by their owners
pub data_of-filter_owner : (p : List (List ℕ) → Bool) (records : List Record) (key : Key) → data_of (filter (λ r. p r.owner) records) key ≡ (if p key.name then data_of records key else [])
data_of-filter_owner p records key = elim (cases_Bool (p key.name)) [
  | inl kept ↦ rw kept (data_of-filter_kept (λ r. p r.owner) key (λ r of. ap p (has_key-name key r of) ∙ kept) records)
  | inr out ↦ rw out (data_of-filter_dropped (λ r. p r.owner) key (λ r of. ap p (has_key-name key r of) ∙ out) records)
]
