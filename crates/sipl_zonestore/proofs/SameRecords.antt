-- Records that stay as they are where they replace themselves.
use Rattle.std.proofs.Common.{◌≡◌, ℕ, ◌+◌, ◌^◌, ◌≤◌, Bool, true, false, not, List, [], ◌∷◌, ◌++◌, length, map, None, Ok, if◌then◌else◌, refl, ap, subst, sym, ◌∙◌, inl, inr, arith}
use Rattle.std.specs.List.{filter, filter_map, list_all, list_any, position_from}
use Rattle.std.specs.Option.{unwrap_or}
use Rattle.std.proofs.lemmas.Bool.{cases_Bool}
use lib.Pointwise.{pointwise_decides}
use Rattle.sipl_names.specs.Labels.{Labels, is_within}
use Rattle.sipl_records.specs.declared.record.Record.{Record}
use Rattle.sipl_records.specs.declared.record.Key.{Key}
use Rattle.sipl_records.specs.Sets.{data_of, exists_in, same_key, key_of}
use Rattle.sipl_records.specs.Unique.{unique}
use Rattle.sipl_records.proofs.Public.{filter-none, same_data-Decides}
use Rattle.sipl_zonestore.specs.Store.{records_outside}
use Rattle.sipl_zonestore.specs.Changes.{is_changed, changed_sets, exists_in_one, existing_names, existence_key, changed_existence, changed_keys}
use Rattle.sipl_zonestore.specs.Numbers.{is_empty, number_of, numbered_keys, set_number_after, number_refusal}
use Rattle.sipl_zonestore.specs.SetTable.{OwnerTable, numbers_of, HasSets}
use Rattle.sipl_zonestore.specs.IndexedRecords.{IndexedState, IsReplaced, nothing}
use Rattle.sipl_zonestore.proofs.SetTables.{number_of-numbers_of}
use Rattle.sipl_zonestore.proofs.Replacing.{accepted-numbers}
use Rattle.sipl_zonestore.proofs.Recorded.{done, kept-number}

-- records that are outside, and those after them
pub outside : (apex : Labels) (others rest : List Record) → list_any (λ r. is_within r.owner apex) others ≡ false → records_outside apex (others ++ rest) ≡ others ++ records_outside apex rest
outside apex [] rest none = refl
outside apex (r ∷ others) rest none = elim (cases_Bool (is_within r.owner apex)) [
  | inl inside ↦ let never : true ≡ false = rw inside at none in cc
  | inr out ↦ rw out (ap (λ rs. r ∷ rs) (outside apex others rest (rw out at none)))
]

pub none_outside : (apex : Labels) (text : List Record) → list_all (λ r. is_within r.owner apex) text ≡ true → records_outside apex text ≡ []
none_outside apex [] all = refl
none_outside apex (r ∷ text) all = elim (cases_Bool (is_within r.owner apex)) [
  | inl inside ↦ rw inside (none_outside apex text (rw inside at all))
  | inr out ↦ let never : false ≡ true = rw out at all in cc
]

-- no set differs, and no name begins or ceases to exist
same_set : (records : List Record) (key : Key) → is_changed records records key ≡ false
same_set records key = ap not ((pointwise_decides same_data-Decides (data_of records key) (data_of records key)).1 refl)

same_sets : (records : List Record) → changed_sets records records ≡ []
same_sets records = filter-none (is_changed records records) (same_set records) (unique same_key (filter_map key_of (records ++ records)))

same_existence : (records : List Record) → changed_existence records records ≡ []
same_existence records =
    ap (map existence_key) (filter-none (exists_in_one records records) (λ name. either (exists_in records name)) (existing_names (records ++ records))) where
      either : (b : Bool) → (if b then not b else b) ≡ false
      either true = refl
      either false = refl

same_keys : (records : List Record) → changed_keys records records ≡ []
same_keys records = ap (λ keys. keys ++ changed_existence records records) (same_sets records) ∙ same_existence records

none_numbered : (records : List Record) → numbered_keys records records ≡ []
none_numbered records = ap (filter (λ key. not (is_empty (data_of records key)))) (same_sets records)

-- nothing has changed
pub unchanged : (records new : List Record) (sets : OwnerTable) (next : ℕ) → HasSets sets records → next ≤ 2 ^ 52 + 1 → new ≡ records → IsReplaced new (record { records = records; numbers = numbers_of sets; next = next }) (record { records = records; numbers = numbers_of sets; next = next }) (Ok nothing)
unchanged records new sets next has last same =
    subst (λ rs. IsReplaced rs state state (Ok nothing)) (sym same) (done records state state nothing enough refl (sym (same_keys records)) (sym (ap length (same_sets records))) numbers after) where
      state : IndexedState
      state = record { records = records; numbers = numbers_of sets; next = next }

      none : length (numbered_keys records records) ≡ 0
      none = ap length (none_numbered records)

      enough : number_refusal records records next ≡ None
      enough = accepted-numbers records records next 0 (sym none) (omega (arith, last))

      numbers : (key : Key) → number_of (numbers_of sets) key ≡ set_number_after records records next (number_of (numbers_of sets)) key
      numbers key =
          number_of-numbers_of sets key ∙ kept-number records records sets key has refl
          ∙ ap (λ taken. unwrap_or (position_from (λ other. same_key other key) next taken) (if is_empty (data_of records key) then 0 else number_of (numbers_of sets) key)) (sym (none_numbered records))

      after : next ≡ next + length (numbered_keys records records)
      after = omega (arith, none)
