-- What an edit does to a store, from what it does to its records.
use Rattle.std.proofs.Common.{◌≡◌, ◌≢◌, ◌+◌, ◌^◌, ◌≤◌, ℕ, Bool, true, false, not, if◌then◌else◌, List, Option, None, Some, Result, Ok, Err, length, nat_le, nat_lt, refl, ap, subst, sym, ◌∙◌, inl, inr}
use Rattle.std.specs.Prelude.{OnOk, OnErr, IfErr, MatchResult}
use Rattle.std.specs.Option.{option_or}
use Rattle.std.specs.List.{count_by, list_any}
use Rattle.std.proofs.lemmas.Bool.{cases_Bool}
use Rattle.std.proofs.lemmas.List.Folds.{list_any-append}
use Rattle.sipl_names.specs.Labels.{same_name}
use Rattle.sipl_names.specs.Labels.{is_wildcard}
use Rattle.sipl_records.proofs.Public.{set_of-existence}
use Rattle.sipl_records.specs.Sets.{conflicts, exists_in, existence_of, is_existence, same_record, same_key, shares_set}
use Rattle.sipl_records.specs.declared.record.Record.{Record}
use Rattle.sipl_records.specs.declared.record.Key.{Key}
use Rattle.sipl_zonestore.specs.declared.changed.Changed.{Changed}
use Rattle.sipl_zonestore.specs.declared.fault.StoreFault.{StoreFault}
use Rattle.sipl_zonestore.specs.declared.fault.StoreFault.TheVariants.{Overlap, NoZone, Duplicate, Absent, AliasBesideData, SetFull, StoreFull, WildApex, Memory}
use Rattle.sipl_zonestore.specs.Store.{Zones, Store, number_in, overlaps, is_covered, records_after_load}
use Rattle.sipl_zonestore.specs.Edits.{Edit, load, unload, add, remove, after, refusal_of}
use Rattle.sipl_zonestore.specs.Changes.{changed_count, changed_existence, changed_keys, changed_sets, exists_in_one}
use Rattle.sipl_zonestore.specs.Numbers.{existence_number, number_after, next_after, number_refusal}
use Rattle.sipl_zonestore.specs.IndexedRecords.{IndexedState, IsReplaced}
use Rattle.sipl_zonestore.specs.Edited.{IsEdited, IsKept, store_refusal, early_refusal}
use Rattle.sipl_zonestore.specs.Consistent.{IsConsistent}
use Rattle.sipl_zonestore.proofs.Numbering.{kept-after, same_key-flipped}
use Rattle.sipl_zonestore.proofs.ExactKeys.{changed-existence_any}
use Rattle.sipl_zonestore.proofs.Recorded.{enough-unload}
use Rattle.sipl_zonestore.proofs.Elements.{or_left}
use Rattle.sipl_zonestore.proofs.Consistency.{IsGood, consistent-edited}

-- the records of a store, with their numbers
abbrev pub part : Store → IndexedState
part store = record { records = store.zones.records; numbers = store.numbers; next = store.next }

second : (first second : Option StoreFault) (fault : StoreFault) → first ≡ None → second ≡ Some fault → option_or first second ≡ Some fault
second None other fault none is = is
second (Some first) other fault none is = cc

second_none : (first second : Option StoreFault) → first ≡ None → second ≡ None → option_or first second ≡ None
second_none None other none is = is
second_none (Some first) other none is = cc

first_some : (first second : Option StoreFault) (fault : StoreFault) → first ≡ Some fault → option_or first second ≡ Some fault
first_some None other fault is = cc
first_some (Some first) other fault is = is

-- a name whose key is not among the changed ones exists as it did
existence-kept : (old new : Store) (key : Key) → is_existence key ≡ true → list_any (same_key key) (changed_keys old.zones.records new.zones.records) ≡ false → IsKept old new key
existence-kept old new key of none =
    let unchanged : exists_in_one old.zones.records new.zones.records key.name ≡ false = sym (changed-existence_any old.zones.records new.zones.records key of) ∙ same_key-flipped key (changed_keys old.zones.records new.zones.records) ∙ none in
    let same : exists_in new.zones.records key.name ≡ exists_in old.zones.records key.name = agree (exists_in old.zones.records key.name) (exists_in new.zones.records key.name) unchanged in
    (set_of-existence new.zones.records key of ∙ ap existence_of same ∙ sym (set_of-existence old.zones.records key of), rw of (ap existence_number same)) where
      agree : (a b : Bool) → (if a then not b else b) ≡ false → b ≡ a
      agree true true same = refl
      agree true false same = cc
      agree false true same = cc
      agree false false same = refl

-- the refusal of an edit that the zones accept is that of its numbers
pub checked : (edit : Edit) (store : Store) (result : Result (Unit {0}) StoreFault) → refusal_of store.max_records edit store.zones ≡ None → MatchResult result (λ _. number_refusal store.zones.records (after edit store.zones).records store.next ≡ None) (λ fault. number_refusal store.zones.records (after edit store.zones).records store.next ≡ Some fault) → MatchResult result (λ _. store_refusal edit store ≡ None) (λ fault. store_refusal edit store ≡ Some fault)
checked edit store (Ok done) accepted none = second_none (refusal_of store.max_records edit store.zones) (number_refusal store.zones.records (after edit store.zones).records store.next) accepted none
checked edit store (Err fault) accepted why = second (refusal_of store.max_records edit store.zones) (number_refusal store.zones.records (after edit store.zones).records store.next) fault accepted why

-- and else that of its zones
pub unchecked : (edit : Edit) (store : Store) (fault : StoreFault) → refusal_of store.max_records edit store.zones ≡ Some fault → store_refusal edit store ≡ Some fault
unchecked edit store fault why = first_some (refusal_of store.max_records edit store.zones) (number_refusal store.zones.records (after edit store.zones).records store.next) fault why

-- an edit that the zones accept is what the records say
pub edited : (edit : Edit) (old new : Store) (result : Result Changed StoreFault) → IsGood edit → IsConsistent old → refusal_of old.max_records edit old.zones ≡ None → IsReplaced (after edit old.zones).records (part old) (part new) result → IfErr result (λ fault. fault ≡ Memory → early_refusal edit old ≡ None) → OnOk result (new.zones.apexes ≡ (after edit old.zones).apexes) → OnErr result (new.zones.apexes ≡ old.zones.apexes) → new.max_records ≡ old.max_records → new.looks ≡ old.looks → IsEdited edit old new result
edited edit old new (Ok done) good held accepted is _ apexes _ limit looks = record {
  accepted = second_none (refusal_of old.max_records edit old.zones) (number_refusal old.zones.records (after edit old.zones).records old.next) accepted is.accepted;
  after = λ i. record { apexes = apexes i; records = is.after i };
  changed = is.changed ∙ ap (changed_keys old.zones.records) (sym is.after);
  counted = is.counted ∙ ap (changed_count old.zones.records) (sym is.after);
  numbers = λ key. numbers key ∙ ap (λ records. number_after old.zones.records records old.next (number_in old) key) (sym is.after);
  kept = λ key other. kept key (ap (list_any (same_key key)) (ap (changed_keys old.zones.records) is.after ∙ sym is.changed) ∙ other);
  next = is.next ∙ ap (λ records. next_after old.zones.records records old.next) (sym is.after);
  refused = tt;
  memory = tt;
  unchanged = tt;
  limit = limit;
  looks = looks;
  consistent = consistent-edited edit old new good held accepted is.accepted (λ i. record { apexes = apexes i; records = is.after i }) limit is.next numbers;
} where
  numbers : (key : Key) → number_in new key ≡ number_after old.zones.records (after edit old.zones).records old.next (number_in old) key
  numbers key = elim (cases_Bool (is_existence key)) [
    | inl of ↦ rw of (ap (λ records. existence_number (exists_in records key.name)) is.after)
    | inr other ↦ rw other (is.numbers key)
  ]

  kept : (key : Key) → list_any (same_key key) (changed_keys old.zones.records new.zones.records) ≡ false → IsKept old new key
  kept key none = elim (cases_Bool (is_existence key)) [
    | inl of ↦ existence-kept old new key of none
    | inr other ↦
        let same = kept-after old.zones.records new.zones.records old.next (number_in old) held.numbered key other (or_left _ _ (sym (list_any-append (same_key key) (changed_sets old.zones.records new.zones.records) (changed_existence old.zones.records new.zones.records)) ∙ none)) in
        (same.0, numbers key ∙ ap (λ records. number_after old.zones.records records old.next (number_in old) key) (sym is.after) ∙ same.1)
  ]
edited edit old new (Err fault) good held accepted is memory _ apexes limit looks =
    let same : new ≡ old = λ i. record { zones = record { apexes = apexes i; records = (is.unchanged i).records }; max_records = limit i; numbers = (is.unchanged i).numbers; next = (is.unchanged i).next; looks = looks i } in
    record {
      accepted = tt;
      after = tt;
      changed = tt;
      counted = tt;
      numbers = tt;
      kept = tt;
      next = tt;
      refused = λ some. second (refusal_of old.max_records edit old.zones) (number_refusal old.zones.records (after edit old.zones).records old.next) fault accepted (is.refused some);
      memory = memory;
      unchanged = same;
      limit = limit;
      looks = looks;
      consistent = subst IsConsistent (sym same) held;
    }

-- zones are never refused for memory
unless : (b : Bool) (fault : StoreFault) (rest : Option StoreFault) → fault ≢ Memory → rest ≢ Some Memory → (if b then Some fault else rest) ≢ Some Memory
unless true fault rest other past = λ is. other (some_fault is) where
  some_fault : {fault other : StoreFault} → Some fault ≡ Some other → fault ≡ other
  some_fault is = cc
unless false fault rest other past = past

none_memory : None ≢ Some Memory
none_memory = λ is. cc

no_memory : (max_records : ℕ) (edit : Edit) (zones : Zones) → refusal_of max_records edit zones ≢ Some Memory
no_memory max_records (load zone) zones =
    unless (is_wildcard zone.apex) WildApex _ (λ is. cc) (unless (list_any (overlaps zone.apex) zones.apexes) Overlap _ (λ is. cc) (unless (nat_lt max_records (length (records_after_load zone zones.records))) StoreFull None (λ is. cc) none_memory))
no_memory max_records (unload apex) zones = by_case (list_any (same_name apex) zones.apexes) where
  by_case : (b : Bool) → (if b then None else Some NoZone) ≢ Some Memory
  by_case true = λ is. cc
  by_case false = λ is. cc
no_memory max_records (add r) zones =
    unless (not (is_covered zones.apexes r.owner)) NoZone _ (λ is. cc) (unless (list_any (same_record r) zones.records) Duplicate _ (λ is. cc) (unless (list_any (conflicts r) zones.records) AliasBesideData _ (λ is. cc) (unless (nat_le 32 (count_by (shares_set r) zones.records)) SetFull _ (λ is. cc) (unless (nat_le max_records (length zones.records)) StoreFull None (λ is. cc) none_memory))))
no_memory max_records (remove r) zones = unless (not (is_covered zones.apexes r.owner)) NoZone _ (λ is. cc) (by_case (list_any (same_record r) zones.records)) where
  by_case : (b : Bool) → (if b then None else Some Absent) ≢ Some Memory
  by_case true = λ is. cc
  by_case false = λ is. cc

-- nor are there too few numbers where an allocation failed
pub memory-edit : (edit : Edit) (store : Store) (result : Result Changed StoreFault) → refusal_of store.max_records edit store.zones ≡ None → IfErr result (λ fault. fault ≡ Memory → number_refusal store.zones.records (after edit store.zones).records store.next ≡ None) → IfErr result (λ fault. fault ≡ Memory → store_refusal edit store ≡ None)
memory-edit edit store (Ok done) accepted none = tt
memory-edit edit store (Err fault) accepted none = λ memory. second_none (refusal_of store.max_records edit store.zones) (number_refusal store.zones.records (after edit store.zones).records store.next) accepted (none memory)

-- a fact, where the result is out of memory
pub if_memory : {T P : Type 0} (result : Result T StoreFault) → P → IfErr result (λ fault. fault ≡ Memory → P)
if_memory (Ok done) p = tt
if_memory (Err fault) p = λ memory. p

-- an edit that the zones accept, and fails for memory
pub out_of_memory : (edit : Edit) (store : Store) → IsConsistent store → early_refusal edit store ≡ None → IsEdited edit store store (Err Memory)
out_of_memory edit store held early = record {
  accepted = tt;
  after = tt;
  changed = tt;
  counted = tt;
  numbers = tt;
  kept = tt;
  next = tt;
  refused = λ some. absurd (some refl);
  memory = λ memory. early;
  unchanged = refl;
  limit = refl;
  looks = refl;
  consistent = held;
}

-- one that the zones refuse
pub refused-edit : (edit : Edit) (store : Store) (fault : StoreFault) → IsConsistent store → refusal_of store.max_records edit store.zones ≡ Some fault → IsEdited edit store store (Err fault)
refused-edit edit store fault held why = record {
  accepted = tt;
  after = tt;
  changed = tt;
  counted = tt;
  numbers = tt;
  kept = tt;
  next = tt;
  refused = λ some. first_some (refusal_of store.max_records edit store.zones) (number_refusal store.zones.records (after edit store.zones).records store.next) fault why;
  memory = λ memory. absurd (no_memory store.max_records edit store.zones (why ∙ ap (λ f. Some f) memory));
  unchanged = refl;
  limit = refl;
  looks = refl;
  consistent = held;
}

-- a store by its parts
abbrev pub store_of : List (List (List ℕ)) → IndexedState → ℕ → ℕ → Store
store_of apexes records max_records looks =
    record { zones = record { apexes = apexes; records = records.records }; max_records = max_records; numbers = records.numbers; next = records.next; looks = looks }

pub edited-with : (edit : Edit) (apexes apexes' : List (List (List ℕ))) (records records' : IndexedState) (max_records looks : ℕ) (result : Result Changed StoreFault) → IsGood edit → IsConsistent (store_of apexes records max_records looks) → refusal_of max_records edit (record { apexes = apexes; records = records.records }) ≡ None → IsReplaced (after edit (record { apexes = apexes; records = records.records })).records records records' result → IfErr result (λ fault. fault ≡ Memory → early_refusal edit (store_of apexes records max_records looks) ≡ None) → OnOk result (apexes' ≡ (after edit (record { apexes = apexes; records = records.records })).apexes) → OnErr result (apexes' ≡ apexes) → IsEdited edit (store_of apexes records max_records looks) (store_of apexes' records' max_records looks) result
edited-with edit apexes apexes' records records' max_records looks result good held accepted is memory done kept =
    edited edit (store_of apexes records max_records looks) (store_of apexes' records' max_records looks) result good held accepted is memory done kept refl refl

-- a record that may be removed is there
pub not_absent : (max_records : ℕ) (r : Record) (zones : Zones) → refusal_of max_records (remove r) zones ≡ None → list_any (same_record r) zones.records ≡ true
not_absent max_records r zones accepted = covered_case (is_covered zones.apexes r.owner) accepted where
  there : (b : Bool) → (if b then None else Some Absent) ≡ None → b ≡ true
  there true accepted = refl
  there false accepted = cc

  covered_case : (b : Bool) → (if not b then Some NoZone else (if list_any (same_record r) zones.records then None else Some Absent)) ≡ None → list_any (same_record r) zones.records ≡ true
  covered_case true accepted = there (list_any (same_record r) zones.records) accepted
  covered_case false accepted = cc

-- a zone that is loaded may be unloaded
pub loaded : (max_records : ℕ) (apex : List (List ℕ)) (zones : Zones) → list_any (same_name apex) zones.apexes ≡ true → refusal_of max_records (unload apex) zones ≡ None
loaded max_records apex zones there = rw there refl

-- and another one may not
pub not_loaded : (max_records : ℕ) (apex : List (List ℕ)) (zones : Zones) → list_any (same_name apex) zones.apexes ≡ false → refusal_of max_records (unload apex) zones ≡ Some NoZone
not_loaded max_records apex zones none = rw none refl

-- whether a zone may be unloaded
pub checked-unload : (store : Store) (apex : List (List ℕ)) (result : Result (Unit {0}) StoreFault) → store.next ≤ 2 ^ 52 + 1 → MatchResult result (λ _. list_any (same_name apex) store.zones.apexes ≡ true) (λ fault. (list_any (same_name apex) store.zones.apexes ≡ false) × (fault ≡ NoZone)) → MatchResult result (λ _. store_refusal (unload apex) store ≡ None) (λ fault. store_refusal (unload apex) store ≡ Some fault)
checked-unload store apex (Ok done) few there =
    second_none (refusal_of store.max_records (unload apex) store.zones) (number_refusal store.zones.records (after (unload apex) store.zones).records store.next) (loaded store.max_records apex store.zones there) (enough-unload apex store.zones.records store.next few)
checked-unload store apex (Err fault) few why =
    unchecked (unload apex) store fault (not_loaded store.max_records apex store.zones why.0 ∙ ap (λ f. Some f) (sym why.1))
