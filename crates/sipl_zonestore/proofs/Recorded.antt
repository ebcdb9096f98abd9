-- Records whose sets are numbered, once records have changed.
use Rattle.std.proofs.Common.{◌≡◌, ◌≢◌, ℕ, ◌+◌, ◌^◌, ◌<◌, ◌≤◌, Bool, true, false, not, ◌&&◌, List, [], ◌∷◌, ◌++◌, length, map, Option, None, Some, Ok, Err, if◌then◌else◌, cond, refl, ap, subst, sym, ◌∙◌, arith, append-nil}
use Rattle.std.specs.Prelude.{Result, MatchResult}
use Rattle.std.specs.List.{filter, filter_map, list_any, list_all, position_from}
use Rattle.std.specs.Option.{option_to_list, unwrap_or}
use Rattle.sipl_names.specs.Labels.{Labels, is_within}
use Rattle.sipl_records.specs.declared.record.Record.{Record}
use Rattle.sipl_records.specs.declared.record.Key.{Key}
use Rattle.sipl_records.specs.Sets.{has_key, data_of, same_data, same_key, same_record, key_of}
use Rattle.sipl_records.specs.Unique.{unique}
use Rattle.sipl_records.proofs.Public.{filter-filter, filter-none, same_key-Decides, same_key-refl, has_key-key_of, is_key, data_of-append}
use Rattle.sipl_zonestore.specs.declared.changed.Changed.{Changed}
use Rattle.sipl_zonestore.specs.declared.fault.StoreFault.{StoreFault}
use Rattle.sipl_zonestore.specs.declared.fault.StoreFault.TheVariants.{Memory, NumberSpent}
use Rattle.sipl_zonestore.specs.Store.{records_outside}
use Rattle.sipl_zonestore.specs.Edits.{records_without}
use Rattle.sipl_zonestore.specs.Changes.{is_changed, changed_count, changed_keys, changed_names, changed_sets, existence_key}
use Rattle.sipl_zonestore.specs.Numbers.{is_empty, number_of, numbered_keys, set_number_after, next_after, number_refusal}
use Rattle.sipl_zonestore.specs.Content.{Content, carried, pushed, without, renumbered}
use Rattle.sipl_zonestore.specs.SetTable.{OwnerTable, content_of, numbers_of, keys_left, has_set, HasSets}
use Rattle.sipl_zonestore.specs.IndexedRecords.{IndexedState, IsReplaced}
use Rattle.sipl_zonestore.proofs.ChangedKeys.{changed-add, changed-remove, set-inside, data_of-without, data_of-others, stays}
use Rattle.sipl_zonestore.proofs.Elements.{chosen-first, chosen-second}
use Rattle.sipl_zonestore.proofs.Contents.{is_empty-push}
use Rattle.sipl_zonestore.proofs.SetTables.{number_of-numbers_of}
use Rattle.sipl_zonestore.proofs.Replacing.{IsReplacement, empty-number, accepted-numbers, refused-numbers, replaced-number, filter-numbered}

-- the number of a set that stays
pub kept-number : (old new : List Record) (sets : OwnerTable) (key : Key) → HasSets sets old → data_of new key ≡ data_of old key → (content_of sets key).number ≡ (if is_empty (data_of new key) then 0 else number_of (numbers_of sets) key)
kept-number old new sets key has same = empty_case (is_empty (data_of new key)) refl where
  empty_case : (b : Bool) → is_empty (data_of new key) ≡ b → (content_of sets key).number ≡ (if b then 0 else number_of (numbers_of sets) key)
  empty_case true gone = empty-number sets key (ap is_empty (has key ∙ sym same) ∙ gone)
  empty_case false left = sym (number_of-numbers_of sets key)

-- of a change that was made
pub done : (records : List Record) (old new : IndexedState) (changed : Changed) → number_refusal old.records records old.next ≡ None → new.records ≡ records → changed.keys ≡ changed_keys old.records records → changed.sets ≡ changed_count old.records records → ((key : Key) → number_of new.numbers key ≡ set_number_after old.records records old.next (number_of old.numbers) key) → new.next ≡ next_after old.records records old.next → IsReplaced records old new (Ok changed)
done records old new changed accepted after keys counted numbers next =
    record { accepted = accepted; after = after; changed = keys; counted = counted; numbers = numbers; next = next; refused = tt; unchanged = tt }

-- and of one that was refused
pub refused : (records : List Record) (old new : IndexedState) (fault : StoreFault) → (fault ≢ Memory → number_refusal old.records records old.next ≡ Some fault) → new ≡ old → IsReplaced records old new (Err fault)
refused records old new fault why same =
    record { accepted = tt; after = tt; changed = tt; counted = tt; numbers = tt; next = tt; refused = why; unchanged = same }

-- one record more
data_of-pushed : (old : List Record) (r : Record) (key : Key) (b : Bool) → has_key key r ≡ b → data_of (old ++ r ∷ []) key ≡ data_of old key ++ cond b (r.value ∷ []) []
data_of-pushed old r key b is = data_of-append old (r ∷ []) key ∙ ap (λ b. data_of old key ++ cond b (r.value ∷ []) []) is

pub numbered-add : (old : List Record) (r : Record) → numbered_keys old (old ++ r ∷ []) ≡ option_to_list (key_of r)
numbered-add old r = ap (filter (λ key. not (is_empty (data_of (old ++ r ∷ []) key)))) (changed-add old r) ∙ own_case (key_of r) refl where
  own_case : (own : Option Key) → key_of r ≡ own → filter (λ key. not (is_empty (data_of (old ++ r ∷ []) key))) (option_to_list own) ≡ option_to_list own
  own_case None is = refl
  own_case (Some key) is =
      let there : has_key key r ≡ true = has_key-key_of key r ∙ rw is (same_key-refl key) in
      rw (data_of-pushed old r key true there, is_empty-push (data_of old key) r.value) refl

-- a table with one datum more has the sets
pub pushed-sets : (old : List Record) (r : Record) (next : ℕ) (sets sets' : OwnerTable) → HasSets sets old → ((key : Key) → content_of sets' key ≡ (if has_key key r then pushed next r.value (content_of sets key) else content_of sets key)) → HasSets sets' (old ++ r ∷ [])
pushed-sets old r next sets sets' has put key = own_case (has_key key r) refl where
  own_case : (b : Bool) → has_key key r ≡ b → (content_of sets' key).values ≡ data_of (old ++ r ∷ []) key
  own_case true own =
      ap (λ (c : Content). c.values) (chosen-first _ _ _ _ (put key) own) ∙ ap (λ set. set ++ r.value ∷ []) (has key) ∙ sym (data_of-pushed old r key true own)
  own_case false other =
      ap (λ (c : Content). c.values) (chosen-second _ _ _ _ (put key) other) ∙ has key ∙ sym (data_of-pushed old r key false other ∙ append-nil (data_of old key))

-- and the numbers
pub pushed-number : (old : List Record) (r : Record) (next : ℕ) (sets sets' : OwnerTable) → HasSets sets old → ((key : Key) → content_of sets' key ≡ (if has_key key r then pushed next r.value (content_of sets key) else content_of sets key)) → (key : Key) → number_of (numbers_of sets') key ≡ set_number_after old (old ++ r ∷ []) next (number_of (numbers_of sets)) key
pushed-number old r next sets sets' has put key =
    number_of-numbers_of sets' key ∙ ap (λ (c : Content). c.number) (put key) ∙ own_case (key_of r) (has_key key r) refl refl (has_key-key_of key r)
    ∙ ap (λ keys. unwrap_or (position_from (λ other. same_key other key) next keys) (if is_empty (data_of (old ++ r ∷ []) key) then 0 else number_of (numbers_of sets) key)) (sym (numbered-add old r)) where
      stays : has_key key r ≡ false → (content_of sets key).number ≡ (if is_empty (data_of (old ++ r ∷ []) key) then 0 else number_of (numbers_of sets) key)
      stays other = kept-number old (old ++ r ∷ []) sets key has (data_of-pushed old r key false other ∙ append-nil (data_of old key))

      own_case : (own : Option Key) (b : Bool) → key_of r ≡ own → has_key key r ≡ b → has_key key r ≡ is_key key (key_of r) → (if has_key key r then pushed next r.value (content_of sets key) else content_of sets key).number ≡ unwrap_or (position_from (λ other. same_key other key) next (option_to_list own)) (if is_empty (data_of (old ++ r ∷ []) key) then 0 else number_of (numbers_of sets) key)
      own_case None true is there same = let never : true ≡ false = sym there ∙ same ∙ ap (is_key key) is in cc
      own_case None false is other same = rw other (stays other)
      own_case (Some own) true is there same =
          let here : same_key own key ≡ true = sym (sym there ∙ same ∙ ap (is_key key) is) in rw (there, here) refl
      own_case (Some own) false is other same =
          let apart : same_key own key ≡ false = sym (sym other ∙ same ∙ ap (is_key key) is) in rw (other, apart) (stays other)

-- a record was added
pub added : (old records : List Record) (r : Record) (next after : ℕ) (sets sets' : OwnerTable) (changed : Changed) (names : List Labels) → HasSets sets old → ((key : Key) → content_of sets' key ≡ (if has_key key r then pushed next r.value (content_of sets key) else content_of sets key)) → records ≡ old ++ r ∷ [] → changed.keys ≡ option_to_list (key_of r) ++ map existence_key names → names ≡ changed_names old (old ++ r ∷ []) → changed.sets ≡ length (option_to_list (key_of r)) → after ≡ next + length (option_to_list (key_of r)) → after ≤ 2 ^ 52 + 1 → IsReplaced (old ++ r ∷ []) (record { records = old; numbers = numbers_of sets; next = next }) (record { records = records; numbers = numbers_of sets'; next = after }) (Ok changed)
added old records r next after sets sets' changed names has put records_are keys_are names_are sets_are after_is few =
    let counted : length (option_to_list (key_of r)) ≡ length (numbered_keys old (old ++ r ∷ [])) = ap length (sym (numbered-add old r)) in
    done (old ++ r ∷ []) (record { records = old; numbers = numbers_of sets; next = next }) (record { records = records; numbers = numbers_of sets'; next = after }) changed (accepted-numbers old (old ++ r ∷ []) next (length (option_to_list (key_of r))) counted (omega (arith, after_is, few))) records_are (keys_are ∙ (λ i. sym (changed-add old r) i ++ map existence_key (names_are i))) (sets_are ∙ ap length (sym (changed-add old r))) (pushed-number old r next sets sets' has put) (after_is ∙ ap (λ n. next + n) counted)

-- the keys that take a number where a record is removed
pub numbered-remove : (old : List Record) (r : Record) (sets : OwnerTable) → HasSets sets old → list_any (same_record r) old ≡ true → numbered_keys old (records_without r old) ≡ keys_left sets r
numbered-remove old r sets has some = ap (filter (λ key. not (is_empty (data_of (records_without r old) key)))) (changed-remove old r some) ∙ own_case (key_of r) refl where
  own_case : (own : Option Key) → key_of r ≡ own → filter (λ key. not (is_empty (data_of (records_without r old) key))) (option_to_list own) ≡ filter (λ key. not (is_empty (without r.value (content_of sets key)).values)) (option_to_list own)
  own_case None is = refl
  own_case (Some key) is =
      let there : has_key key r ≡ true = has_key-key_of key r ∙ rw is (same_key-refl key) in
      rw (data_of-without r old key there, has key) refl

pub removed-sets : (old : List Record) (r : Record) (next : ℕ) (sets sets' : OwnerTable) → HasSets sets old → ((key : Key) → content_of sets' key ≡ (if has_key key r then renumbered next (without r.value (content_of sets key)) else content_of sets key)) → HasSets sets' (records_without r old)
removed-sets old r next sets sets' has put key = own_case (has_key key r) refl where
  own_case : (b : Bool) → has_key key r ≡ b → (content_of sets' key).values ≡ data_of (records_without r old) key
  own_case true own =
      ap (λ (c : Content). c.values) (chosen-first _ _ _ _ (put key) own) ∙ ap (filter (λ other. not (same_data r.value other))) (has key) ∙ sym (data_of-without r old key own)
  own_case false other =
      ap (λ (c : Content). c.values) (chosen-second _ _ _ _ (put key) other) ∙ has key ∙ sym (data_of-others r old key other)

pub removed-number : (old : List Record) (r : Record) (next : ℕ) (sets sets' : OwnerTable) → HasSets sets old → list_any (same_record r) old ≡ true → ((key : Key) → content_of sets' key ≡ (if has_key key r then renumbered next (without r.value (content_of sets key)) else content_of sets key)) → (key : Key) → number_of (numbers_of sets') key ≡ set_number_after old (records_without r old) next (number_of (numbers_of sets)) key
removed-number old r next sets sets' has some put key =
    number_of-numbers_of sets' key ∙ ap (λ (c : Content). c.number) (put key) ∙ own_case (key_of r) (has_key key r) refl refl (has_key-key_of key r)
    ∙ ap (λ keys. unwrap_or (position_from (λ other. same_key other key) next keys) (if is_empty (data_of (records_without r old) key) then 0 else number_of (numbers_of sets) key)) (sym (ap (filter (λ key. not (is_empty (data_of (records_without r old) key)))) (changed-remove old r some))) where
      left : Key → Bool
      left k = not (is_empty (data_of (records_without r old) k))

      stays : has_key key r ≡ false → (content_of sets key).number ≡ (if is_empty (data_of (records_without r old) key) then 0 else number_of (numbers_of sets) key)
      stays other = kept-number old (records_without r old) sets key has (data_of-others r old key other)

      values : has_key key r ≡ true → filter (λ other. not (same_data r.value other)) (content_of sets key).values ≡ data_of (records_without r old) key
      values there = ap (filter (λ other. not (same_data r.value other))) (has key) ∙ sym (data_of-without r old key there)

      empty_case : (own : Key) (b : Bool) → own ≡ key → is_empty (data_of (records_without r old) key) ≡ b → (if b then 0 else next) ≡ unwrap_or (position_from (λ other. same_key other key) next (filter (λ key. not (is_empty (data_of (records_without r old) key))) (own ∷ []))) (if is_empty (data_of (records_without r old) key) then 0 else number_of (numbers_of sets) key)
      empty_case own true same gone =
          let none : not (is_empty (data_of (records_without r old) own)) ≡ false = ap (λ k. not (is_empty (data_of (records_without r old) k))) same ∙ rw gone refl in rw (none, gone) refl
      empty_case own false same left =
          let kept : not (is_empty (data_of (records_without r old) own)) ≡ true = ap (λ k. not (is_empty (data_of (records_without r old) k))) same ∙ rw left refl in
          let here : same_key own key ≡ true = ap (λ k. same_key k key) same ∙ same_key-refl key in
          rw (kept, here) refl

      other_case : (own : Key) (b : Bool) → same_key own key ≡ false → left own ≡ b → (content_of sets key).number ≡ (if is_empty (data_of (records_without r old) key) then 0 else number_of (numbers_of sets) key) → (content_of sets key).number ≡ unwrap_or (position_from (λ other. same_key other key) next (cond b (own ∷ []) [])) (if is_empty (data_of (records_without r old) key) then 0 else number_of (numbers_of sets) key)
      other_case own true apart is kept = rw apart kept
      other_case own false apart is kept = kept

      own_case : (own : Option Key) (b : Bool) → key_of r ≡ own → has_key key r ≡ b → has_key key r ≡ is_key key (key_of r) → (if has_key key r then renumbered next (without r.value (content_of sets key)) else content_of sets key).number ≡ unwrap_or (position_from (λ other. same_key other key) next (filter (λ key. not (is_empty (data_of (records_without r old) key))) (option_to_list own))) (if is_empty (data_of (records_without r old) key) then 0 else number_of (numbers_of sets) key)
      own_case None true is there same = let never : true ≡ false = sym there ∙ same ∙ ap (is_key key) is in cc
      own_case None false is other same = rw other (stays other)
      own_case (Some own) true is there same =
          let here : same_key own key ≡ true = sym (sym there ∙ same ∙ ap (is_key key) is) in
          rw (there, values there) (empty_case own (is_empty (data_of (records_without r old) key)) ((same_key-Decides own key).0 here) refl)
      own_case (Some own) false is other same =
          let apart : same_key own key ≡ false = sym (sym other ∙ same ∙ ap (is_key key) is) in
          rw other (other_case own (left own) apart refl (stays other))

-- a record was removed
pub taken_out : (old records : List Record) (r : Record) (next after : ℕ) (sets sets' : OwnerTable) (changed : Changed) (names : List Labels) → HasSets sets old → list_any (same_record r) old ≡ true → ((key : Key) → content_of sets' key ≡ (if has_key key r then renumbered next (without r.value (content_of sets key)) else content_of sets key)) → records ≡ records_without r old → changed.keys ≡ option_to_list (key_of r) ++ map existence_key names → names ≡ changed_names old (records_without r old) → changed.sets ≡ length (option_to_list (key_of r)) → after ≡ next + length (keys_left sets r) → after ≤ 2 ^ 52 + 1 → IsReplaced (records_without r old) (record { records = old; numbers = numbers_of sets; next = next }) (record { records = records; numbers = numbers_of sets'; next = after }) (Ok changed)
taken_out old records r next after sets sets' changed names has some put records_are keys_are names_are sets_are after_is few =
    let counted : length (keys_left sets r) ≡ length (numbered_keys old (records_without r old)) = ap length (sym (numbered-remove old r sets has some)) in
    done (records_without r old) (record { records = old; numbers = numbers_of sets; next = next }) (record { records = records; numbers = numbers_of sets'; next = after }) changed (accepted-numbers old (records_without r old) next (length (keys_left sets r)) counted (omega (arith, after_is, few))) records_are (keys_are ∙ (λ i. sym (changed-remove old r some) i ++ map existence_key (names_are i))) (sets_are ∙ ap length (sym (changed-remove old r some))) (removed-number old r next sets sets' has some put) (after_is ∙ ap (λ n. next + n) counted)

-- how many sets of a text take a number
pub counted-replace : (apex : List (List ℕ)) (old text : List Record) (count : ℕ) (sets text_sets : OwnerTable) (keys : List Key) → list_all (λ r. is_within r.owner apex) text ≡ true → ((key : Key) → content_of text_sets key ≡ carried (content_of sets key).number (data_of text key)) → keys ≡ changed_sets old (records_outside apex old ++ text) → count ≡ length (filter (has_set text_sets) keys) → count ≡ length (numbered_keys old (records_outside apex old ++ text))
counted-replace apex old text count sets text_sets keys all made changed count_is =
    count_is ∙ ap (λ ks. length (filter (has_set text_sets) ks)) changed ∙ ap length (filter-numbered apex old text sets text_sets all made)

-- records were replaced
pub replaced : (inside : Labels → Bool) (old new text records : List Record) (next after count : ℕ) (sets loaded put : OwnerTable) (changed : Changed) → IsReplacement inside old new text next sets loaded put → records ≡ new → changed.keys ≡ changed_keys old new → changed.sets ≡ changed_count old new → count ≡ length (numbered_keys old new) → after ≡ next + count → next + count ≤ 2 ^ 52 + 1 → IsReplaced new (record { records = old; numbers = numbers_of sets; next = next }) (record { records = records; numbers = numbers_of put; next = after }) (Ok changed)
replaced inside old new text records next after count sets loaded put changed is records_are keys_are sets_are counted after_is few =
    done new (record { records = old; numbers = numbers_of sets; next = next }) (record { records = records; numbers = numbers_of put; next = after }) changed (accepted-numbers old new next count counted few) records_are keys_are sets_are (λ key. number_of-numbers_of put key ∙ replaced-number inside old new text next sets loaded put is key) (after_is ∙ ap (λ n. next + n) counted)

-- too few numbers are left to replace records
pub refused-replace : (apex : List (List ℕ)) (old text : List Record) (next count : ℕ) (sets text_sets : OwnerTable) (keys : List Key) (fault : StoreFault) → list_all (λ r. is_within r.owner apex) text ≡ true → ((key : Key) → content_of text_sets key ≡ carried (content_of sets key).number (data_of text key)) → keys ≡ changed_sets old (records_outside apex old ++ text) → count ≡ length (filter (has_set text_sets) keys) → 2 ^ 52 + 1 < next + count → fault ≡ NumberSpent → number_refusal old (records_outside apex old ++ text) next ≡ Some fault
refused-replace apex old text next count sets text_sets keys fault all made changed count_is many fault_is =
    refused-numbers old (records_outside apex old ++ text) next count (counted-replace apex old text count sets text_sets keys all made changed count_is) many ∙ ap (λ f. Some f) (sym fault_is)

-- or to add one
pub refused-add : (old : List Record) (r : Record) (next count : ℕ) (fault : StoreFault) → count ≡ length (option_to_list (key_of r)) → 2 ^ 52 + 1 < next + count → fault ≡ NumberSpent → number_refusal old (old ++ r ∷ []) next ≡ Some fault
refused-add old r next count fault counted many is =
    refused-numbers old (old ++ r ∷ []) next count (counted ∙ ap length (sym (numbered-add old r))) many ∙ ap (λ f. Some f) (sym is)

-- or to remove one
pub refused-remove : (old : List Record) (r : Record) (next count : ℕ) (sets : OwnerTable) (fault : StoreFault) → HasSets sets old → list_any (same_record r) old ≡ true → count ≡ length (keys_left sets r) → 2 ^ 52 + 1 < next + count → fault ≡ NumberSpent → number_refusal old (records_without r old) next ≡ Some fault
refused-remove old r next count sets fault has some counted many is =
    refused-numbers old (records_without r old) next count (counted ∙ ap length (sym (numbered-remove old r sets has some))) many ∙ ap (λ f. Some f) (sym is)

-- enough are left to add a record
pub enough-add : (old : List Record) (r : Record) (next count : ℕ) → count ≡ length (option_to_list (key_of r)) → next + count ≤ 2 ^ 52 + 1 → number_refusal old (old ++ r ∷ []) next ≡ None
enough-add old r next count counted few =
    accepted-numbers old (old ++ r ∷ []) next count (counted ∙ ap length (sym (numbered-add old r))) few

-- or to remove one
pub enough-remove : (old : List Record) (r : Record) (next count : ℕ) (sets : OwnerTable) → HasSets sets old → list_any (same_record r) old ≡ true → count ≡ length (keys_left sets r) → next + count ≤ 2 ^ 52 + 1 → number_refusal old (records_without r old) next ≡ None
enough-remove old r next count sets has some counted few =
    accepted-numbers old (records_without r old) next count (counted ∙ ap length (sym (numbered-remove old r sets has some))) few

-- whether enough are left to add a record
pub checked-add : (old : List Record) (r : Record) (next count : ℕ) (result : Result (Unit {0}) StoreFault) → count ≡ length (option_to_list (key_of r)) → MatchResult result (λ _. next + count ≤ 2 ^ 52 + 1) (λ fault. (2 ^ 52 + 1 < next + count) × (fault ≡ NumberSpent)) → MatchResult result (λ _. number_refusal old (old ++ r ∷ []) next ≡ None) (λ fault. number_refusal old (old ++ r ∷ []) next ≡ Some fault)
checked-add old r next count (Ok done) counted few = enough-add old r next count counted few
checked-add old r next count (Err fault) counted why = refused-add old r next count fault counted why.0 why.1

-- or to remove one
pub checked-remove : (old : List Record) (r : Record) (next count : ℕ) (sets : OwnerTable) (result : Result (Unit {0}) StoreFault) → HasSets sets old → list_any (same_record r) old ≡ true → count ≡ length (keys_left sets r) → MatchResult result (λ _. next + count ≤ 2 ^ 52 + 1) (λ fault. (2 ^ 52 + 1 < next + count) × (fault ≡ NumberSpent)) → MatchResult result (λ _. number_refusal old (records_without r old) next ≡ None) (λ fault. number_refusal old (records_without r old) next ≡ Some fault)
checked-remove old r next count sets (Ok done) has some counted few = enough-remove old r next count sets has some counted few
checked-remove old r next count sets (Err fault) has some counted why = refused-remove old r next count sets fault has some counted why.0 why.1

-- where records are only left out, no set takes a number
numbered-outside : (apex : List (List ℕ)) (old : List Record) → numbered_keys old (records_outside apex old ++ []) ≡ []
numbered-outside apex old =
    filter-filter (λ key. not (is_empty (data_of (records_outside apex old ++ []) key))) (is_changed old (records_outside apex old ++ [])) (unique same_key (filter_map key_of (old ++ (records_outside apex old ++ []))))
    ∙ filter-none (λ key. is_changed old (records_outside apex old ++ []) key && not (is_empty (data_of (records_outside apex old ++ []) key))) (λ key. by_case key (is_within key.name apex) refl) (unique same_key (filter_map key_of (old ++ (records_outside apex old ++ [])))) where
      nothing : (b : Bool) → (b && false) ≡ false
      nothing true = refl
      nothing false = refl

      by_case : (key : Key) (b : Bool) → is_within key.name apex ≡ b → (is_changed old (records_outside apex old ++ []) key && not (is_empty (data_of (records_outside apex old ++ []) key))) ≡ false
      by_case key true inside =
          ap (λ set. is_changed old (records_outside apex old ++ []) key && not (is_empty set)) (set-inside apex old [] key inside) ∙ nothing (is_changed old (records_outside apex old ++ []) key)
      by_case key false outside = ap (λ differs. differs && not (is_empty (data_of (records_outside apex old ++ []) key))) (stays apex old [] key refl outside)

-- so numbers are left for that
enough-outside : (apex : List (List ℕ)) (old : List Record) (next : ℕ) → next ≤ 2 ^ 52 + 1 → number_refusal old (records_outside apex old ++ []) next ≡ None
enough-outside apex old next few = accepted-numbers old (records_outside apex old ++ []) next 0 (sym (ap length (numbered-outside apex old))) (omega (arith, few))

pub enough-unload : (apex : List (List ℕ)) (old : List Record) (next : ℕ) → next ≤ 2 ^ 52 + 1 → number_refusal old (records_outside apex old) next ≡ None
enough-unload apex old next few =
    subst (λ records. number_refusal old records next ≡ None) (append-nil (records_outside apex old)) (enough-outside apex old next few)

-- and never run out
pub never_spent : (apex : List (List ℕ)) (old : List Record) (next : ℕ) (fault : StoreFault) → next ≤ 2 ^ 52 + 1 → (fault ≢ Memory → number_refusal old (records_outside apex old ++ []) next ≡ Some fault) → fault ≢ NumberSpent
never_spent apex old next fault few why spent =
    let some : fault ≢ Memory = λ memory. let never : NumberSpent ≡ Memory = sym spent ∙ memory in cc in
    let never : None ≡ Some fault = sym (enough-outside apex old next few) ∙ why some in
    cc
