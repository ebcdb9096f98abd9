-- The sets and the numbers of records that replace those of a zone.
use Rattle.std.proofs.Common.{◌≡◌, ℕ, ◌+◌, ◌^◌, ◌<◌, ◌≤◌, Bool, true, false, not, ◌&&◌, List, [], ◌∷◌, ◌++◌, length, None, Some, if◌then◌else◌, refl, ap, sym, ◌∙◌, inl, inr, arith, nat_lt}
use Rattle.std.specs.List.{filter, filter_map, list_all, position_from}
use Rattle.std.specs.Option.{unwrap_or}
use Rattle.std.proofs.lemmas.Bool.{cases_Bool}
use Rattle.std.proofs.lemmas.Bool.Decides.{nat_tests}
use Rattle.std.proofs.lemmas.List.Elements.{filter_agree}
use Rattle.sipl_names.specs.Labels.{Labels, is_within, same_name}
use Rattle.sipl_records.specs.declared.record.Record.{Record}
use Rattle.sipl_records.specs.declared.record.Key.{Key}
use Rattle.sipl_records.specs.Sets.{data_of, same_key, key_of}
use Rattle.sipl_records.specs.Unique.{unique}
use Rattle.sipl_records.proofs.Public.{filter-filter}
use Rattle.sipl_zonestore.specs.declared.fault.StoreFault.TheVariants.{NumberSpent}
use Rattle.sipl_zonestore.specs.Store.{records_outside}
use Rattle.sipl_zonestore.specs.Changes.{is_changed, changed_sets}
use Rattle.sipl_zonestore.specs.Numbers.{is_empty, number_of, numbered_keys, set_number_after, number_refusal}
use Rattle.sipl_zonestore.specs.Content.{Content, no_content, carried}
use Rattle.sipl_zonestore.specs.Loading.{content_loaded}
use Rattle.sipl_zonestore.specs.SetTable.{OwnerTable, set_at, content_of, numbers_of, has_set, numbered_content, HasSets}
use Rattle.sipl_zonestore.proofs.ChangedKeys.{set-outside, set-inside, stays, text-none}
use Rattle.sipl_zonestore.proofs.Numbering.{numbered-none_same, numbered-none_empty}
use Rattle.sipl_zonestore.proofs.Elements.{chosen-first, chosen-second}
use Rattle.sipl_zonestore.proofs.Positions.{from-none}
use Rattle.sipl_zonestore.proofs.SameSets.{same_set-refl}
use Rattle.sipl_zonestore.proofs.SetTables.{number_of-numbers_of}
use Rattle.sipl_zonestore.proofs.TableSteps.{carried-empty}

pub empty-number : (sets : OwnerTable) (key : Key) → is_empty (content_of sets key).values ≡ true → (content_of sets key).number ≡ 0
empty-number [] key empty = refl
empty-number (owner ∷ owners) key empty = elim (cases_Bool (same_name owner.0 key.name)) [
  | inl here ↦ rw here (let own : is_empty (set_at key.kind owner.1).values ≡ true = rw here at empty in rw own refl)
  | inr other ↦ rw other (empty-number owners key (rw other at empty))
]

-- where the table of the text has a set, the new records have
pub filter-numbered : (apex : List (List ℕ)) (old text : List Record) (sets text_sets : OwnerTable) → list_all (λ r. is_within r.owner apex) text ≡ true → ((key : Key) → content_of text_sets key ≡ carried (content_of sets key).number (data_of text key)) → filter (has_set text_sets) (changed_sets old (records_outside apex old ++ text)) ≡ numbered_keys old (records_outside apex old ++ text)
filter-numbered apex old text sets text_sets all made =
    filter-filter (has_set text_sets) (is_changed old (records_outside apex old ++ text)) (unique same_key (filter_map key_of (old ++ (records_outside apex old ++ text))))
    ∙ filter_agree (λ key. is_changed old (records_outside apex old ++ text) key && has_set text_sets key) (λ key. is_changed old (records_outside apex old ++ text) key && not (is_empty (data_of (records_outside apex old ++ text) key))) (λ key. agree key (is_changed old (records_outside apex old ++ text) key) refl) (unique same_key (filter_map key_of (old ++ (records_outside apex old ++ text))))
    ∙ sym (filter-filter (λ key. not (is_empty (data_of (records_outside apex old ++ text) key))) (is_changed old (records_outside apex old ++ text)) (unique same_key (filter_map key_of (old ++ (records_outside apex old ++ text))))) where
      within_case : (key : Key) (b : Bool) → is_within key.name apex ≡ b → is_changed old (records_outside apex old ++ text) key ≡ true → has_set text_sets key ≡ not (is_empty (data_of (records_outside apex old ++ text) key))
      within_case key true inside differs = ap (λ (c : Content). not (is_empty c.values)) (made key) ∙ ap (λ set. not (is_empty set)) (sym (set-inside apex old text key inside))
      within_case key false outside differs = let never : true ≡ false = sym differs ∙ stays apex old text key all outside in cc

      agree : (key : Key) (b : Bool) → is_changed old (records_outside apex old ++ text) key ≡ b → (is_changed old (records_outside apex old ++ text) key && has_set text_sets key) ≡ (is_changed old (records_outside apex old ++ text) key && not (is_empty (data_of (records_outside apex old ++ text) key)))
      agree key true differs = rw differs (within_case key (is_within key.name apex) refl differs)
      agree key false same = rw same refl

-- The records of some owners are replaced by others: within these owners the new sets are those of a text, and
-- each other set stays. The sets of the owners are replaced in the table by those that the text has, numbered.
pub record IsReplacement (inside : Labels → Bool) (old new text : List Record) (next : ℕ) (sets loaded replaced : OwnerTable) : Type 0 where
  pub of_text : (key : Key) → inside key.name ≡ true → data_of new key ≡ data_of text key
  pub kept : (key : Key) → inside key.name ≡ false → data_of new key ≡ data_of old key
  pub has_sets : HasSets sets old
  pub taken : (key : Key) → inside key.name ≡ true
      → content_of loaded key ≡ content_loaded sets old new text next key
  pub put : (key : Key) → content_of replaced key ≡ (if inside key.name then content_of loaded key else content_of sets key)

-- the table has the sets of the new records
pub replaced-sets : (inside : Labels → Bool) (old new text : List Record) (next : ℕ) (sets loaded replaced : OwnerTable) → IsReplacement inside old new text next sets loaded replaced → HasSets replaced new
replaced-sets inside old new text next sets loaded replaced is key = elim (cases_Bool (inside key.name)) [
  | inl own ↦
      ap (λ (c : Content). c.values) (chosen-first _ _ _ _ (is.put key) own ∙ is.taken key own) ∙ sym (is.of_text key own)
  | inr other ↦
      ap (λ (c : Content). c.values) (chosen-second _ _ _ _ (is.put key) other) ∙ is.has_sets key ∙ sym (is.kept key other)
]

-- and the numbers that they take
pub replaced-number : (inside : Labels → Bool) (old new text : List Record) (next : ℕ) (sets loaded replaced : OwnerTable) → IsReplacement inside old new text next sets loaded replaced → (key : Key) → (content_of replaced key).number ≡ set_number_after old new next (number_of (numbers_of sets)) key
replaced-number inside old new text next sets loaded replaced is key = within_case (inside key.name) refl where
  own_empty : (b : Bool) → is_empty (data_of text key) ≡ b → is_empty (data_of new key) ≡ b → (if is_empty (data_of text key) then 0 else set_number_after old new next (λ key. (content_of sets key).number) key) ≡ set_number_after old new next (number_of (numbers_of sets)) key
  own_empty true empty gone =
      rw (empty, gone, from-none (λ other. same_key other key) next (numbered_keys old new) (numbered-none_empty old new key gone)) refl
  own_empty false filled left =
      rw (filled, left) (ap (λ n. unwrap_or (position_from (λ other. same_key other key) next (numbered_keys old new)) n) (sym (number_of-numbers_of sets key)))

  other_empty : (b : Bool) → inside key.name ≡ false → is_empty (data_of new key) ≡ b → (content_of sets key).number ≡ (if is_empty (data_of new key) then 0 else number_of (numbers_of sets) key)
  other_empty true other gone = rw gone (empty-number sets key (ap is_empty (is.has_sets key ∙ sym (is.kept key other)) ∙ gone))
  other_empty false other left = rw left (sym (number_of-numbers_of sets key))

  within_case : (b : Bool) → inside key.name ≡ b → (content_of replaced key).number ≡ set_number_after old new next (number_of (numbers_of sets)) key
  within_case true own =
      ap (λ (c : Content). c.number) (chosen-first _ _ _ _ (is.put key) own ∙ is.taken key own)
      ∙ own_empty (is_empty (data_of text key)) refl (ap is_empty (is.of_text key own))
  within_case false other =
      let same : is_changed old new key ≡ false = rw (is.kept key other, same_set-refl (data_of old key)) refl in
      ap (λ (c : Content). c.number) (chosen-second _ _ _ _ (is.put key) other)
      ∙ other_empty (is_empty (data_of new key)) other refl
      ∙ ap (λ place. unwrap_or place (if is_empty (data_of new key) then 0 else number_of (numbers_of sets) key)) (sym (from-none (λ other. same_key other key) next (numbered_keys old new) (numbered-none_same old new key same)))

-- too few numbers are left, or enough
pub refused-numbers : (old new : List Record) (next count : ℕ) → count ≡ length (numbered_keys old new) → 2 ^ 52 + 1 < next + count → number_refusal old new next ≡ Some NumberSpent
refused-numbers old new next count counted many =
    let more : nat_lt (2 ^ 52 + 1) (next + length (numbered_keys old new)) ≡ true = is_more next count (length (numbered_keys old new)) counted many in rw more refl where
      is_more : (next count n : ℕ) → count ≡ n → 2 ^ 52 + 1 < next + count → nat_lt (2 ^ 52 + 1) (next + n) ≡ true
      is_more next count n counted many = grind (arith, nat_tests)

pub accepted-numbers : (old new : List Record) (next count : ℕ) → count ≡ length (numbered_keys old new) → next + count ≤ 2 ^ 52 + 1 → number_refusal old new next ≡ None
accepted-numbers old new next count counted few =
    let enough : nat_lt (2 ^ 52 + 1) (next + length (numbered_keys old new)) ≡ false = is_enough next count (length (numbered_keys old new)) counted few in rw enough refl where
      is_enough : (next count n : ℕ) → count ≡ n → next + count ≤ 2 ^ 52 + 1 → nat_lt (2 ^ 52 + 1) (next + n) ≡ false
      is_enough next count n counted few = grind (arith, nat_tests)

-- the sets of a text, once they are numbered
pub loaded-content : (apex : Labels) (old text : List Record) (next : ℕ) (sets made loaded : OwnerTable) (keys : List Key) → list_all (λ r. is_within r.owner apex) text ≡ true → ((key : Key) → content_of made key ≡ carried (content_of sets key).number (data_of text key)) → keys ≡ changed_sets old (records_outside apex old ++ text) → ((key : Key) → content_of loaded key ≡ numbered_content made keys next key) → (key : Key) → content_of loaded key ≡ content_loaded sets old (records_outside apex old ++ text) text next key
loaded-content apex old text next sets made loaded keys all made_is keys_are taken key =
    taken key
    ∙ ap (λ ks. carried (unwrap_or (position_from (λ other. same_key other key) next (filter (has_set made) ks)) (content_of made key).number) (content_of made key).values) keys_are
    ∙ rw (filter-numbered apex old text sets made all made_is, made_is key) (by_case (is_empty (data_of text key)) refl) where
      new : List Record
      new = records_outside apex old ++ text

      inside : is_empty (data_of text key) ≡ false → is_within key.name apex ≡ true
      inside filled = elim (cases_Bool (is_within key.name apex)) [
        | inl within ↦ within
        | inr outside ↦ let never : true ≡ false = ap is_empty (sym (text-none apex text key all outside)) ∙ filled in cc
      ]

      by_case : (b : Bool) → is_empty (data_of text key) ≡ b → carried (unwrap_or (position_from (λ other. same_key other key) next (numbered_keys old (records_outside apex old ++ text))) (carried (content_of sets key).number (data_of text key)).number) (data_of text key) ≡ content_loaded sets old (records_outside apex old ++ text) text next key
      by_case true empty = carried-empty _ _ (data_of text key) empty
      by_case false filled =
          let left : is_empty (data_of (records_outside apex old ++ text) key) ≡ false = ap is_empty (set-inside apex old text key (inside filled)) ∙ filled in
          rw (filled, left) refl

-- there are none outside the text
pub loaded-none : (sets : OwnerTable) (old new text : List Record) (next : ℕ) (key : Key) → data_of text key ≡ [] → content_loaded sets old new text next key ≡ no_content
loaded-none sets old new text next key none = ap (carried (set_number_after old new next (λ key. (content_of sets key).number) key)) none

-- the table of a text that replaces what is within an apex
pub zone-replacement : (apex : Labels) (old text : List Record) (next : ℕ) (sets loaded replaced : OwnerTable) → list_all (λ r. is_within r.owner apex) text ≡ true → HasSets sets old → ((key : Key) → content_of loaded key ≡ content_loaded sets old (records_outside apex old ++ text) text next key) → ((key : Key) → content_of replaced key ≡ (if is_within key.name apex then content_of loaded key else content_of sets key)) → IsReplacement (λ name. is_within name apex) old (records_outside apex old ++ text) text next sets loaded replaced
zone-replacement apex old text next sets loaded replaced all has taken put =
    record {
      of_text = set-inside apex old text;
      kept = λ key outside. set-outside apex old text key all outside;
      has_sets = has;
      taken = λ key inside. taken key;
      put = put;
    }
