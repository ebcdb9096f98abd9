-- The changed keys, found record by record: each key once, at the first record of its set.
use Rattle.std.proofs.Common.{◌≡◌, ℕ, zero, suc, ◌+◌, ◌<◌, Bool, true, false, not, ◌&&◌, ◌||◌, List, [], ◌∷◌, ◌++◌, length, take, get_or, Option, None, Some, cond, refl, ap, sym, ◌∙◌, inl, inr, arith, append-nil, append_assoc}
use Rattle.std.specs.List.{filter, filter_map, list_any, list_all}
use Rattle.std.specs.Option.{option_to_list}
use lib.Pointwise.{pointwise}
use Rattle.std.proofs.lemmas.Bool.{cases_Bool}
use Rattle.std.proofs.lemmas.List.{take_more}
use Rattle.std.proofs.lemmas.List.Folds.{list_any-append}
use Rattle.sipl_names.specs.Labels.{is_within}
use Rattle.sipl_records.specs.declared.record.Record.{Record}
use Rattle.sipl_records.specs.declared.record.Key.{Key}
use Rattle.sipl_records.specs.Sets.{has_key, data_of, same_data, same_key, same_record, key_of}
use Rattle.sipl_records.specs.Unique.{unique}
use Rattle.sipl_records.proofs.Public.{list_any-filter, same_key-refl, has_key-key_of, key_of-name, same_data-refl, same_data-Decides, same_record-Decides, has_key-name, list_any-unique}
use Rattle.sipl_masterfile.specs.Zones.{has_repeats}
use Rattle.sipl_zonestore.specs.Numbers.{is_empty}
use Rattle.sipl_zonestore.specs.Store.{records_within}
use Rattle.sipl_zonestore.specs.Changes.{is_changed, changed_among}
use Rattle.sipl_zonestore.specs.SetTable.{OwnerTable, content_of, HasSets, is_first, changed_in, added_in}
use Rattle.sipl_zonestore.proofs.Elements.{or_left, or_right, or_first, or_second, any-filter, none-at, all-at}
use Rattle.sipl_zonestore.proofs.Keys.{same_key-trans, list_any-filter_map}
use Rattle.sipl_zonestore.proofs.SameSets.{same_set-true}
use Rattle.sipl_zonestore.proofs.ChangedKeys.{kept-any, among-none, among-known, among-same, among-push, within-more}

-- a record is in the set of its key
own_key : (r : Record) (key : Key) → key_of r ≡ Some key → has_key key r ≡ true
own_key r key own = has_key-key_of key r ∙ rw own (same_key-refl key)

-- records of one set with the same data are the same
same-in_set : (a b : Record) (key : Key) → has_key key a ≡ true → has_key key b ≡ true → same_data a.value b.value ≡ true → same_record b a ≡ true
same-in_set a b key in_a in_b same =
    (same_record-Decides b a).1 (λ i. record { owner = (has_key-name key b in_b ∙ sym (has_key-name key a in_a)) i; value = sym ((same_data-Decides a.value b.value).0 same) i })

-- a record is the first of its set where no record before it is in the set
pub first-is : (records : List Record) (i : ℕ) (r : Record) (key : Key) → has_repeats records ≡ false → i < length records → r ≡ get_or records i r → key_of r ≡ Some key → is_first r.value (data_of records key) ≡ not (list_any (has_key key) (take i records))
first-is [] i r key distinct inside here own = absurd (omega arith)
first-is (x ∷ records) zero r key distinct inside here own =
    let there : has_key key x ≡ true = ap (has_key key) (sym here) ∙ own_key r key own in
    rw there (ap (λ (s : Record). same_data r.value s.value) (sym here) ∙ same_data-refl r.value)
first-is (x ∷ records) (suc i) r key distinct inside here own = elim (cases_Bool (has_key key x)) [
  | inl there ↦ rw there (elim (cases_Bool (same_data r.value x.value)) [
    | inl same ↦
        let apart : same_record x r ≡ false = ap (same_record x) here ∙ none-at (same_record x) records (or_left (list_any (same_record x) records) (has_repeats records) distinct) i r (omega arith) in
        let never : true ≡ false = sym (same-in_set r x key (own_key r key own) there same) ∙ apart in cc
    | inr other ↦ other
  ])
  | inr elsewhere ↦ rw elsewhere (first-is records i r key (or_right (list_any (same_record x) records) (has_repeats records) distinct) (omega arith) here own)
]

-- a set is empty where no record is in it
pub set-empty : (records : List Record) (key : Key) → is_empty (data_of records key) ≡ not (list_any (has_key key) records)
set-empty [] key = refl
set-empty (x ∷ records) key = elim (cases_Bool (has_key key x)) [
  | inl there ↦ rw there refl
  | inr elsewhere ↦ rw elsewhere (set-empty records key)
]

-- a key of none of the records is not among the changed ones
unknown : (old new before : List Record) (key : Key) → list_any (has_key key) before ≡ false → list_any (λ other. same_key other key) (changed_among old new before) ≡ false
unknown old new before key none =
    any-filter (λ other. same_key other key) (is_changed old new) (unique same_key (filter_map key_of before)) (list_any-unique same_key same_key-trans (filter_map key_of before) key ∙ list_any-filter_map key before ∙ none)

-- and one of some of them is, where its set differs
known : (old new before : List Record) (key : Key) → is_changed old new key ≡ true → list_any (has_key key) before ≡ true → list_any (λ other. same_key other key) (changed_among old new before) ≡ true
known old new before key differs some =
    kept-any (is_changed old new) key differs (unique same_key (filter_map key_of before)) ∙ list_any-unique same_key same_key-trans (filter_map key_of before) key ∙ list_any-filter_map key before ∙ some

-- One record more: its key is appended where it is new there and its set differs.
pub among-step : (old new before : List Record) (r : Record) (key : Key) (seen : Bool) → key_of r ≡ Some key → list_any (has_key key) before ≡ seen → changed_among old new before ++ cond (not seen && is_changed old new key) (key ∷ []) [] ≡ changed_among old new (before ++ r ∷ [])
among-step old new before r key seen own there = elim (cases_Bool (is_changed old new key)) [
  | inr same ↦ rw same (nothing seen ∙ sym (among-same old new before r key own same))
  | inl differs ↦ rw differs (changed_case seen there differs)
] where
  nothing : (b : Bool) → changed_among old new before ++ cond (not b && false) (key ∷ []) [] ≡ changed_among old new before
  nothing true = append-nil (changed_among old new before)
  nothing false = append-nil (changed_among old new before)

  changed_case : (b : Bool) → list_any (has_key key) before ≡ b → is_changed old new key ≡ true → changed_among old new before ++ cond (not b && true) (key ∷ []) [] ≡ changed_among old new (before ++ r ∷ [])
  changed_case true some differs = append-nil (changed_among old new before) ∙ sym (among-known old new before r key own (known old new before key differs some))
  changed_case false none differs = sym (among-push old new before r key own (unknown old new before key none) differs)

-- records of a key within the zone are within it
any-within : (apex : List (List ℕ)) (records : List Record) (key : Key) → is_within key.name apex ≡ true → list_any (has_key key) (records_within apex records) ≡ list_any (has_key key) records
any-within apex records key inside =
    list_any-filter (has_key key) (λ r. is_within r.owner apex) (λ r outside. elim (cases_Bool (has_key key r)) [
      | inl there ↦ let never : true ≡ false = sym inside ∙ ap (λ name. is_within name apex) (sym (has_key-name key r there)) ∙ outside in cc
      | inr elsewhere ↦ elsewhere
    ]) records

within-key : (apex : List (List ℕ)) (r : Record) (key : Key) → key_of r ≡ Some key → is_within r.owner apex ≡ true → is_within key.name apex ≡ true
within-key apex r key own inside = ap (λ name. is_within name apex) (sym (key_of-name r key own)) ∙ inside

pub step-changed : (old text : List Record) (sets new : OwnerTable) (apex : List (List ℕ)) (i : ℕ) (r : Record) → has_repeats old ≡ false → HasSets sets old → HasSets new text → i < length old → r ≡ get_or old i r → is_within r.owner apex ≡ true → changed_among old text (records_within apex (take i old)) ++ changed_in sets new r ≡ changed_among old text (records_within apex (take (i + 1) old))
step-changed old text sets new apex i r distinct has has' inside here within =
    own_case (key_of r) refl ∙ ap (changed_among old text) (sym (within-more apex [] old i r inside here within)) where
      own_case : (own : Option Key) → key_of r ≡ own → changed_among old text (records_within apex (take i old)) ++ filter (λ key. is_first r.value (content_of sets key).values && not (pointwise same_data (content_of sets key).values (content_of new key).values)) (option_to_list own) ≡ changed_among old text (records_within apex (take i old) ++ r ∷ [])
      own_case None own = append-nil (changed_among old text (records_within apex (take i old))) ∙ sym (among-none old text (records_within apex (take i old)) r own)
      own_case (Some key) own =
          let before : list_any (has_key key) (records_within apex (take i old)) ≡ list_any (has_key key) (take i old) = any-within apex (take i old) key (within-key apex r key own within) in
          rw (has key, has' key, first-is old i r key distinct inside here own) (among-step old text (records_within apex (take i old)) r key (list_any (has_key key) (take i old)) own before)

-- a set that was empty and is not any more has changed
added-differs : (old text : List Record) (key : Key) → list_any (has_key key) old ≡ false → list_any (has_key key) text ≡ true → is_changed old text key ≡ true
added-differs old text key none some = elim (cases_Bool (is_changed old text key)) [
  | inl differs ↦ differs
  | inr same ↦
      let equal : data_of old key ≡ data_of text key = same_set-true (data_of old key) (data_of text key) (was_true _ same) in
      let never : true ≡ false = ap not (sym none) ∙ sym (set-empty old key) ∙ ap is_empty equal ∙ set-empty text key ∙ ap not some in cc
] where
  was_true : (b : Bool) → not b ≡ false → b ≡ true
  was_true true h = refl
  was_true false h = sym h

any-at : {X : Type 0} (p : X → Bool) (xs : List X) (i : ℕ) (x : X) → i < length xs → x ≡ get_or xs i x → p x ≡ true → list_any p xs ≡ true
any-at p [] i x inside here passes = absurd (omega arith)
any-at p (y ∷ xs) zero x inside here passes = or_first (p y) (list_any p xs) (ap p (sym here) ∙ passes)
any-at p (y ∷ xs) (suc i) x inside here passes = or_second (p y) (list_any p xs) (any-at p xs i x (omega arith) here passes)

pub step-added : (old text : List Record) (sets new : OwnerTable) (apex : List (List ℕ)) (i : ℕ) (r : Record) → has_repeats text ≡ false → HasSets sets old → HasSets new text → list_all (λ r. is_within r.owner apex) text ≡ true → i < length text → r ≡ get_or text i r → changed_among old text (records_within apex old ++ take i text) ++ added_in sets new r ≡ changed_among old text (records_within apex old ++ take (i + 1) text)
step-added old text sets new apex i r distinct has has' all inside here =
    own_case (key_of r) refl ∙ ap (changed_among old text) (append_assoc (records_within apex old) (take i text) (r ∷ []) ∙ ap (λ rs. records_within apex old ++ rs) (sym more)) where
      more : take (i + 1) text ≡ take i text ++ r ∷ []
      more = take_more text i r inside ∙ ap (λ s. take i text ++ s ∷ []) (sym here)

      within : is_within r.owner apex ≡ true
      within = ap (λ (s : Record). is_within s.owner apex) here ∙ all-at (λ (s : Record). is_within s.owner apex) text i r inside all

      choice : (a b changed : Bool) → (a ≡ false → b ≡ false → changed ≡ true) → (not a && not b) ≡ (not (a || b) && changed)
      choice true b changed h = refl
      choice false true changed h = refl
      choice false false changed h = sym (h refl refl)

      own_case : (own : Option Key) → key_of r ≡ own → changed_among old text (records_within apex old ++ take i text) ++ filter (λ key. is_empty (content_of sets key).values && is_first r.value (content_of new key).values) (option_to_list own) ≡ changed_among old text ((records_within apex old ++ take i text) ++ r ∷ [])
      own_case None own = append-nil (changed_among old text (records_within apex old ++ take i text)) ∙ sym (among-none old text (records_within apex old ++ take i text) r own)
      own_case (Some key) own =
          let before : list_any (has_key key) (records_within apex old ++ take i text) ≡ (list_any (has_key key) old || list_any (has_key key) (take i text)) = list_any-append (has_key key) (records_within apex old) (take i text) ∙ ap (λ b. b || list_any (has_key key) (take i text)) (any-within apex old key (within-key apex r key own within)) in
          let test : (is_empty (data_of old key) && is_first r.value (data_of text key)) ≡ (not (list_any (has_key key) old || list_any (has_key key) (take i text)) && is_changed old text key) =
          (λ j. set-empty old key j && first-is text i r key distinct inside here own j)
          ∙ choice (list_any (has_key key) old) (list_any (has_key key) (take i text)) (is_changed old text key) (λ none _. added-differs old text key none (any-at (has_key key) text i r inside here (own_key r key own)))
          in
          rw (has key, has' key, test) (among-step old text (records_within apex old ++ take i text) r key (list_any (has_key key) old || list_any (has_key key) (take i text)) own before)

-- what one record's key adds
pub changed_in-some : (old new : OwnerTable) (r : Record) (key : Key) (b : Bool) → key_of r ≡ Some key → (is_first r.value (content_of old key).values && not (pointwise same_data (content_of old key).values (content_of new key).values)) ≡ b → changed_in old new r ≡ cond b (key ∷ []) []
changed_in-some old new r key b own test = rw (own, test) refl
