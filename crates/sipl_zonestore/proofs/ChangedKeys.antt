-- Which sets loading a zone changes, and which adding a record changes.
use Rattle.std.proofs.Common.{◌≡◌, ◌≢◌, ℕ, ◌+◌, ◌<◌, Bool, true, false, not, ◌&&◌, ◌||◌, List, [], ◌∷◌, ◌++◌, length, take, get_or, Option, None, Some, option_to_list, cond, refl, ap, subst, sym, ◌∙◌, inl, inr, append-nil, append_assoc}
use Rattle.std.specs.List.{filter, filter_map, list_any, list_all, IsDistinct}
use lib.Pointwise.{pointwise}
use Rattle.std.proofs.lemmas.Bool.{cases_Bool}
use Rattle.std.proofs.lemmas.List.Elements.{filter_agree, filter-append, filter_more, filter_map-append}
use Rattle.std.proofs.lemmas.List.Folds.{list_any-append}
use Rattle.sipl_names.specs.Labels.{same_name, is_within}
use Rattle.sipl_names.proofs.Public.{same_name_decides}
use Rattle.sipl_records.specs.declared.data.Data.{Data}
use Rattle.sipl_records.proofs.Public.{same_data-Decides, same_record-Decides, filter-none, filter-other, filter-all, list_any-filter, same_key-Decides, same_key-refl, same_key-sym, is_key, has_key-key_of, key_of-name, unique-append, unique-filter, list_any-unique, IsDistinct-unique, data_of-append, data_of-filter_kept, data_of-filter_dropped, has_key-name, key_of-no_existence}
use Rattle.sipl_zonestore.specs.Edits.{records_without}
use Rattle.sipl_records.specs.declared.record.Record.{Record}
use Rattle.sipl_records.specs.declared.record.Key.{Key}
use Rattle.sipl_records.specs.Sets.{has_key, data_of, is_existence, same_data, same_key, same_record, key_of}
use Rattle.sipl_records.specs.Unique.{unique}
use Rattle.sipl_zonestore.specs.Store.{records_outside, records_within}
use Rattle.sipl_zonestore.specs.Changes.{is_changed, changed_among, changed_sets}
use Rattle.sipl_zonestore.proofs.Elements.{any-filter, or_first, or_second, or_left, or_right}
use Rattle.sipl_zonestore.proofs.Keys.{same_key-trans, list_any-filter_map}
use Rattle.sipl_zonestore.proofs.SameSets.{same_set-refl, same_set-true, same_set-push}

-- a test sees no difference between keys that are the same
pub respects : (p : Key → Bool) (a b : Key) → same_key a b ≡ true → p a ≡ p b
respects p a b same = ap p ((same_key-Decides a b).0 same)

-- a key is among those that pass a test which it passes itself where it is among all
pub kept-any : (p : Key → Bool) (key : Key) → p key ≡ true → (keys : List Key) → list_any (λ other. same_key other key) (filter p keys) ≡ list_any (λ other. same_key other key) keys
kept-any p key passes keys =
    list_any-filter (λ other. same_key other key) p (λ other fails. elim (cases_Bool (same_key other key)) [
      | inl same ↦ let never : true ≡ false = sym passes ∙ sym (respects p other key same) ∙ fails in cc
      | inr differs ↦ differs
    ]) keys

-- and among none of them where it fails it
pub failed-none : (p : Key → Bool) (key : Key) → p key ≡ false → (keys : List Key) → list_any (λ other. same_key other key) (filter p keys) ≡ false
failed-none p key fails [] = refl
failed-none p key fails (first ∷ keys) = elim (cases_Bool (p first)) [
  | inl holds ↦
      let other : same_key first key ≡ false = elim (cases_Bool (same_key first key)) [
        | inl same ↦ let never : true ≡ false = sym holds ∙ respects p first key same ∙ fails in cc
        | inr other ↦ other
      ] in
      rw (holds, other) (failed-none p key fails keys)
  | inr left ↦ rw left (failed-none p key fails keys)
]

-- one more record without a key
pub among-none : (old new before : List Record) (r : Record) → key_of r ≡ None → changed_among old new (before ++ r ∷ []) ≡ changed_among old new before
among-none old new before r none =
    ap (λ keys. filter (is_changed old new) (unique same_key keys)) (filter_map-append key_of before (r ∷ []) ∙ rw none (append-nil (filter_map key_of before)))

appended : (old new : List Record) (keys : List Key) (key : Key) (known differs : Bool) → list_any (λ other. same_key other key) (unique same_key keys) ≡ known → is_changed old new key ≡ differs → filter (is_changed old new) (unique same_key (keys ++ key ∷ [])) ≡ filter (is_changed old new) (unique same_key keys) ++ cond (differs && not known) (key ∷ []) []
appended old new keys key true true known differs =
    rw (unique-append same_key same_key-trans keys key, known) (sym (append-nil (filter (is_changed old new) (unique same_key keys))))
appended old new keys key true false known differs =
    rw (unique-append same_key same_key-trans keys key, known) (sym (append-nil (filter (is_changed old new) (unique same_key keys))))
appended old new keys key false true known differs =
    rw (unique-append same_key same_key-trans keys key, known) (filter-append (is_changed old new) (unique same_key keys) (key ∷ []) ∙ rw differs refl)
appended old new keys key false false known differs =
    rw (unique-append same_key same_key-trans keys key, known) (filter-append (is_changed old new) (unique same_key keys) (key ∷ []) ∙ rw differs refl)

among-some : (old new before : List Record) (r : Record) (key : Key) (known differs : Bool) → key_of r ≡ Some key → list_any (λ other. same_key other key) (unique same_key (filter_map key_of before)) ≡ known → is_changed old new key ≡ differs → changed_among old new (before ++ r ∷ []) ≡ changed_among old new before ++ cond (differs && not known) (key ∷ []) []
among-some old new before r key known differs own known_is differs_is =
    ap (λ keys. filter (is_changed old new) (unique same_key keys)) (filter_map-append key_of before (r ∷ []) ∙ rw own refl)
    ∙ appended old new (filter_map key_of before) key known differs known_is differs_is

-- a key whose set stays
pub among-same : (old new before : List Record) (r : Record) (key : Key) → key_of r ≡ Some key → is_changed old new key ≡ false → changed_among old new (before ++ r ∷ []) ≡ changed_among old new before
among-same old new before r key own same =
    among-some old new before r key _ false own refl same ∙ append-nil (changed_among old new before)

-- a key that is among them already
pub among-known : (old new before : List Record) (r : Record) (key : Key) → key_of r ≡ Some key → list_any (λ other. same_key other key) (changed_among old new before) ≡ true → changed_among old new (before ++ r ∷ []) ≡ changed_among old new before
among-known old new before r key own known = elim (cases_Bool (is_changed old new key)) [
  | inr same ↦ among-same old new before r key own same
  | inl differs ↦
      let all : list_any (λ other. same_key other key) (unique same_key (filter_map key_of before)) ≡ true = sym (kept-any (is_changed old new) key differs (unique same_key (filter_map key_of before))) ∙ known in
      among-some old new before r key true true own all differs ∙ append-nil (changed_among old new before)
]

-- a further key whose set differs
pub among-push : (old new before : List Record) (r : Record) (key : Key) → key_of r ≡ Some key → list_any (λ other. same_key other key) (changed_among old new before) ≡ false → is_changed old new key ≡ true → changed_among old new (before ++ r ∷ []) ≡ changed_among old new before ++ key ∷ []
among-push old new before r key own unknown differs =
    let none : list_any (λ other. same_key other key) (unique same_key (filter_map key_of before)) ≡ false = sym (kept-any (is_changed old new) key differs (unique same_key (filter_map key_of before))) ∙ unknown in
    among-some old new before r key false true own none differs

-- a loop over records, of which those within the apex count: one more record that counts
pub within-more : (apex : List (List ℕ)) (first records : List Record) (i : ℕ) (r : Record) → i < length records → r ≡ get_or records i r → is_within r.owner apex ≡ true → first ++ records_within apex (take (i + 1) records) ≡ (first ++ records_within apex (take i records)) ++ r ∷ []
within-more apex first records i r inside here within =
    ap (λ rs. first ++ rs) (filter_more (λ r. is_within r.owner apex) records i r inside ∙ (λ j. records_within apex (take i records) ++ cond (is_within (sym here j).owner apex) (sym here j ∷ []) []) ∙ rw within refl) ∙ sym (append_assoc first (records_within apex (take i records)) (r ∷ []))

-- and one that does not
pub within-same : (apex : List (List ℕ)) (first records : List Record) (i : ℕ) (r : Record) → i < length records → r ≡ get_or records i r → is_within r.owner apex ≡ false → first ++ records_within apex (take (i + 1) records) ≡ first ++ records_within apex (take i records)
within-same apex first records i r inside here outside =
    ap (λ rs. first ++ rs) (filter_more (λ r. is_within r.owner apex) records i r inside ∙ (λ j. records_within apex (take i records) ++ cond (is_within (sym here j).owner apex) (sym here j ∷ []) []) ∙ rw outside (append-nil (records_within apex (take i records))))

-- Keys of records that fail a test, where such keys do not count; two ways to count the others.
counted : (p p' : Key → Bool) (own : Option Key) (r : Record) (records kept : List Record) → key_of r ≡ own → ((key : Key) → own ≡ Some key → p key ≡ p' key) → filter p (filter_map key_of records) ≡ filter p' (filter_map key_of kept) → filter p (filter_map key_of (r ∷ records)) ≡ filter p' (filter_map key_of (r ∷ kept))
counted p p' None r records kept is here rest = rw is rest
counted p p' (Some key) r records kept is here rest = rw is (rw (here key refl) (ap (λ ks. cond (p' key) (key ∷ ks) ks) rest))

left_out : (p p' : Key → Bool) (own : Option Key) (r : Record) (records kept : List Record) → key_of r ≡ own → ((key : Key) → own ≡ Some key → p key ≡ false) → filter p (filter_map key_of records) ≡ filter p' (filter_map key_of kept) → filter p (filter_map key_of (r ∷ records)) ≡ filter p' (filter_map key_of kept)
left_out p p' None r records kept is here rest = rw is rest
left_out p p' (Some key) r records kept is here rest = rw is (rw (here key refl) rest)

pub keys-part : (p p' : Key → Bool) (q : Record → Bool) → ((r : Record) (key : Key) → key_of r ≡ Some key → q r ≡ false → p key ≡ false) → ((r : Record) (key : Key) → key_of r ≡ Some key → q r ≡ true → p key ≡ p' key) → (records : List Record) → filter p (filter_map key_of records) ≡ filter p' (filter_map key_of (filter q records))
keys-part p p' q drops agrees [] = refl
keys-part p p' q drops agrees (r ∷ records) = elim (cases_Bool (q r)) [
  | inl holds ↦ rw holds (counted p p' (key_of r) r records (filter q records) refl (λ key own. agrees r key own holds) (keys-part p p' q drops agrees records))
  | inr fails ↦ rw fails (left_out p p' (key_of r) r records (filter q records) refl (λ key own. drops r key own fails) (keys-part p p' q drops agrees records))
]

-- a text within a zone has no set outside it
pub text-none : (apex : List (List ℕ)) (text : List Record) (key : Key) → list_all (λ r. is_within r.owner apex) text ≡ true → is_within key.name apex ≡ false → data_of text key ≡ []
text-none apex text key all outside =
    ap (λ rs. data_of rs key) (sym (filter-all (λ r. is_within r.owner apex) text all)) ∙ data_of-filter_dropped (λ r. is_within r.owner apex) key (λ r of. rw (has_key-name key r of) outside) text

-- a set outside a zone is that of the old records
pub set-outside : (apex : List (List ℕ)) (old text : List Record) (key : Key) → list_all (λ r. is_within r.owner apex) text ≡ true → is_within key.name apex ≡ false → data_of (records_outside apex old ++ text) key ≡ data_of old key
set-outside apex old text key all outside =
    let kept : data_of (records_outside apex old) key ≡ data_of old key = data_of-filter_kept (λ r. not (is_within r.owner apex)) key (λ r of. rw (has_key-name key r of, outside) refl) old in
    let none : data_of text key ≡ [] = text-none apex text key all outside in
    data_of-append (records_outside apex old) text key ∙ rw (kept, none) (append-nil (data_of old key))

-- and one within it that of the text
pub set-inside : (apex : List (List ℕ)) (old text : List Record) (key : Key) → is_within key.name apex ≡ true → data_of (records_outside apex old ++ text) key ≡ data_of text key
set-inside apex old text key inside =
    let gone : data_of (records_outside apex old) key ≡ [] = data_of-filter_dropped (λ r. not (is_within r.owner apex)) key (λ r of. rw (has_key-name key r of, inside) refl) old in
    data_of-append (records_outside apex old) text key ∙ rw gone refl

-- so a set outside it stays as it is
pub stays : (apex : List (List ℕ)) (old text : List Record) (key : Key) → list_all (λ r. is_within r.owner apex) text ≡ true → is_within key.name apex ≡ false → is_changed old (records_outside apex old ++ text) key ≡ false
stays apex old text key all outside = rw (set-outside apex old text key all outside, same_set-refl (data_of old key)) refl

of_text : (apex : List (List ℕ)) (old text : List Record) (key : Key) → is_within key.name apex ≡ true → is_changed old (records_outside apex old ++ text) key ≡ is_changed old text key
of_text apex old text key inside = ap (λ set. not (pointwise same_data (data_of old key) set)) (set-inside apex old text key inside)

both_within : (apex : List (List ℕ)) (old text : List Record) → filter (λ r. is_within r.owner apex) (old ++ (records_outside apex old ++ text)) ≡ records_within apex old ++ records_within apex text
both_within apex old text =
    filter-append (λ r. is_within r.owner apex) old (records_outside apex old ++ text)
    ∙ ap (λ rs. records_within apex old ++ rs) (filter-append (λ r. is_within r.owner apex) (records_outside apex old) text ∙ ap (λ rs. rs ++ records_within apex text) (filter-other (λ r. is_within r.owner apex) old))

-- the keys of the records within the zone, old and new, whose sets differ between the old records and the
-- text are those that changed
pub changed-load : (apex : List (List ℕ)) (old text : List Record) → list_all (λ r. is_within r.owner apex) text ≡ true → changed_among old text (records_within apex old ++ records_within apex text) ≡ changed_sets old (records_outside apex old ++ text)
changed-load apex old text all =
    let new : List Record = records_outside apex old ++ text in
    unique-filter same_key (is_changed old text) (respects (is_changed old text)) (filter_map key_of (records_within apex old ++ records_within apex text))
    ∙ ap (λ keys. unique same_key keys) (sym (keys-part (is_changed old new) (is_changed old text) (λ r. is_within r.owner apex) (λ r key own outside. stays apex old text key all (sym (ap (λ name. is_within name apex) (key_of-name r key own)) ∙ outside)) (λ r key own inside. of_text apex old text key (sym (ap (λ name. is_within name apex) (key_of-name r key own)) ∙ inside)) (old ++ new) ∙ ap (λ rs. filter (is_changed old text) (filter_map key_of rs)) (both_within apex old text)))
    ∙ sym (unique-filter same_key (is_changed old new) (respects (is_changed old new)) (filter_map key_of (old ++ new)))

-- of the keys that are the same as one, one is kept
one_key : (key : Key) (keys : List Key) → unique same_key (filter (λ other. same_key other key) keys) ≡ cond (list_any (λ other. same_key other key) keys) (key ∷ []) []
one_key key [] = refl
one_key key (first ∷ keys) = elim (cases_Bool (same_key first key)) [
  | inl holds ↦
      let same : first ≡ key = (same_key-Decides first key).0 holds in
      rw holds (subst (λ k. k ∷ filter (λ other. not (same_key k other)) (unique same_key (filter (λ other. same_key other key) keys)) ≡ key ∷ []) (sym same) (ap (λ ks. key ∷ ks) (ap (filter (λ other. not (same_key key other))) (one_key key keys) ∙ rest (list_any (λ other. same_key other key) keys))))
  | inr fails ↦ rw fails (one_key key keys)
] where
  rest : (b : Bool) → filter (λ other. not (same_key key other)) (cond b (key ∷ []) []) ≡ []
  rest true = rw (same_key-refl key) refl
  rest false = refl

-- a set changes where the record that is added belongs to it
pushed : (old : List Record) (r : Record) (key : Key) → is_changed old (old ++ r ∷ []) key ≡ is_key key (key_of r)
pushed old r key = elim (cases_Bool (has_key key r)) [
  | inl holds ↦ rw (data_of-append old (r ∷ []) key, holds, same_set-push (data_of old key) r.value) (sym holds ∙ has_key-key_of key r)
  | inr fails ↦ rw (data_of-append old (r ∷ []) key, fails, append-nil (data_of old key), same_set-refl (data_of old key)) (sym fails ∙ has_key-key_of key r)
]

own_changed : (records : List Record) (own : Option Key) → ((key : Key) → own ≡ Some key → list_any (has_key key) records ≡ true) → filter (λ key. is_key key own) (unique same_key (filter_map key_of records)) ≡ option_to_list own
own_changed records None there = filter-none (λ key. false) (λ key. refl) (unique same_key (filter_map key_of records))
own_changed records (Some key) there =
    filter_agree (same_key key) (λ other. same_key other key) (same_key-sym key) (unique same_key (filter_map key_of records))
    ∙ unique-filter same_key (λ other. same_key other key) (respects (λ other. same_key other key)) (filter_map key_of records)
    ∙ one_key key (filter_map key_of records)
    ∙ rw (list_any-filter_map key records, there key refl) refl

-- where only the set of one record changes, and the record is there before or after
changed-own : (old new : List Record) (r : Record) → ((key : Key) → is_changed old new key ≡ is_key key (key_of r)) → ((key : Key) → key_of r ≡ Some key → list_any (has_key key) (old ++ new) ≡ true) → changed_sets old new ≡ option_to_list (key_of r)
changed-own old new r only there =
    filter_agree (is_changed old new) (λ key. is_key key (key_of r)) only (unique same_key (filter_map key_of (old ++ new))) ∙ own_changed (old ++ new) (key_of r) there

-- adding a record changes its set, and no other
pub changed-add : (old : List Record) (r : Record) → changed_sets old (old ++ r ∷ []) ≡ option_to_list (key_of r)
changed-add old r =
    changed-own old (old ++ r ∷ []) r (pushed old r) (λ key own. list_any-append (has_key key) old (old ++ r ∷ []) ∙ or_second (list_any (has_key key) old) _ (list_any-append (has_key key) old (r ∷ []) ∙ or_second (list_any (has_key key) old) _ (or_first (has_key key r) false (has_key-key_of key r ∙ rw own (same_key-refl key)))))

-- a list with a value differs from the one without it
without-differs : (value : Data) (set : List Data) → list_any (same_data value) set ≡ true → pointwise same_data set (filter (λ other. not (same_data value other)) set) ≡ false
without-differs value set some = elim (cases_Bool (pointwise same_data set (filter (λ other. not (same_data value other)) set))) [
  | inr differs ↦ differs
  | inl same ↦
      let never : true ≡ false = sym some ∙ ap (list_any (same_data value)) (same_set-true set (filter (λ other. not (same_data value other)) set) same) ∙ none_left set in cc
] where
  none_left : (values : List Data) → list_any (same_data value) (filter (λ other. not (same_data value other)) values) ≡ false
  none_left [] = refl
  none_left (first ∷ values) = elim (cases_Bool (same_data value first)) [
    | inl gone ↦ rw gone (none_left values)
    | inr left ↦ rw left (rw left (none_left values))
  ]

-- the set of a record that is removed is without its data
pub data_of-without : (r : Record) (records : List Record) (key : Key) → has_key key r ≡ true → data_of (records_without r records) key ≡ filter (λ other. not (same_data r.value other)) (data_of records key)
data_of-without r [] key own = refl
data_of-without r (first ∷ records) key own =
    let rest : data_of (records_without r records) key ≡ filter (λ other. not (same_data r.value other)) (data_of records key) = data_of-without r records key own in
    elim (cases_Bool (has_key key first)) [
      | inl there ↦
          let owners : same_name r.owner first.owner ≡ true = (same_name_decides r.owner first.owner).1 (has_key-name key r own ∙ sym (has_key-name key first there)) in
          rw (owners, there) (data_case (same_data r.value first.value) there rest)
      | inr elsewhere ↦ rw elsewhere (other_case (same_record r first) elsewhere rest)
    ] where
      data_case : (b : Bool) → has_key key first ≡ true → data_of (records_without r records) key ≡ filter (λ other. not (same_data r.value other)) (data_of records key) → data_of (cond (not b) (first ∷ records_without r records) (records_without r records)) key ≡ cond (not b) (first.value ∷ filter (λ other. not (same_data r.value other)) (data_of records key)) (filter (λ other. not (same_data r.value other)) (data_of records key))
      data_case true there rest = rest
      data_case false there rest = rw there (ap (λ set. first.value ∷ set) rest)

      other_case : (b : Bool) → has_key key first ≡ false → data_of (records_without r records) key ≡ filter (λ other. not (same_data r.value other)) (data_of records key) → data_of (cond (not b) (first ∷ records_without r records) (records_without r records)) key ≡ filter (λ other. not (same_data r.value other)) (data_of records key)
      other_case true elsewhere rest = rest
      other_case false elsewhere rest = rw elsewhere rest

-- and each other set stays
pub data_of-others : (r : Record) (records : List Record) (key : Key) → has_key key r ≡ false → data_of (records_without r records) key ≡ data_of records key
data_of-others r records key other =
    data_of-filter_kept (λ first. not (same_record r first)) key (λ first there. elim (cases_Bool (same_record r first)) [
      | inl same ↦ let never : true ≡ false = sym there ∙ ap (has_key key) (sym ((same_record-Decides r first).0 same)) ∙ other in cc
      | inr apart ↦ rw apart refl
    ]) records

value-there : (r : Record) (records : List Record) (key : Key) → has_key key r ≡ true → list_any (same_record r) records ≡ true → list_any (same_data r.value) (data_of records key) ≡ true
value-there r [] key own some = cc
value-there r (first ∷ records) key own some = elim (cases_Bool (same_record r first)) [
  | inl same ↦
      let equal : r ≡ first = (same_record-Decides r first).0 same in
      let there : has_key key first ≡ true = ap (has_key key) (sym equal) ∙ own in
      rw there (or_first (same_data r.value first.value) _ ((same_data-Decides r.value first.value).1 (ap (λ (s : Record). s.value) equal)))
  | inr other ↦ elim (cases_Bool (has_key key first)) [
    | inl there ↦ rw there (or_second (same_data r.value first.value) _ (value-there r records key own (rw other at some)))
    | inr elsewhere ↦ rw elsewhere (value-there r records key own (rw other at some))
  ]
]

removed : (records : List Record) (r : Record) → list_any (same_record r) records ≡ true → (key : Key) → is_changed records (records_without r records) key ≡ is_key key (key_of r)
removed records r some key = elim (cases_Bool (has_key key r)) [
  | inl own ↦ rw (data_of-without r records key own, without-differs r.value (data_of records key) (value-there r records key own some)) (sym own ∙ has_key-key_of key r)
  | inr other ↦ rw (data_of-others r records key other, same_set-refl (data_of records key)) (sym other ∙ has_key-key_of key r)
]

-- removing a record changes its set, and no other
pub changed-remove : (records : List Record) (r : Record) → list_any (same_record r) records ≡ true → changed_sets records (records_without r records) ≡ option_to_list (key_of r)
changed-remove records r some =
    changed-own records (records_without r records) r (removed records r some) (λ key own. list_any-append (has_key key) records (records_without r records) ∙ or_first (list_any (has_key key) records) _ (record-there key (has_key-key_of key r ∙ rw own (same_key-refl key)) records some)) where
      record-there : (key : Key) → has_key key r ≡ true → (rs : List Record) → list_any (same_record r) rs ≡ true → list_any (has_key key) rs ≡ true
      record-there key own [] some = cc
      record-there key own (first ∷ rs) some = elim (cases_Bool (same_record r first)) [
        | inl same ↦ or_first (has_key key first) (list_any (has_key key) rs) (ap (has_key key) (sym ((same_record-Decides r first).0 same)) ∙ own)
        | inr other ↦ or_second (has_key key first) (list_any (has_key key) rs) (record-there key own rs (rw other at some))
      ]

not_false : (b : Bool) → not b ≡ true → b ≡ false
not_false true e = sym e
not_false false e = refl

-- a set differs where the comparison says so
pub differs-true : (old new : List Record) (key : Key) → is_changed old new key ≡ true → data_of old key ≢ data_of new key
differs-true old new key differs same =
    let equal : pointwise same_data (data_of old key) (data_of new key) ≡ true = subst (λ set. pointwise same_data (data_of old key) set ≡ true) same (same_set-refl (data_of old key)) in
    let never : true ≡ false = sym equal ∙ not_false _ differs in
    cc

pub differs-is : (old new : List Record) (key : Key) → data_of old key ≢ data_of new key → is_changed old new key ≡ true
differs-is old new key other = elim (cases_Bool (pointwise same_data (data_of old key) (data_of new key))) [
  | inl same ↦ absurd (other (same_set-true (data_of old key) (data_of new key) same))
  | inr differs ↦ rw differs refl
]

-- a list without records of a set
data_of-none : (key : Key) (records : List Record) → list_any (has_key key) records ≡ false → data_of records key ≡ []
data_of-none key [] none = refl
data_of-none key (r ∷ records) none =
    rw (or_left (has_key key r) (list_any (has_key key) records) none) (data_of-none key records (or_right (has_key key r) (list_any (has_key key) records) none))

-- a set that differs has a record, old or new
some_record : (old new : List Record) (key : Key) → data_of old key ≢ data_of new key → list_any (has_key key) (old ++ new) ≡ true
some_record old new key other = elim (cases_Bool (list_any (has_key key) (old ++ new))) [
  | inl some ↦ some
  | inr none ↦
      let neither : (list_any (has_key key) old || list_any (has_key key) new) ≡ false = sym (list_any-append (has_key key) old new) ∙ none in
      absurd (other (data_of-none key old (or_left (list_any (has_key key) old) _ neither) ∙ sym (data_of-none key new (or_right (list_any (has_key key) old) _ neither))))
]

-- a key whose set differs is among the changed keys
pub changed-any : (old new : List Record) (key : Key) → is_changed old new key ≡ true → list_any (λ other. same_key other key) (changed_sets old new) ≡ true
changed-any old new key differs =
    kept-any (is_changed old new) key differs (unique same_key (filter_map key_of (old ++ new)))
    ∙ list_any-unique same_key same_key-trans (filter_map key_of (old ++ new)) key
    ∙ list_any-filter_map key (old ++ new)
    ∙ some_record old new key (differs-true old new key differs)

-- each once
pub changed_sets-once : (old new : List Record) → IsDistinct same_key (changed_sets old new)
changed_sets-once old new =
    subst (λ keys. IsDistinct same_key keys) (sym (unique-filter same_key (is_changed old new) (respects (is_changed old new)) (filter_map key_of (old ++ new)))) (IsDistinct-unique same_key (filter (is_changed old new) (filter_map key_of (old ++ new))))

-- no key of a record's set is of existence
keys-no_existence_step : (r : Record) (records : List Record) (own : Option Key) → key_of r ≡ own → list_any is_existence (filter_map key_of records) ≡ false → list_any is_existence (filter_map key_of (r ∷ records)) ≡ false
keys-no_existence_step r records None is rest = rw is rest
keys-no_existence_step r records (Some key) is rest = rw (is, key_of-no_existence r key is) rest

keys-no_existence : (records : List Record) → list_any is_existence (filter_map key_of records) ≡ false
keys-no_existence [] = refl
keys-no_existence (r ∷ records) = keys-no_existence_step r records (key_of r) refl (keys-no_existence records)

unique-none : (p : Key → Bool) (keys : List Key) → list_any p keys ≡ false → list_any p (unique same_key keys) ≡ false
unique-none p [] none = refl
unique-none p (key ∷ keys) none =
    rw (or_left (p key) (list_any p keys) none) (any-filter p (λ other. not (same_key key other)) (unique same_key keys) (unique-none p keys (or_right (p key) (list_any p keys) none)))

-- so none of the changed sets is
pub changed-no_existence : (old new : List Record) → list_any is_existence (changed_sets old new) ≡ false
changed-no_existence old new =
    any-filter is_existence (is_changed old new) (unique same_key (filter_map key_of (old ++ new))) (unique-none is_existence (filter_map key_of (old ++ new)) (keys-no_existence (old ++ new)))

-- a key that is among such keys is none of existence
pub among-no_existence : (key : Key) (keys : List Key) → list_any is_existence keys ≡ false → list_any (λ other. same_key other key) keys ≡ true → is_existence key ≡ false
among-no_existence key [] none some = cc
among-no_existence key (first ∷ keys) none some = elim (cases_Bool (same_key first key)) [
  | inl same ↦ sym (respects is_existence first key same) ∙ or_left (is_existence first) (list_any is_existence keys) none
  | inr other ↦ among-no_existence key keys (or_right (is_existence first) (list_any is_existence keys) none) (rw other at some)
]
