-- What a table of names tells of an edit, and what the edit makes of it.
use Rattle.std.proofs.Common.{◌≡◌, ℕ, ◌+◌, ◌-◌, ◌≤◌, Bool, true, false, not, ◌&&◌, ◌||◌, List, [], ◌∷◌, ◌++◌, cond, length, map, take, nat_eq, refl, ap, sym, subst, ◌∙◌, inl, inr, arith, append-nil, length-append, length-take}
use Rattle.std.proofs.lemmas.List.{map-append}
use Rattle.std.specs.List.{count_by, filter, list_any, list_all}
use Rattle.std.proofs.lemmas.Bool.{cases_Bool}
use Rattle.std.proofs.lemmas.Bool.Decides.{nat_tests}
use Rattle.std.proofs.lemmas.List.Elements.{filter_agree}
use Rattle.std.proofs.lemmas.List.Concat.{flat_map-append}
use Rattle.std.proofs.lemmas.List.Sums.{count_by-le-length, length-filter}
use Rattle.indexmap.specs.IndexSet.{insert_all}
use Rattle.sipl_names.specs.Labels.{Labels, is_within, same_name}
use Rattle.sipl_records.specs.Sets.{exists_in, same_record}
use Rattle.sipl_records.specs.Unique.{unique}
use Rattle.sipl_records.specs.declared.record.Record.{Record}
use Rattle.sipl_records.proofs.Public.{exists_in-append, filter-all, filter-none, same_record-Decides}
use Rattle.sipl_masterfile.specs.Zones.{has_repeats}
use Rattle.sipl_zonestore.specs.Changes.{changed_existence, changed_names, existence_key, existing_names, with_ancestors}
use Rattle.sipl_zonestore.specs.Edits.{records_without}
use Rattle.sipl_zonestore.specs.Loading.{existence_changed}
use Rattle.sipl_zonestore.specs.NameTable.{NameTable, HasNames, count_at, count_within}
use Rattle.sipl_zonestore.specs.Store.{records_outside, records_within}
use Rattle.sipl_zonestore.proofs.AncestorCounts.{any-ancestors, count-ancestors, count-append, count-exists, count-owner, count-parts, count-within_push}
use Rattle.sipl_zonestore.proofs.ChangedNames.{all-any, changed-replaced, filter-agree_all, is_absent, names-one, names_of}
use Rattle.sipl_zonestore.proofs.Counts.{insert_all-unique}
use Rattle.sipl_zonestore.proofs.Elements.{or_left, or_right}

-- ---- one record of a list

pub filter-nothing : {X : Type 0} (p : X → Bool) (xs : List X) → list_any p xs ≡ false → filter p xs ≡ []
filter-nothing p [] none = refl
filter-nothing p (x ∷ xs) none = rw (or_left (p x) (list_any p xs) none) (filter-nothing p xs (or_right (p x) (list_any p xs) none))

filter-everything : {X : Type 0} (xs : List X) → filter (λ x. true) xs ≡ xs
filter-everything [] = refl
filter-everything (x ∷ xs) = ap (λ ys. x ∷ ys) (filter-everything xs)

only-one : (r : Record) (records : List Record) → has_repeats records ≡ false → list_any (same_record r) records ≡ true → filter (same_record r) records ≡ r ∷ []
only-one r [] distinct some = cc
only-one r (x ∷ records) distinct some = elim (cases_Bool (same_record r x)) [
  | inl here ↦
      let same : r ≡ x = (same_record-Decides r x).0 here in
      let none : list_any (same_record r) records ≡ false = ap (λ s. list_any (same_record s) records) same ∙ or_left (list_any (same_record x) records) (has_repeats records) distinct in
      rw here (λ i. sym same i ∷ filter-nothing (same_record r) records none i)
  | inr other ↦ rw other (only-one r records (or_right (list_any (same_record x) records) (has_repeats records) distinct) (rw other at some))
]

-- how many records are within a name, with a record and without it
pub count-within_without : (old : List Record) (r : Record) (name : Labels) → has_repeats old ≡ false → list_any (same_record r) old ≡ true → count_within old name ≡ count_within (records_without r old) name + cond (is_within r.owner name) 1 0
count-within_without old r name distinct some =
    let parts : count_within old name ≡ count_within (filter (same_record r) old) name + count_within (records_without r old) name = count-parts (λ r. is_within r.owner name) (same_record r) old in
    let one : count_within (filter (same_record r) old) name ≡ count_within (r ∷ []) name = ap (λ rs. count_within rs name) (only-one r old distinct some) in
    let single : count_within (r ∷ []) name ≡ 0 + cond (is_within r.owner name) 1 0 = count-within_push [] r name in
    omega (arith, parts, one, single)

-- ---- which names an edit changes

-- the names of an owner that no record is within
pub existence-add : (old : List Record) (r : Record) (names : NameTable) → HasNames names old → filter (λ name. nat_eq (count_at names name) 0) (with_ancestors r.owner) ≡ changed_names old (old ++ r ∷ [])
existence-add old r names has =
    filter_agree (λ name. nat_eq (count_at names name) 0) (is_absent old) (λ name. ap (λ n. nat_eq n 0) (has name) ∙ count-exists old name) (with_ancestors r.owner)
    ∙ sym (ap (λ rs. changed_names old (rs ++ r ∷ [])) (sym (filter-everything old)) ∙ changed-replaced (λ r. false) old (r ∷ []) ∙ (λ i. gone i ++ ap (filter (is_absent old)) (names-one r) i)) where
      gone : filter (is_absent (filter (λ r. true) old ++ r ∷ [])) (existing_names (filter (λ r. false) old)) ≡ []
      gone = ap (λ rs. filter (is_absent (filter (λ r. true) old ++ r ∷ [])) (existing_names rs)) (filter-none (λ r. false) (λ r. refl) old)

only_zero : (n m k : ℕ) → n ≡ m + k → k ≡ 1 → nat_eq n 1 ≡ nat_eq m 0
only_zero n m k sum one = same (nat_eq n 1) (nat_eq m 0) refl refl where
  same : (a b : Bool) → nat_eq n 1 ≡ a → nat_eq m 0 ≡ b → nat_eq n 1 ≡ nat_eq m 0
  same true true left right = left ∙ sym right
  same false false left right = left ∙ sym right
  same true false left right = absurd (grind (arith, nat_tests))
  same false true left right = absurd (grind (arith, nat_tests))

-- those that no other record is within
pub existence-remove : (old : List Record) (r : Record) (names : NameTable) → HasNames names old → has_repeats old ≡ false → list_any (same_record r) old ≡ true → filter (λ name. nat_eq (count_at names name) 1) (with_ancestors r.owner) ≡ changed_names old (records_without r old)
existence-remove old r names has distinct some =
    filter-agree_all (is_within r.owner) (λ name. nat_eq (count_at names name) 1) (is_absent (records_without r old)) agree (with_ancestors r.owner) (all-within r.owner)
    ∙ sym (ap (changed_names old) (sym (append-nil (records_without r old))) ∙ changed-replaced (same_record r) old [] ∙ append-nil (filter (is_absent (records_without r old ++ [])) (existing_names (filter (same_record r) old))) ∙ (λ i. filter (is_absent (append-nil (records_without r old) i)) ((ap existing_names (only-one r old distinct some) ∙ names-one r) i))) where
      agree : (name : Labels) → is_within r.owner name ≡ true → nat_eq (count_at names name) 1 ≡ is_absent (records_without r old) name
      agree name inside =
          only_zero (count_at names name) (count_within (records_without r old) name) (cond (is_within r.owner name) 1 0) (has name ∙ count-within_without old r name distinct some) (rw inside refl) ∙ count-exists (records_without r old) name

      all-within : (owner : Labels) → list_all (is_within owner) (with_ancestors owner) ≡ true
      all-within owner = all-any (with_ancestors owner) (is_within owner) (λ name some. sym (any-ancestors owner name) ∙ some)

pub both_zero : (old outside within text names gone new : ℕ) → old ≡ within + outside → names ≡ old → gone ≡ within → new ≡ text → (nat_eq names gone && nat_eq new 0) ≡ (nat_eq outside 0 && nat_eq text 0)
both_zero old outside within text names gone new parts names_is gone_is new_is =
    (λ i. first i && ap (λ n. nat_eq n 0) new_is i) where
      same : (a b : Bool) → nat_eq names gone ≡ a → nat_eq outside 0 ≡ b → nat_eq names gone ≡ nat_eq outside 0
      same true true left right = left ∙ sym right
      same false false left right = left ∙ sym right
      same true false left right = absurd (grind (arith, nat_tests))
      same false true left right = absurd (grind (arith, nat_tests))

      first : nat_eq names gone ≡ nat_eq outside 0
      first = same (nat_eq names gone) (nat_eq outside 0) refl refl

neither : (a b : Bool) → (not a && not b) ≡ not (a || b)
neither true b = refl
neither false b = refl

-- those of the records that are replaced that no other record is within, and those of the text that none
-- was within
pub existence-load : (apex : Labels) (old text : List Record) (names gone new : NameTable) → HasNames names old → HasNames gone (records_within apex old) → HasNames new text → filter (λ name. nat_eq (count_at names name) (count_at gone name) && nat_eq (count_at new name) 0) (existing_names (records_within apex old)) ++ filter (λ name. nat_eq (count_at names name) 0) (existing_names text) ≡ changed_names old (records_outside apex old ++ text)
existence-load apex old text names gone new has has_gone has_new =
    (λ i. filter_agree (λ name. nat_eq (count_at names name) (count_at gone name) && nat_eq (count_at new name) 0) (is_absent (records_outside apex old ++ text)) goes (existing_names (records_within apex old)) i ++ filter_agree (λ name. nat_eq (count_at names name) 0) (is_absent old) (λ name. ap (λ n. nat_eq n 0) (has name) ∙ count-exists old name) (existing_names text) i)
    ∙ sym (changed-replaced (λ r. is_within r.owner apex) old text) where
      goes : (name : Labels) → (nat_eq (count_at names name) (count_at gone name) && nat_eq (count_at new name) 0) ≡ is_absent (records_outside apex old ++ text) name
      goes name =
          both_zero (count_within old name) (count_within (records_outside apex old) name) (count_within (records_within apex old) name) (count_within text name) (count_at names name) (count_at gone name) (count_at new name) (count-parts (λ r. is_within r.owner name) (λ r. is_within r.owner apex) old) (has name) (has_gone name) (has_new name)
          ∙ (λ i. count-exists (records_outside apex old) name i && count-exists text name i)
          ∙ neither (exists_in (records_outside apex old) name) (exists_in text name)
          ∙ ap not (sym (exists_in-append (records_outside apex old) text name))

-- ---- the table after an edit

pub names-add : (old : List Record) (r : Record) (names names' : NameTable) → HasNames names old → ((name : Labels) → count_at names' name ≡ count_at names name + count_by (λ other. same_name other name) (with_ancestors r.owner)) → HasNames names' (old ++ r ∷ [])
names-add old r names names' has counted name =
    counted name ∙ ap (λ n. n + count_by (λ other. same_name other name) (with_ancestors r.owner)) (has name) ∙ count-owner old r name

less : (old left one count names names' : ℕ) → old ≡ left + one → count ≡ one → names ≡ old → names' ≡ names - count → names' ≡ left
less old left one count names names' parts count_is names_is after = omega (arith, parts, count_is, names_is, after)

pub names-remove : (old : List Record) (r : Record) (names names' : NameTable) → HasNames names old → has_repeats old ≡ false → list_any (same_record r) old ≡ true → ((name : Labels) → count_at names' name ≡ count_at names name - count_by (λ other. same_name other name) (with_ancestors r.owner)) → HasNames names' (records_without r old)
names-remove old r names names' has distinct some counted name =
    less (count_within old name) (count_within (records_without r old) name) (cond (is_within r.owner name) 1 0) (count_by (λ other. same_name other name) (with_ancestors r.owner)) (count_at names name) (count_at names' name) (count-within_without old r name distinct some) (count-ancestors r.owner name) (has name) (counted name)

pub names-load : (apex : Labels) (old text : List Record) (names gone new names' : NameTable) → HasNames names old → HasNames gone (records_within apex old) → HasNames new text → ((name : Labels) → count_at names' name ≡ count_at names name + count_at new name - count_at gone name) → HasNames names' (records_outside apex old ++ text)
names-load apex old text names gone new names' has has_gone has_new counted name =
    let parts : count_within old name ≡ count_within (records_within apex old) name + count_within (records_outside apex old) name = count-parts (λ r. is_within r.owner name) (λ r. is_within r.owner apex) old in
    let whole : count_within (records_outside apex old ++ text) name ≡ count_within (records_outside apex old) name + count_within text name = count-append (λ r. is_within r.owner name) (records_outside apex old) text in
    omega (arith, parts, whole, counted name, has name, has_gone name, has_new name)

-- ---- the names of a list of records, record by record

-- no more records are within a name than there are
pub count-taken : (apex : Labels) (records : List Record) (i : ℕ) (r : Record) (name : Labels) → i ≤ length records → count_within (records_within apex (take i records) ++ r ∷ []) name ≤ i + 1
count-taken apex records i r name below =
    let within : Record → Bool = λ r. is_within r.owner apex in
    omega (arith, count_by-le-length (λ r. is_within r.owner name) (records_within apex (take i records) ++ r ∷ []), length-append (records_within apex (take i records)) (r ∷ []), length-filter within (take i records), count_by-le-length within (take i records), length-take i records, below)

-- the names of one record more
pub names-next : (records : List Record) (r : Record) → insert_all same_name (existing_names records) (with_ancestors r.owner) ≡ existing_names (records ++ r ∷ [])
names-next records r =
    insert_all-unique (names_of records) (with_ancestors r.owner) ∙ ap (unique same_name) (sym (flat_map-append (λ r. with_ancestors r.owner) records (r ∷ []) ∙ ap (λ names. names_of records ++ names) (append-nil (with_ancestors r.owner))))

-- ---- a zone's text, whose records are all within its apex

pub text-names : (apex : Labels) (text : List Record) (new : NameTable) → list_all (λ r. is_within r.owner apex) text ≡ true → HasNames new (records_within apex text) → HasNames new text
text-names apex text new all has = subst (HasNames new) (filter-all (λ r. is_within r.owner apex) text all) has

-- the keys of the names that change
pub existence-keys : (apex : Labels) (old text : List Record) (names gone new : NameTable) → HasNames names old → HasNames gone (records_within apex old) → HasNames new text → existence_changed names gone new (existing_names (records_within apex old)) (existing_names text) ≡ changed_existence old (records_outside apex old ++ text)
existence-keys apex old text names gone new has has_gone has_new =
    sym (map-append existence_key (filter (λ name. nat_eq (count_at names name) (count_at gone name) && nat_eq (count_at new name) 0) (existing_names (records_within apex old))) (filter (λ name. nat_eq (count_at names name) 0) (existing_names text)))
    ∙ ap (map existence_key) (existence-load apex old text names gone new has has_gone has_new)
