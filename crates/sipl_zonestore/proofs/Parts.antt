-- A load that changes the records of some owners alone is worked out on these.
use Rattle.std.proofs.Common.{◌≡◌, ℕ, ◌+◌, ◌-◌, ◌^◌, ◌≤◌, Bool, true, false, not, ◌&&◌, ◌||◌, List, [], ◌++◌, length, map, nat_eq, nat_lt, None, Some, if◌then◌else◌, refl, ap, subst, sym, ◌∙◌, inl, inr, arith}
use Rattle.std.specs.List.{filter, filter_map, list_any, list_all, position_from}
use Rattle.std.specs.Option.{unwrap_or}
use lib.Pointwise.{pointwise}
use Rattle.std.proofs.lemmas.Bool.{cases_Bool}
use Rattle.std.proofs.lemmas.Bool.Decides.{nat_tests}
use Rattle.std.proofs.lemmas.List.{map-append}
use Rattle.std.proofs.lemmas.List.Concat.{flat_map-append}
use Rattle.std.proofs.lemmas.List.Elements.{filter_agree, filter-append}
use Rattle.std.proofs.lemmas.List.Folds.{list_any-append}
use Rattle.std.proofs.lemmas.List.Sums.{count_by-le-length, length-filter}
use Rattle.sipl_names.specs.Labels.{Labels, is_within, same_name}
use Rattle.sipl_records.specs.declared.record.Record.{Record}
use Rattle.sipl_records.specs.declared.record.Key.{Key}
use Rattle.sipl_records.specs.Sets.{data_of, exists_in, key_of, same_data, same_key}
use Rattle.sipl_records.specs.Unique.{unique}
use Rattle.sipl_records.proofs.Public.{data_of-filter_owner, filter-filter, filter-none, filter-swap, key_of-name, unique-filter}
use Rattle.sipl_zonestore.specs.BareOwners.{HasBare, is_bare_at}
use Rattle.sipl_zonestore.specs.Changes.{changed_count, changed_existence, changed_keys, changed_names, changed_sets, existence_key, existing_names, is_changed, with_ancestors}
use Rattle.sipl_zonestore.specs.Content.{Content, carried, no_content}
use Rattle.sipl_zonestore.specs.Differences.{DifferAt, records_besides, records_of}
use Rattle.sipl_zonestore.specs.Loading.{content_loaded, existence_changed}
use Rattle.sipl_zonestore.specs.NameTable.{NameTable, HasNames, count_at, count_within}
use Rattle.sipl_zonestore.specs.Numbers.{is_empty, number_refusal, numbered_keys, set_number_after}
use Rattle.sipl_zonestore.specs.SetTable.{OwnerTable, HasSets, content_of}
use Rattle.sipl_zonestore.specs.Store.{records_outside, records_within}
use Rattle.sipl_zonestore.specs.declared.fault.StoreFault.{StoreFault}
use Rattle.sipl_zonestore.specs.declared.fault.StoreFault.TheVariants.{NumberSpent}
use Rattle.sipl_zonestore.proofs.AncestorCounts.{count-append, count-exists, count-parts}
use Rattle.sipl_zonestore.proofs.BareOwners.{bare-filter}
use Rattle.sipl_zonestore.proofs.ChangedKeys.{keys-part, respects, set-inside, set-outside}
use Rattle.sipl_zonestore.proofs.ChangedNames.{changed-split, exists-filter, filter-fails, go-parts, is_absent, names-exist_in, names_of, respects_name}
use Rattle.sipl_zonestore.proofs.NameTables.{both_zero}
use Rattle.sipl_zonestore.proofs.Replacing.{IsReplacement, empty-number, loaded-none}
use Rattle.sipl_zonestore.proofs.SameSets.{same_set-refl}

-- the records after the load of a text
abbrev after_text : Labels → List Record → List Record → List Record
after_text apex old text = records_outside apex old ++ text

-- ---- the owners are within the apex

of_owners : (apex : Labels) (q : Labels → Bool) (old text : List Record) → DifferAt apex q old text → (name : Labels) (b c : Bool) → q name ≡ b → is_within name apex ≡ c → (b && c) ≡ b
of_owners apex q old text differ name true c own is = sym is ∙ differ.within name own
of_owners apex q old text differ name false c own is = refl

-- so their records are
pub part-within : (apex : Labels) (q : Labels → Bool) (old text : List Record) → DifferAt apex q old text → records_within apex (records_of q old) ≡ records_of q old
part-within apex q old text differ =
    filter-filter (λ r. is_within r.owner apex) (λ r. q r.owner) old
    ∙ filter_agree (λ r. q r.owner && is_within r.owner apex) (λ r. q r.owner) (λ r. of_owners apex q old text differ r.owner (q r.owner) (is_within r.owner apex) refl refl) old

-- and none is outside
pub part-outside_none : (apex : Labels) (q : Labels → Bool) (old text : List Record) → DifferAt apex q old text → records_outside apex (records_of q old) ≡ []
part-outside_none apex q old text differ =
    filter-filter (λ r. not (is_within r.owner apex)) (λ r. q r.owner) old
    ∙ filter-none (λ r. q r.owner && not (is_within r.owner apex)) (λ r. none r.owner (q r.owner) refl) old where
      none : (name : Labels) (b : Bool) → q name ≡ b → (b && not (is_within name apex)) ≡ false
      none name true own = ap not (differ.within name own)
      none name false own = refl

none-outside : (apex : Labels) (q : Labels → Bool) (old text : List Record) → DifferAt apex q old text → records_of q (records_outside apex old) ≡ []
none-outside apex q old text differ =
    filter-swap (λ r. q r.owner) (λ r. not (is_within r.owner apex)) old ∙ part-outside_none apex q old text differ

besides-outside : (apex : Labels) (q : Labels → Bool) (old text : List Record) → DifferAt apex q old text → records_besides q (records_outside apex old) ≡ records_outside apex old
besides-outside apex q old text differ =
    filter-filter (λ r. not (q r.owner)) (λ r. not (is_within r.owner apex)) old
    ∙ filter_agree (λ r. not (is_within r.owner apex) && not (q r.owner)) (λ r. not (is_within r.owner apex)) (λ r. both r.owner (q r.owner) (is_within r.owner apex) refl refl) old where
      both : (name : Labels) (b c : Bool) → q name ≡ b → is_within name apex ≡ c → (not c && not b) ≡ not c
      both name true true own is = refl
      both name true false own is = let never : false ≡ true = sym is ∙ differ.within name own in cc
      both name false true own is = refl
      both name false false own is = refl

-- ---- the sets

-- a set of the owners is that of their records, before and after
pub part-new : (apex : Labels) (q : Labels → Bool) (old text : List Record) → DifferAt apex q old text → (key : Key) → q key.name ≡ true → data_of (after_text apex old text) key ≡ data_of (records_of q text) key
part-new apex q old text differ key own =
    set-inside apex old text key (differ.within key.name own) ∙ sym (data_of-filter_owner q text key ∙ rw own refl)

pub part-old : (q : Labels → Bool) (old : List Record) (key : Key) → q key.name ≡ true → data_of old key ≡ data_of (records_of q old) key
part-old q old key own = sym (data_of-filter_owner q old key ∙ rw own refl)

besides-data : (q : Labels → Bool) (records : List Record) (key : Key) → q key.name ≡ false → data_of (records_besides q records) key ≡ data_of records key
besides-data q records key other = data_of-filter_owner (λ name. not (q name)) records key ∙ rw other refl

-- and each other set stays
pub part-kept : (apex : Labels) (q : Labels → Bool) (old text : List Record) → list_all (λ r. is_within r.owner apex) text ≡ true → DifferAt apex q old text → (key : Key) → q key.name ≡ false → data_of (after_text apex old text) key ≡ data_of old key
part-kept apex q old text all differ key other = elim (cases_Bool (is_within key.name apex)) [
  | inl inside ↦
      let zone : data_of (records_within apex old) key ≡ data_of old key = data_of-filter_owner (λ name. is_within name apex) old key ∙ rw inside refl in
      set-inside apex old text key inside ∙ sym (besides-data q text key other) ∙ ap (λ rs. data_of rs key) (sym differ.same) ∙ besides-data q (records_within apex old) key other ∙ zone
  | inr outside ↦ set-outside apex old text key all outside
]

-- the records of the owners, before and after
both-parts : (apex : Labels) (q : Labels → Bool) (old text : List Record) → DifferAt apex q old text → records_of q (old ++ after_text apex old text) ≡ records_of q old ++ records_of q text
both-parts apex q old text differ =
    filter-append (λ r. q r.owner) old (after_text apex old text)
    ∙ ap (λ rs. records_of q old ++ rs) (filter-append (λ r. q r.owner) (records_outside apex old) text ∙ ap (λ rs. rs ++ records_of q text) (none-outside apex q old text differ))

-- keys that pass a test which no other owner's does
part-keys : (apex : Labels) (q : Labels → Bool) (old text : List Record) → DifferAt apex q old text → (p p' : Key → Bool) → ((key : Key) → q key.name ≡ false → p key ≡ false) → ((key : Key) → q key.name ≡ true → p key ≡ p' key) → filter p (unique same_key (filter_map key_of (old ++ after_text apex old text))) ≡ filter p' (unique same_key (filter_map key_of (records_of q old ++ records_of q text)))
part-keys apex q old text differ p p' drops agrees =
    unique-filter same_key p (respects p) (filter_map key_of (old ++ after_text apex old text))
    ∙ ap (unique same_key) (keys-part p p' (λ r. q r.owner) (λ r key own other. drops key (sym (ap q (key_of-name r key own)) ∙ other)) (λ r key own is. agrees key (sym (ap q (key_of-name r key own)) ∙ is)) (old ++ after_text apex old text) ∙ ap (λ rs. filter p' (filter_map key_of rs)) (both-parts apex q old text differ))
    ∙ sym (unique-filter same_key p' (respects p') (filter_map key_of (records_of q old ++ records_of q text)))

part-changed_not : (apex : Labels) (q : Labels → Bool) (old text : List Record) → list_all (λ r. is_within r.owner apex) text ≡ true → DifferAt apex q old text → (key : Key) → q key.name ≡ false → is_changed old (after_text apex old text) key ≡ false
part-changed_not apex q old text all differ key other =
    rw (part-kept apex q old text all differ key other, same_set-refl (data_of old key)) refl

part-changed_is : (apex : Labels) (q : Labels → Bool) (old text : List Record) → DifferAt apex q old text → (key : Key) → q key.name ≡ true → is_changed old (after_text apex old text) key ≡ is_changed (records_of q old) (records_of q text) key
part-changed_is apex q old text differ key own = λ i. not (pointwise same_data (part-old q old key own i) (part-new apex q old text differ key own i))

-- the changed sets are those of the owners' records
pub part-changed : (apex : Labels) (q : Labels → Bool) (old text : List Record) → list_all (λ r. is_within r.owner apex) text ≡ true → DifferAt apex q old text → changed_sets old (after_text apex old text) ≡ changed_sets (records_of q old) (records_of q text)
part-changed apex q old text all differ =
    part-keys apex q old text differ (is_changed old (after_text apex old text)) (is_changed (records_of q old) (records_of q text)) (part-changed_not apex q old text all differ) (part-changed_is apex q old text differ)

-- and so are those that take a number
pub part-numbered : (apex : Labels) (q : Labels → Bool) (old text : List Record) → list_all (λ r. is_within r.owner apex) text ≡ true → DifferAt apex q old text → numbered_keys old (after_text apex old text) ≡ numbered_keys (records_of q old) (records_of q text)
part-numbered apex q old text all differ =
    filter-filter (left new) (is_changed old new) (unique same_key (filter_map key_of (old ++ new)))
    ∙ part-keys apex q old text differ (λ key. is_changed old new key && left new key) (λ key. is_changed gone come key && left come key) (λ key other. ap (λ b. b && left new key) (part-changed_not apex q old text all differ key other)) (λ key own i. part-changed_is apex q old text differ key own i && not (is_empty (part-new apex q old text differ key own i)))
    ∙ sym (filter-filter (left come) (is_changed gone come) (unique same_key (filter_map key_of (gone ++ come)))) where
      new : List Record
      new = after_text apex old text

      gone : List Record
      gone = records_of q old

      come : List Record
      come = records_of q text

      left : List Record → Key → Bool
      left records key = not (is_empty (data_of records key))

-- the number of a set of the owners
pub part-number : (apex : Labels) (q : Labels → Bool) (old text : List Record) (next : ℕ) (numbers numbers' : Key → ℕ) → list_all (λ r. is_within r.owner apex) text ≡ true → DifferAt apex q old text → (key : Key) → q key.name ≡ true → numbers key ≡ numbers' key → set_number_after (records_of q old) (records_of q text) next numbers key ≡ set_number_after old (after_text apex old text) next numbers' key
part-number apex q old text next numbers numbers' all differ key own same = λ i.
    unwrap_or (position_from (λ other. same_key other key) next (sym (part-numbered apex q old text all differ) i)) (if is_empty (sym (part-new apex q old text differ key own) i) then 0 else same i)

-- a table of the owners' sets has the numbers that they have among all
pub part-numbers : (q : Labels → Bool) (old : List Record) (sets part : OwnerTable) → HasSets sets old → ((key : Key) → content_of part key ≡ carried (content_of sets key).number (data_of (records_of q old) key)) → (key : Key) → q key.name ≡ true → (content_of part key).number ≡ (content_of sets key).number
part-numbers q old sets part has made key own =
    ap (λ (c : Content). c.number) (made key) ∙ by_case (is_empty (data_of (records_of q old) key)) refl where
      by_case : (b : Bool) → is_empty (data_of (records_of q old) key) ≡ b → (if b then 0 else (content_of sets key).number) ≡ (content_of sets key).number
      by_case true empty = sym (empty-number sets key (ap is_empty (has key ∙ part-old q old key own) ∙ empty))
      by_case false filled = refl

-- ---- how many records are within a name

pub count-old : (q : Labels → Bool) (old : List Record) (name : Labels) → count_within old name ≡ count_within (records_of q old) name + count_within (records_besides q old) name
count-old q old name = count-parts (λ r. is_within r.owner name) (λ r. q r.owner) old

pub count-new : (apex : Labels) (q : Labels → Bool) (old text : List Record) → DifferAt apex q old text → (name : Labels) → count_within (after_text apex old text) name ≡ count_within (records_of q text) name + count_within (records_besides q old) name
count-new apex q old text differ name =
    let whole : count_within (after_text apex old text) name ≡ count_within (records_outside apex old) name + count_within text name = count-append (λ r. is_within r.owner name) (records_outside apex old) text in
    let parts : count_within text name ≡ count_within (records_of q text) name + count_within (records_besides q text) name = count-old q text name in
    let zone : count_within (records_besides q text) name ≡ count_within (records_within apex (records_besides q old)) name = ap (λ rs. count_within rs name) (sym differ.same ∙ filter-swap (λ r. not (q r.owner)) (λ r. is_within r.owner apex) old) in
    let others : count_within (records_outside apex old) name ≡ count_within (records_outside apex (records_besides q old)) name = ap (λ rs. count_within rs name) (sym (besides-outside apex q old text differ) ∙ filter-swap (λ r. not (q r.owner)) (λ r. not (is_within r.owner apex)) old) in
    let kept : count_within (records_besides q old) name ≡ count_within (records_within apex (records_besides q old)) name + count_within (records_outside apex (records_besides q old)) name = count-parts (λ r. is_within r.owner name) (λ r. is_within r.owner apex) (records_besides q old) in
    omega (arith, whole, parts, zone, others, kept)

-- the table of names after the load
pub part-names : (apex : Labels) (q : Labels → Bool) (old text : List Record) (names gone come names' : NameTable) → DifferAt apex q old text → HasNames names old → HasNames gone (records_of q old) → HasNames come (records_of q text) → ((name : Labels) → count_at names' name ≡ count_at names name + count_at come name - count_at gone name) → HasNames names' (after_text apex old text)
part-names apex q old text names gone come names' differ has has_gone has_come counted name =
    omega (arith, counted name, has name, has_gone name, has_come name, count-old q old name, count-new apex q old text differ name)

pub few-filter : (q : Labels → Bool) (text seen : List Record) → seen ≡ records_of q text → length seen ≤ length text
few-filter q text seen seen_is =
    omega (arith, ap length seen_is, length-filter (λ r. q r.owner) text, count_by-le-length (λ r. q r.owner) text)

-- ---- the names that change

fewer : (m n : ℕ) → m ≤ n → nat_eq n 0 ≡ true → nat_eq m 0 ≡ true
fewer m n le none = grind (arith, nat_tests)

-- a name that exists by some records exists by others of which no fewer are within it
exists-more : (a b : List Record) (name : Labels) → count_within a name ≤ count_within b name → exists_in a name ≡ true → exists_in b name ≡ true
exists-more a b name le some = elim (cases_Bool (exists_in b name)) [
  | inl there ↦ there
  | inr none ↦
      let zero : nat_eq (count_within a name) 0 ≡ true = fewer (count_within a name) (count_within b name) le (count-exists b name ∙ ap not none) in
      let never : true ≡ false = sym zero ∙ count-exists a name ∙ ap not some in
      cc
]

-- the names of the owners' records that no record is within any more, and those that none was within
pub part-changed_names : (apex : Labels) (q : Labels → Bool) (old text : List Record) → DifferAt apex q old text → changed_names old (after_text apex old text) ≡ filter (is_absent (after_text apex old text)) (existing_names (records_of q old)) ++ filter (is_absent old) (existing_names (records_of q text))
part-changed_names apex q old text differ =
    changed-split old new ∙ (λ i. ap (unique same_name) go i ++ ap (unique same_name) come i) ∙ (λ i. sym (unique-filter same_name (is_absent new) (respects_name (is_absent new)) (names_of (records_of q old))) i ++ sym (unique-filter same_name (is_absent old) (respects_name (is_absent old)) (names_of (records_of q text))) i) where
      new : List Record
      new = after_text apex old text

      go : filter (is_absent (after_text apex old text)) (names_of old) ≡ filter (is_absent (after_text apex old text)) (names_of (records_of q old))
      go = go-parts (λ r. q r.owner) (after_text apex old text) old (names-exist_in (records_besides q old) (after_text apex old text) (λ name there. exists-more (records_besides q old) (after_text apex old text) name (omega (arith, count-new apex q old text differ name)) there))

      stays : (name : Labels) → exists_in (records_besides q text) name ≡ true → exists_in old name ≡ true
      stays name there =
          exists-filter (λ r. is_within r.owner apex) old name (exists-filter (λ r. not (q r.owner)) (records_within apex old) name (ap (λ rs. exists_in rs name) differ.same ∙ there))

      come : filter (is_absent old) (names_of (after_text apex old text)) ≡ filter (is_absent old) (names_of (records_of q text))
      come =
          ap (filter (is_absent old)) (flat_map-append (λ r. with_ancestors r.owner) (records_outside apex old) text)
          ∙ filter-append (is_absent old) (names_of (records_outside apex old)) (names_of text)
          ∙ ap (λ names. names ++ filter (is_absent old) (names_of text)) (filter-fails (exists_in old) (is_absent old) (λ name there. ap not there) (names_of (records_outside apex old)) (names-exist_in (records_outside apex old) old (exists-filter (λ r. not (is_within r.owner apex)) old)))
          ∙ go-parts (λ r. q r.owner) old text (names-exist_in (records_besides q text) old stays)

both_none : (kept come new : ℕ) (a b c : Bool) → new ≡ come + kept → nat_eq kept 0 ≡ a → nat_eq come 0 ≡ b → nat_eq new 0 ≡ c → (a && b) ≡ c
both_none kept come new true true true sum k m n = refl
both_none kept come new true true false sum k m n = absurd (grind (arith, nat_tests))
both_none kept come new true false true sum k m n = absurd (grind (arith, nat_tests))
both_none kept come new true false false sum k m n = refl
both_none kept come new false b true sum k m n = absurd (grind (arith, nat_tests))
both_none kept come new false b false sum k m n = refl

-- the keys of the names that change
pub part-existence : (apex : Labels) (q : Labels → Bool) (old text : List Record) (names gone come : NameTable) → DifferAt apex q old text → HasNames names old → HasNames gone (records_of q old) → HasNames come (records_of q text) → existence_changed names gone come (existing_names (records_of q old)) (existing_names (records_of q text)) ≡ changed_existence old (after_text apex old text)
part-existence apex q old text names gone come differ has has_gone has_come =
    sym (map-append existence_key (filter (λ name. nat_eq (count_at names name) (count_at gone name) && nat_eq (count_at come name) 0) (existing_names (records_of q old))) (filter (λ name. nat_eq (count_at names name) 0) (existing_names (records_of q text))))
    ∙ ap (map existence_key) ((λ i. filter_agree (λ name. nat_eq (count_at names name) (count_at gone name) && nat_eq (count_at come name) 0) (is_absent (after_text apex old text)) goes (existing_names (records_of q old)) i ++ filter_agree (λ name. nat_eq (count_at names name) 0) (is_absent old) (λ name. ap (λ n. nat_eq n 0) (has name) ∙ count-exists old name) (existing_names (records_of q text)) i) ∙ sym (part-changed_names apex q old text differ)) where
      goes : (name : Labels) → (nat_eq (count_at names name) (count_at gone name) && nat_eq (count_at come name) 0) ≡ is_absent (after_text apex old text) name
      goes name =
          both_zero (count_within old name) (count_within (records_besides q old) name) (count_within (records_of q old) name) (count_within (records_of q text) name) (count_at names name) (count_at gone name) (count_at come name) (count-old q old name) (has name) (has_gone name) (has_come name)
          ∙ both_none (count_within (records_besides q old) name) (count_within (records_of q text) name) (count_within (after_text apex old text) name) _ _ _ (count-new apex q old text differ name) refl refl refl
          ∙ count-exists (after_text apex old text) name

-- ---- the owners of records of which nothing is kept

pub part-bare : (apex : Labels) (q : Labels → Bool) (old text : List Record) (before after : Labels → Bool) → DifferAt apex q old text → HasBare before old → ((name : Labels) → after name ≡ (not (q name) && before name || list_any (is_bare_at name) (records_of q text))) → HasBare after (after_text apex old text)
part-bare apex q old text before after differ has put name =
    put name ∙ (λ i. not (q name) && has name i || list_any (is_bare_at name) (records_of q text)) ∙ by_case (q name) (is_within name apex) refl refl ∙ sym (list_any-append (is_bare_at name) (records_outside apex old) text) where
      any : List Record → Bool
      any records = list_any (is_bare_at name) records

      last : (b : Bool) → (b || false) ≡ b
      last true = refl
      last false = refl

      by_case : (b c : Bool) → q name ≡ b → is_within name apex ≡ c → (not b && any old || any (records_of q text)) ≡ (any (records_outside apex old) || any text)
      by_case true c own is =
          bare-filter q true name own text
          ∙ ap (λ b. b || any text) (sym (bare-filter (λ n. not (is_within n apex)) false name (ap not (differ.within name own)) old))
      by_case false true other is =
          ap (λ b. any old || b) (bare-filter q false name other text) ∙ last (any old)
          ∙ sym (bare-filter (λ n. is_within n apex) true name is old)
          ∙ sym (bare-filter (λ n. not (q n)) true name (ap not other) (records_within apex old))
          ∙ ap any differ.same
          ∙ bare-filter (λ n. not (q n)) true name (ap not other) text
          ∙ ap (λ b. b || any text) (sym (bare-filter (λ n. not (is_within n apex)) false name (ap not is) old))
      by_case false false other is =
          ap (λ b. any old || b) (bare-filter q false name other text)
          ∙ ap (λ b. b || false) (sym (bare-filter (λ n. not (is_within n apex)) true name (ap not is) old))
          ∙ ap (λ b. any (records_outside apex old) || b) (sym (bare-filter (λ n. is_within n apex) false name is old) ∙ sym (bare-filter (λ n. not (q n)) true name (ap not other) (records_within apex old)) ∙ ap any differ.same ∙ bare-filter (λ n. not (q n)) true name (ap not other) text)

-- ---- a part of the zone and of the text

-- lists that are the same but for some owners, between others that are the same
pub part-differ : (apex : Labels) (q : Labels → Bool) (records text old new first last : List Record) → records_within apex records ≡ first ++ (records_within apex old ++ last) → text ≡ first ++ (new ++ last) → DifferAt apex q old new → DifferAt apex q records text
part-differ apex q records text old new first last zone whole differ =
    record {
      within = differ.within;
      same = ap (records_besides q) zone ∙ besides-parts first (records_within apex old) last ∙ ap (λ rs. records_besides q first ++ (rs ++ records_besides q last)) differ.same ∙ sym (besides-parts first new last) ∙ ap (records_besides q) (sym whole);
    }
  where
    besides-parts : (a b c : List Record) → records_besides q (a ++ (b ++ c)) ≡ records_besides q a ++ (records_besides q b ++ records_besides q c)
    besides-parts a b c =
        filter-append (λ r. not (q r.owner)) a (b ++ c) ∙ ap (λ rs. records_besides q a ++ rs) (filter-append (λ r. not (q r.owner)) b c)

-- ---- what the load makes of the tables, worked out on the records of the owners

-- the numbers that it takes are those that the whole load takes
pub part-counted : (apex : Labels) (q : Labels → Bool) (old text : List Record) (count : ℕ) → list_all (λ r. is_within r.owner apex) text ≡ true → DifferAt apex q old text → count ≡ length (numbered_keys (records_of q old) (records_outside apex (records_of q old) ++ records_of q text)) → count ≡ length (numbered_keys old (after_text apex old text))
part-counted apex q old text count all differ counted =
    counted ∙ ap (λ rs. length (numbered_keys (records_of q old) (rs ++ records_of q text))) (part-outside_none apex q old text differ) ∙ ap length (sym (part-numbered apex q old text all differ))

-- and where too few are left for it, too few are for the load
pub part-refused : (apex : Labels) (q : Labels → Bool) (old text : List Record) (next : ℕ) (fault : StoreFault) → list_all (λ r. is_within r.owner apex) text ≡ true → DifferAt apex q old text → number_refusal (records_of q old) (records_outside apex (records_of q old) ++ records_of q text) next ≡ Some fault → number_refusal old (after_text apex old text) next ≡ Some fault
part-refused apex q old text next fault all differ why =
    ap (λ (keys : List Key). if nat_lt (2 ^ 52 + 1) (next + length keys) then Some NumberSpent else None) (part-numbered apex q old text all differ ∙ ap (λ rs. numbered_keys (records_of q old) (rs ++ records_of q text)) (sym (part-outside_none apex q old text differ))) ∙ why

-- what it changes is what the load changes
pub part-keys_changed : (apex : Labels) (q : Labels → Bool) (old text : List Record) (names gone_names come_names : NameTable) (keys : List Key) → list_all (λ r. is_within r.owner apex) text ≡ true → DifferAt apex q old text → HasNames names old → HasNames gone_names (records_within apex (records_of q old)) → HasNames come_names (records_of q text) → keys ≡ changed_sets (records_of q old) (records_outside apex (records_of q old) ++ records_of q text) ++ existence_changed names gone_names come_names (existing_names (records_within apex (records_of q old))) (existing_names (records_of q text)) → keys ≡ changed_keys old (after_text apex old text)
part-keys_changed apex q old text names gone_names come_names keys all differ has has_gone has_come changed =
    changed
    ∙ (λ i. changed_sets (records_of q old) (part-outside_none apex q old text differ i ++ records_of q text) ++ existence_changed names gone_names come_names (existing_names (part-within apex q old text differ i)) (existing_names (records_of q text)))
    ∙ (λ i. sym (part-changed apex q old text all differ) i ++ part-existence apex q old text names gone_names come_names differ has (subst (HasNames gone_names) (part-within apex q old text differ) has_gone) has_come i)

pub part-sets_changed : (apex : Labels) (q : Labels → Bool) (old text : List Record) (sets : ℕ) → list_all (λ r. is_within r.owner apex) text ≡ true → DifferAt apex q old text → sets ≡ changed_count (records_of q old) (records_outside apex (records_of q old) ++ records_of q text) → sets ≡ changed_count old (after_text apex old text)
part-sets_changed apex q old text sets all differ changed =
    changed ∙ ap (λ rs. changed_count (records_of q old) (rs ++ records_of q text)) (part-outside_none apex q old text differ) ∙ ap length (sym (part-changed apex q old text all differ))

-- the sets that it makes are those of the load
pub part-taken : (apex : Labels) (q : Labels → Bool) (old text : List Record) (next : ℕ) (sets part loaded : OwnerTable) → list_all (λ r. is_within r.owner apex) text ≡ true → DifferAt apex q old text → HasSets sets old → ((key : Key) → content_of part key ≡ carried (content_of sets key).number (data_of (records_of q old) key)) → ((key : Key) → content_of loaded key ≡ content_loaded part (records_of q old) (records_outside apex (records_of q old) ++ records_of q text) (records_of q text) next key) → (key : Key) → q key.name ≡ true → content_of loaded key ≡ content_loaded sets old (after_text apex old text) (after_text apex old text) next key
part-taken apex q old text next sets part loaded all differ has made taken key own =
    taken key
    ∙ ap (λ rs. content_loaded part (records_of q old) (rs ++ records_of q text) (records_of q text) next key) (part-outside_none apex q old text differ)
    ∙ (λ i. carried (part-number apex q old text next (λ key. (content_of part key).number) (λ key. (content_of sets key).number) all differ key own (part-numbers q old sets part has made key own) i) (sym (part-new apex q old text differ key own) i))

-- and they replace those of the owners
pub part-replacement : (apex : Labels) (q : Labels → Bool) (old text : List Record) (next : ℕ) (sets loaded replaced : OwnerTable) → list_all (λ r. is_within r.owner apex) text ≡ true → DifferAt apex q old text → HasSets sets old → ((key : Key) → q key.name ≡ true → content_of loaded key ≡ content_loaded sets old (after_text apex old text) (after_text apex old text) next key) → ((key : Key) → content_of replaced key ≡ (if q key.name then content_of loaded key else content_of sets key)) → IsReplacement q old (after_text apex old text) (after_text apex old text) next sets loaded replaced
part-replacement apex q old text next sets loaded replaced all differ has taken put =
    record {
      of_text = λ key own. refl;
      kept = part-kept apex q old text all differ;
      has_sets = has;
      taken = taken;
      put = put;
    }

-- and none of another owner
pub part-none : (apex : Labels) (q : Labels → Bool) (old text : List Record) (next : ℕ) (part loaded : OwnerTable) → ((key : Key) → content_of loaded key ≡ content_loaded part (records_of q old) (records_outside apex (records_of q old) ++ records_of q text) (records_of q text) next key) → (key : Key) → q key.name ≡ false → content_of loaded key ≡ no_content
part-none apex q old text next part loaded taken key other =
    taken key ∙ loaded-none part (records_of q old) (records_outside apex (records_of q old) ++ records_of q text) (records_of q text) next key (data_of-filter_owner q text key ∙ rw other refl)
