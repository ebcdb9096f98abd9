use Rattle.std.proofs.Common.{◌≡◌, ◌||◌, ◌&&◌, not, ◌^◌, ◌≤◌, ◌≢◌, ◌++◌, ◌+◌, ◌-◌, Some, refl, ap, sym, subst, ◌∙◌, length, arith}
use Rattle.std.specs.List.{list_any}
use Rattle.std.proofs.lemmas.Result.{err_from_is_err_and}
use Rattle.indexmap.specs.IndexSet.{contains}
use Rattle.sipl_names.specs.Labels.{is_within, same_name}
use Rattle.sipl_records.specs.Sets.{data_of}
use Rattle.sipl_records.specs.declared.record.Key.{Key}
use Rattle.sipl_zonestore.specs.BareOwners.{is_bare_at}
use Rattle.sipl_zonestore.specs.Changes.{changed_count, changed_sets, existing_names}
use Rattle.sipl_zonestore.specs.Loading.{content_loaded, existence_changed}
use Rattle.sipl_zonestore.specs.NameTable.{NameTable, HasNames, count_at, count_within}
use Rattle.sipl_zonestore.specs.Numbers.{number_refusal, numbered_keys}
use Rattle.sipl_zonestore.specs.SetTable.{OwnerTable, HasSets, content_of, numbers_of}
use Rattle.sipl_zonestore.specs.Store.{records_outside, records_within}
use Rattle.sipl_zonestore.specs.declared.fault.StoreFault.TheVariants.{Memory}
use Rattle.sipl_zonestore.proofs.AncestorCounts.{count-limit}
use Rattle.sipl_zonestore.proofs.BareOwners.{bare-replaced}
use Rattle.sipl_zonestore.proofs.ChangedKeys.{text-none}
use Rattle.sipl_zonestore.proofs.NameTables.{existence-keys, names-load}
use Rattle.sipl_zonestore.proofs.Recorded.{replaced, refused}
use Rattle.sipl_zonestore.proofs.Replacing.{loaded-none, replaced-sets, zone-replacement}
use Rattle.sipl_zonestore.proofs.indexed_records.IndexedRecords.replace.Goals as goal

pub loaded_tables-requires-clause-sets : goal.loaded_tables-requires-clause-sets
loaded_tables-requires-clause-sets c = subst (HasSets c.self.inside.sets) (sym c.as_slice.ensures.value) c.self.invariant.has_sets

pub returns-in_err-tables : goal.returns-in_err-tables
returns-in_err-tables c =
    let p = err_from_is_err_and c.from_residual.result c.from_residual.ensures.1 in
    rw (p.1, p.2, ← c.self.view_is) (refused (records_outside c.args.apex.now c.self.inside.records.records ++ c.args.text.now) _ _ c.in_err-tables.field-0.0 (subst (λ rs. c.in_err-tables.field-0.0 ≢ Memory → number_refusal rs (records_outside c.args.apex.now rs ++ c.args.text.now) c.self.inside.next ≡ Some c.in_err-tables.field-0.0) c.as_slice.ensures.value c.in_err-tables.ensures.refused) (λ i. record { records = c.as_slice.follows.holds-at-none i; numbers = numbers_of c.self.inside.sets; next = c.self.inside.next }))

pub replace_within-requires : goal.replace_within-requires
replace_within-requires c = λ key outside.
    (λ i. content_of (c.deref_mut.ensures.value i).sets key)
    ∙ c.in_ok-tables.ensures.sets key
    ∙ loaded-none c.self.inside.sets c.as_slice.result.now (records_outside c.args.apex.now c.as_slice.result.now ++ c.args.text.now) c.args.text.now c.self.inside.next key (text-none c.args.apex.now c.args.text.now key c.requires.within outside)

pub put_names-changed-requires-clause-fits : goal.put_names-changed-requires-clause-fits
put_names-changed-requires-clause-fits c = λ name.
    let old : count_at c.reserve.new.names.entries name ≡ count_within c.self.inside.records.records name = ap (λ (es : NameTable). count_at es name) c.in_ok-reserve.ensures.names ∙ c.self.invariant.has_names name in
    let names_are : c.into_inner-sets.result.names ≡ c.in_ok-tables.tables.value.names = (λ i. (c.into_inner-sets.ensures i).names) ∙ (λ i. (c.deref_mut.ensures.value i).names) in
    let new : count_at c.into_inner-sets.result.names.new.entries name ≡ count_within c.args.text.now name = (λ i. count_at (names_are i).new.entries name) ∙ c.in_ok-tables.ensures.new name in
    let records = ap length (c.in_ok-reserve.ensures.records ∙ c.as_slice.follows.holds-at-none) in
    omega (arith, old, new, records, count-limit c.self.inside.records.records name, count-limit c.args.text.now name, c.in_ok-reserve.ensures.limit)

pub invariant_of-self-2 : goal.invariant_of-self-2
invariant_of-self-2 c =
    let apex = c.args.apex.now in
    let old = c.self.inside.records.records in
    let text = c.args.text.now in
    let new = records_outside apex old ++ text in
    let taken : (key : Key) → content_of c.deref_mut.result.now.sets key ≡ content_loaded c.self.inside.sets old (records_outside apex old ++ text) text c.self.inside.next key = subst (λ rs. (key : Key) → content_of c.deref_mut.result.now.sets key ≡ content_loaded c.self.inside.sets rs (records_outside apex rs ++ text) text c.self.inside.next key) c.as_slice.ensures.value (λ key. (λ i. content_of (c.deref_mut.ensures.value i).sets key) ∙ c.in_ok-tables.ensures.sets key) in
    let is = zone-replacement apex old text c.self.inside.next c.self.inside.sets c.deref_mut.result.now.sets c.replace_within.new.self c.requires.within c.self.invariant.has_sets taken c.in_ok-replace_within.ensures.replaced in
    let records_are : c.replace_within-2.new.self.records ≡ records_outside apex old ++ text = c.replace_within-2.ensures ∙ (λ i. records_outside apex ((c.in_ok-reserve.ensures.records ∙ c.as_slice.follows.holds-at-none) i) ++ c.in_ok-copies.ensures i) in
    let names_are : c.into_inner-sets.result.names ≡ c.in_ok-tables.tables.value.names = (λ i. (c.into_inner-sets.ensures i).names) ∙ (λ i. (c.deref_mut.ensures.value i).names) in
    let bare_is : c.into_inner-sets.result.bare ≡ c.in_ok-tables.tables.value.bare = (λ i. (c.into_inner-sets.ensures i).bare) ∙ (λ i. (c.deref_mut.ensures.value i).bare) in
    let count_is : c.into_inner-sets.result.count ≡ c.in_ok-tables.tables.value.count = (λ i. (c.into_inner-sets.ensures i).count) ∙ (λ i. (c.deref_mut.ensures.value i).count) in
    record {
      has_sets = λ key. replaced-sets (λ name. is_within name apex) old new text c.self.inside.next c.self.inside.sets c.deref_mut.result.now.sets c.replace_within.new.self is key ∙ ap (λ rs. data_of rs key) (sym records_are);
      has_bare = λ name.
          bare-replaced apex old text (contains same_name c.self.inside.bare) (contains same_name c.into_inner-sets.result.bare) (contains same_name c.replace_owners.new.owners) c.self.invariant.has_bare (λ name. (λ i. contains same_name (bare_is i) name) ∙ c.in_ok-tables.ensures.bare name) (λ name. c.replace_owners.ensures name ∙ ap (λ keys. not (is_within name apex) && list_any (same_name name) keys || contains same_name c.into_inner-sets.result.bare name) c.in_ok-reserve.ensures.bare) name ∙ ap (λ rs. list_any (is_bare_at name) rs) (sym records_are);
      has_names = λ name.
          names-load apex old text c.self.inside.names.entries c.in_ok-tables.tables.value.names.old.entries c.in_ok-tables.tables.value.names.new.entries c.put_names-changed.new.names.entries c.self.invariant.has_names (subst (λ rs. HasNames c.in_ok-tables.tables.value.names.old.entries (records_within apex rs)) c.as_slice.ensures.value c.in_ok-tables.ensures.old) c.in_ok-tables.ensures.new (λ name. c.put_names-changed.ensures.counts name ∙ (λ i. count_at (c.in_ok-reserve.ensures.names i) name + count_at (names_are i).new.entries name - count_at (names_are i).old.entries name)) name
          ∙ ap (λ rs. count_within rs name) (sym records_are);
      lent = c.self.invariant.lent;
      last = subst (λ n. c.self.inside.next + n ≤ 2 ^ 52 + 1) (sym count_is) c.in_ok-tables.ensures.last;
    }

pub returns : goal.returns
returns c =
    let apex = c.args.apex.now in
    let old = c.self.inside.records.records in
    let text = c.args.text.now in
    let new = records_outside apex old ++ text in
    let loaded = c.in_ok-tables.tables.value in
    let taken : (key : Key) → content_of c.deref_mut.result.now.sets key ≡ content_loaded c.self.inside.sets old (records_outside apex old ++ text) text c.self.inside.next key = subst (λ rs. (key : Key) → content_of c.deref_mut.result.now.sets key ≡ content_loaded c.self.inside.sets rs (records_outside apex rs ++ text) text c.self.inside.next key) c.as_slice.ensures.value (λ key. (λ i. content_of (c.deref_mut.ensures.value i).sets key) ∙ c.in_ok-tables.ensures.sets key) in
    let is = zone-replacement apex old text c.self.inside.next c.self.inside.sets c.deref_mut.result.now.sets c.replace_within.new.self c.requires.within c.self.invariant.has_sets taken c.in_ok-replace_within.ensures.replaced in
    let records_are : c.replace_within-2.new.self.records ≡ records_outside apex old ++ text = c.replace_within-2.ensures ∙ (λ i. records_outside apex ((c.in_ok-reserve.ensures.records ∙ c.as_slice.follows.holds-at-none) i) ++ c.in_ok-copies.ensures i) in
    let keys_are = c.in_ok-tables.ensures.keys ∙ (λ i. changed_sets (c.as_slice.ensures.value i) (records_outside apex (c.as_slice.ensures.value i) ++ text) ++ existence_changed c.self.inside.names.entries loaded.names.old.entries loaded.names.new.entries (existing_names (records_within apex (c.as_slice.ensures.value i))) (existing_names text)) ∙ ap (λ keys. changed_sets old new ++ keys) (existence-keys apex old text c.self.inside.names.entries loaded.names.old.entries loaded.names.new.entries c.self.invariant.has_names (subst (λ rs. HasNames loaded.names.old.entries (records_within apex rs)) c.as_slice.ensures.value c.in_ok-tables.ensures.old) c.in_ok-tables.ensures.new) in
    let names_are : c.into_inner-sets.result.names ≡ c.in_ok-tables.tables.value.names = (λ i. (c.into_inner-sets.ensures i).names) ∙ (λ i. (c.deref_mut.ensures.value i).names) in
    let changed_is : c.put_names-changed.result ≡ loaded.names.changed = c.put_names-changed.ensures.changed ∙ (λ i. (names_are i).changed) in
    let count_is : c.into_inner-sets.result.count ≡ loaded.count = (λ i. (c.into_inner-sets.ensures i).count) ∙ (λ i. (c.deref_mut.ensures.value i).count) in
    rw (← c.self.view_is) (replaced (λ name. is_within name apex) old new text c.replace_within-2.new.self.records c.self.inside.next _ c.into_inner-sets.result.count c.self.inside.sets c.deref_mut.result.now.sets c.replace_within.new.self c.put_names-changed.result is records_are ((λ i. (changed_is i).keys) ∙ keys_are) ((λ i. (changed_is i).sets) ∙ c.in_ok-tables.ensures.counted ∙ (λ i. changed_count (c.as_slice.ensures.value i) (records_outside apex (c.as_slice.ensures.value i) ++ text))) (count_is ∙ c.in_ok-tables.ensures.count ∙ (λ i. length (numbered_keys (c.as_slice.ensures.value i) (records_outside apex (c.as_slice.ensures.value i) ++ text)))) refl (subst (λ n. c.self.inside.next + n ≤ 2 ^ 52 + 1) (sym count_is) c.in_ok-tables.ensures.last))

pub returns-in_err-copies : goal.returns-in_err-copies
returns-in_err-copies c =
    let p = err_from_is_err_and c.from_residual-in_err-copies.result c.from_residual-in_err-copies.ensures.1 in
    rw (p.1, p.2, ← c.self.view_is) (refused (records_outside c.args.apex.now c.self.inside.records.records ++ c.args.text.now) _ _ Memory (λ some. absurd (some refl)) (λ i. record { records = (c.in_ok-reserve.ensures.records ∙ c.as_slice.follows.holds-at-none) i; numbers = numbers_of c.self.inside.sets; next = c.self.inside.next }))

pub returns-in_err-reserve : goal.returns-in_err-reserve
returns-in_err-reserve c =
    let p = err_from_is_err_and c.from_residual-in_err-reserve.result c.from_residual-in_err-reserve.ensures.1 in
    rw (p.1, p.2, ← c.self.view_is) (refused (records_outside c.args.apex.now c.self.inside.records.records ++ c.args.text.now) _ _ Memory (λ some. absurd (some refl)) (λ i. record { records = (c.in_err-reserve.ensures.records ∙ c.as_slice.follows.holds-at-none) i; numbers = numbers_of c.self.inside.sets; next = c.self.inside.next }))

pub returns-in_err-replace_within : goal.returns-in_err-replace_within
returns-in_err-replace_within c =
    let p = err_from_is_err_and c.from_residual-in_err-replace_within.result c.from_residual-in_err-replace_within.ensures.1 in
    rw (p.1, p.2, ← c.self.view_is) (refused (records_outside c.args.apex.now c.self.inside.records.records ++ c.args.text.now) _ _ Memory (λ some. absurd (some refl)) (λ i. record { records = (c.in_ok-reserve.ensures.records ∙ c.as_slice.follows.holds-at-none) i; numbers = numbers_of (c.in_err-replace_within.ensures.unchanged i); next = c.self.inside.next }))

pub invariant_of-self-in_err-replace_within : goal.invariant_of-self-in_err-replace_within
invariant_of-self-in_err-replace_within c =
    let records : c.reserve.new.records.records ≡ c.self.inside.records.records = c.in_ok-reserve.ensures.records ∙ c.as_slice.follows.holds-at-none in
    record {
      has_sets = λ key. ap (λ (sets : OwnerTable). (content_of sets key).values) c.in_err-replace_within.ensures.unchanged ∙ c.self.invariant.has_sets key ∙ ap (λ rs. data_of rs key) (sym records);
      has_bare = λ name. ap (list_any (same_name name)) c.in_ok-reserve.ensures.bare ∙ c.self.invariant.has_bare name ∙ ap (list_any (is_bare_at name)) (sym records);
      has_names = λ name. ap (λ (es : NameTable). count_at es name) c.in_ok-reserve.ensures.names ∙ c.self.invariant.has_names name ∙ ap (λ rs. count_within rs name) (sym records);
      lent = c.self.invariant.lent;
      last = c.self.invariant.last;
    }
