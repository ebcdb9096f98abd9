use Rattle.std.proofs.Common.{◌≡◌, ◌++◌, arith, ap, sym, subst, ◌∙◌, length}
use Rattle.std.specs.List.{list_all, list_any}
use Rattle.std.proofs.lemmas.Result.{err_from_is_err_and}
use Rattle.indexmap.specs.IndexSet.{contains}
use Rattle.sipl_names.specs.Labels.{is_within, same_name}
use Rattle.sipl_records.specs.Sets.{data_of}
use Rattle.sipl_records.specs.declared.record.Key.{Key}
use Rattle.sipl_records.specs.declared.record.Record.{Record}
use Rattle.sipl_masterfile.specs.Zones.{has_repeats}
use Rattle.sipl_zonestore.specs.BareOwners.{is_bare_at}
use Rattle.sipl_zonestore.specs.Changes.{changed_count, changed_sets, existing_names}
use Rattle.sipl_zonestore.specs.Content.{Content, carried}
use Rattle.sipl_zonestore.specs.Differences.{records_of}
use Rattle.sipl_zonestore.specs.Loading.{content_loaded, existence_changed}
use Rattle.sipl_zonestore.specs.NameTable.{HasNames}
use Rattle.sipl_zonestore.specs.Numbers.{number_refusal, numbered_keys}
use Rattle.sipl_zonestore.specs.SetTable.{content_of}
use Rattle.sipl_zonestore.specs.Store.{records_outside, records_within}
use Rattle.sipl_zonestore.proofs.AncestorCounts.{count-limit}
use Rattle.sipl_zonestore.proofs.ChangedNames.{all-filter}
use Rattle.sipl_zonestore.proofs.Consistency.{repeats-filter}
use Rattle.sipl_zonestore.proofs.Parts.{part-counted, part-keys_changed, part-none, part-refused, part-sets_changed, part-taken, part-within}
use Rattle.sipl_zonestore.proofs.loaded_owners.loaded_owners.Goals as goal

pub loaded_tables-requires-clause-distinct : goal.loaded_tables-requires-clause-distinct
loaded_tables-requires-clause-distinct c =
    let q = contains same_name c.args.owners.now in
    let gone : c.deref-2.result.now ≡ records_of q c.args.records.now = c.deref-2.ensures.value ∙ c.in_ok-gone.ensures in
    ap has_repeats gone ∙ repeats-filter (λ r. q r.owner) c.args.records.now c.requires.distinct

pub loaded_tables-requires-clause-text_distinct : goal.loaded_tables-requires-clause-text_distinct
loaded_tables-requires-clause-text_distinct c =
    let q = contains same_name c.args.owners.now in
    let come : c.deref-3.result.now ≡ records_of q c.args.text.now = c.deref-3.ensures.value ∙ c.in_ok-come.ensures in
    ap has_repeats come ∙ repeats-filter (λ r. q r.owner) c.args.text.now c.requires.text_distinct

pub loaded_tables-requires-clause-within : goal.loaded_tables-requires-clause-within
loaded_tables-requires-clause-within c =
    let q = contains same_name c.args.owners.now in
    let come : c.deref-3.result.now ≡ records_of q c.args.text.now = c.deref-3.ensures.value ∙ c.in_ok-come.ensures in
    ap (list_all (λ (r : Record). is_within r.owner c.args.apex.now)) come ∙ all-filter (λ (r : Record). is_within r.owner c.args.apex.now) (λ r. q r.owner) c.args.text.now c.requires.within

pub loaded_tables-requires-clause-sets : goal.loaded_tables-requires-clause-sets
loaded_tables-requires-clause-sets c = λ key.
    ap (λ (content : Content). content.values) (c.in_ok-gone_sets.ensures key) ∙ ap (λ rs. data_of rs key) (c.deref.ensures.value ∙ sym c.deref-2.ensures.value)

pub returns-in_err-tables : goal.returns-in_err-tables
returns-in_err-tables c =
    let q = contains same_name c.args.owners.now in
    let gone : c.deref-2.result.now ≡ records_of q c.args.records.now = c.deref-2.ensures.value ∙ c.in_ok-gone.ensures in
    let come : c.deref-3.result.now ≡ records_of q c.args.text.now = c.deref-3.ensures.value ∙ c.in_ok-come.ensures in
    let p = err_from_is_err_and c.from_residual-in_err-tables.result c.from_residual-in_err-tables.ensures.1 in
    rw (p.1, p.2) record { sets = tt; none = tt; count = tt; last = tt; keys = tt; counted = tt; old = tt; new = tt; few = tt; bare = tt; refused = λ some. part-refused c.args.apex.now q c.args.records.now c.args.text.now c.args.next c.in_err-tables.field-0.0 c.requires.within c.requires.differ ((λ i. number_refusal (sym gone i) (records_outside c.args.apex.now (sym gone i) ++ sym come i) c.args.next) ∙ c.in_err-tables.ensures.refused some) }

pub returns-clause-sets : goal.returns-clause-sets
returns-clause-sets c =
    let q = contains same_name c.args.owners.now in
    let gone : c.deref-2.result.now ≡ records_of q c.args.records.now = c.deref-2.ensures.value ∙ c.in_ok-gone.ensures in
    let come : c.deref-3.result.now ≡ records_of q c.args.text.now = c.deref-3.ensures.value ∙ c.in_ok-come.ensures in
    let taken : (key : Key) → content_of c.in_ok-tables.tables.value.sets key ≡ content_loaded c.in_ok-gone_sets.gone_sets (records_of q c.args.records.now) (records_outside c.args.apex.now (records_of q c.args.records.now) ++ records_of q c.args.text.now) (records_of q c.args.text.now) c.args.next key = λ key. c.in_ok-tables.ensures.sets key ∙ (λ i. content_loaded c.in_ok-gone_sets.gone_sets (gone i) (records_outside c.args.apex.now (gone i) ++ come i) (come i) c.args.next key) in
    let made : (key : Key) → content_of c.in_ok-gone_sets.gone_sets key ≡ carried (content_of c.args.old.now key).number (data_of (records_of q c.args.records.now) key) = λ key. c.in_ok-gone_sets.ensures key ∙ ap (λ rs. carried (content_of c.args.old.now key).number (data_of rs key)) (c.deref.ensures.value ∙ c.in_ok-gone.ensures) in
    part-taken c.args.apex.now q c.args.records.now c.args.text.now c.args.next c.args.old.now c.in_ok-gone_sets.gone_sets c.in_ok-tables.tables.value.sets c.requires.within c.requires.differ c.requires.sets made taken

pub returns-clause-none : goal.returns-clause-none
returns-clause-none c =
    let q = contains same_name c.args.owners.now in
    let gone : c.deref-2.result.now ≡ records_of q c.args.records.now = c.deref-2.ensures.value ∙ c.in_ok-gone.ensures in
    let come : c.deref-3.result.now ≡ records_of q c.args.text.now = c.deref-3.ensures.value ∙ c.in_ok-come.ensures in
    let taken : (key : Key) → content_of c.in_ok-tables.tables.value.sets key ≡ content_loaded c.in_ok-gone_sets.gone_sets (records_of q c.args.records.now) (records_outside c.args.apex.now (records_of q c.args.records.now) ++ records_of q c.args.text.now) (records_of q c.args.text.now) c.args.next key = λ key. c.in_ok-tables.ensures.sets key ∙ (λ i. content_loaded c.in_ok-gone_sets.gone_sets (gone i) (records_outside c.args.apex.now (gone i) ++ come i) (come i) c.args.next key) in
    part-none c.args.apex.now q c.args.records.now c.args.text.now c.args.next c.in_ok-gone_sets.gone_sets c.in_ok-tables.tables.value.sets taken

pub returns-clause-count : goal.returns-clause-count
returns-clause-count c =
    let q = contains same_name c.args.owners.now in
    let gone : c.deref-2.result.now ≡ records_of q c.args.records.now = c.deref-2.ensures.value ∙ c.in_ok-gone.ensures in
    let come : c.deref-3.result.now ≡ records_of q c.args.text.now = c.deref-3.ensures.value ∙ c.in_ok-come.ensures in
    part-counted c.args.apex.now q c.args.records.now c.args.text.now c.in_ok-tables.tables.value.count c.requires.within c.requires.differ (c.in_ok-tables.ensures.count ∙ (λ i. length (numbered_keys (gone i) (records_outside c.args.apex.now (gone i) ++ come i))))

pub returns-clause-keys : goal.returns-clause-keys
returns-clause-keys c =
    let q = contains same_name c.args.owners.now in
    let gone : c.deref-2.result.now ≡ records_of q c.args.records.now = c.deref-2.ensures.value ∙ c.in_ok-gone.ensures in
    let come : c.deref-3.result.now ≡ records_of q c.args.text.now = c.deref-3.ensures.value ∙ c.in_ok-come.ensures in
    let names = c.in_ok-tables.tables.value.names in
    part-keys_changed c.args.apex.now q c.args.records.now c.args.text.now c.args.names.now.entries names.old.entries names.new.entries names.changed.keys c.requires.within c.requires.differ c.requires.names (subst (λ rs. HasNames names.old.entries (records_within c.args.apex.now rs)) gone c.in_ok-tables.ensures.old) (subst (HasNames names.new.entries) come c.in_ok-tables.ensures.new) (c.in_ok-tables.ensures.keys ∙ (λ i. changed_sets (gone i) (records_outside c.args.apex.now (gone i) ++ come i) ++ existence_changed c.args.names.now.entries names.old.entries names.new.entries (existing_names (records_within c.args.apex.now (gone i))) (existing_names (come i))))

pub returns-clause-counted : goal.returns-clause-counted
returns-clause-counted c =
    let q = contains same_name c.args.owners.now in
    let gone : c.deref-2.result.now ≡ records_of q c.args.records.now = c.deref-2.ensures.value ∙ c.in_ok-gone.ensures in
    let come : c.deref-3.result.now ≡ records_of q c.args.text.now = c.deref-3.ensures.value ∙ c.in_ok-come.ensures in
    part-sets_changed c.args.apex.now q c.args.records.now c.args.text.now c.in_ok-tables.tables.value.names.changed.sets c.requires.within c.requires.differ (c.in_ok-tables.ensures.counted ∙ (λ i. changed_count (gone i) (records_outside c.args.apex.now (gone i) ++ come i)))

pub returns-clause-old : goal.returns-clause-old
returns-clause-old c =
    let q = contains same_name c.args.owners.now in
    let gone : c.deref-2.result.now ≡ records_of q c.args.records.now = c.deref-2.ensures.value ∙ c.in_ok-gone.ensures in
    subst (HasNames c.in_ok-tables.tables.value.names.old.entries) (ap (records_within c.args.apex.now) gone ∙ part-within c.args.apex.now q c.args.records.now c.args.text.now c.requires.differ) c.in_ok-tables.ensures.old

pub returns-clause-new : goal.returns-clause-new
returns-clause-new c =
    let q = contains same_name c.args.owners.now in
    let come : c.deref-3.result.now ≡ records_of q c.args.text.now = c.deref-3.ensures.value ∙ c.in_ok-come.ensures in
    subst (HasNames c.in_ok-tables.tables.value.names.new.entries) come c.in_ok-tables.ensures.new

pub returns-clause-bare : goal.returns-clause-bare
returns-clause-bare c =
    let q = contains same_name c.args.owners.now in
    λ name. c.in_ok-tables.ensures.bare name ∙ ap (list_any (is_bare_at name)) (c.deref-3.ensures.value ∙ c.in_ok-come.ensures)

pub returns-clause-few : goal.returns-clause-few
returns-clause-few c = λ name.
    omega (arith, c.in_ok-tables.ensures.new name, count-limit c.deref-3.result.now name, ap length c.deref-3.ensures.value, c.in_ok-come.come.ok, c.in_ok-come.come.small)
