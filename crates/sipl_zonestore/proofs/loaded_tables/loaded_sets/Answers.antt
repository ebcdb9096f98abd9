use Rattle.std.proofs.Common.{◌++◌, ap, ◌∙◌, length}
use Rattle.std.specs.List.{filter}
use Rattle.std.proofs.lemmas.Result.{err_from_is_err_and}
use Rattle.sipl_zonestore.specs.SetTable.{has_set, numbered_content}
use Rattle.sipl_zonestore.specs.Store.{records_outside}
use Rattle.sipl_zonestore.proofs.ChangedKeys.{changed-no_existence, changed_sets-once}
use Rattle.sipl_zonestore.proofs.Recorded.{counted-replace, refused-replace}
use Rattle.sipl_zonestore.proofs.Replacing.{loaded-content}
use Rattle.sipl_zonestore.proofs.loaded_tables.loaded_sets.Goals as goal

pub number_sets-requires-clause-distinct : goal.number_sets-requires-clause-distinct
number_sets-requires-clause-distinct c =
    rw (c.deref-2.ensures.value, c.in_ok-keys.ensures) (changed_sets-once c.args.records.now (records_outside c.args.apex.now c.args.records.now ++ c.args.text.now))

pub number_sets-requires-clause-of_records : goal.number_sets-requires-clause-of_records
number_sets-requires-clause-of_records c =
    rw (c.deref-2.ensures.value, c.in_ok-keys.ensures) (changed-no_existence c.args.records.now (records_outside c.args.apex.now c.args.records.now ++ c.args.text.now))

pub returns-in_err-check_numbers : goal.returns-in_err-check_numbers
returns-in_err-check_numbers c =
    let p = err_from_is_err_and c.from_residual-in_err-check_numbers.result c.from_residual-in_err-check_numbers.ensures.1 in
    rw (p.1, p.2) record { sets = tt; count = tt; last = tt; keys = tt; refused = λ some. refused-replace c.args.apex.now c.args.records.now c.args.text.now c.args.next c.count_numbered-count.result c.args.old.now c.in_ok-sets.sets c.in_ok-keys.keys.items c.in_err-check_numbers.field-0.0 c.requires.within c.in_ok-sets.ensures c.in_ok-keys.ensures (c.count_numbered-count.ensures ∙ ap (λ keys. length (filter (has_set c.in_ok-sets.sets) keys)) c.deref.ensures.value) c.in_err-check_numbers.ensures.0 c.in_err-check_numbers.ensures.1 }

pub returns-clause-sets : goal.returns-clause-sets
returns-clause-sets c =
    loaded-content c.args.apex.now c.args.records.now c.args.text.now c.args.next c.args.old.now c.in_ok-sets.sets c.number_sets.new.sets c.in_ok-keys.keys.items c.requires.within c.in_ok-sets.ensures c.in_ok-keys.ensures (λ key. c.number_sets.ensures key ∙ ap (λ keys. numbered_content c.in_ok-sets.sets keys c.args.next key) c.deref-2.ensures.value)

pub returns-clause-count : goal.returns-clause-count
returns-clause-count c =
    counted-replace c.args.apex.now c.args.records.now c.args.text.now c.count_numbered-count.result c.args.old.now c.in_ok-sets.sets c.in_ok-keys.keys.items c.requires.within c.in_ok-sets.ensures c.in_ok-keys.ensures (c.count_numbered-count.ensures ∙ ap (λ keys. length (filter (has_set c.in_ok-sets.sets) keys)) c.deref.ensures.value)
