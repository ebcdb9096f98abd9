use Rattle.std.proofs.Common.{◌∷◌, [], ◌++◌, List, take, map, sym, ap, ◌∙◌}
use Rattle.std.proofs.lemmas.List.{take_more}
use Rattle.sipl_names.specs.Labels.{Labels, is_within}
use Rattle.sipl_records.specs.declared.record.Record.{Record}
use Rattle.sipl_zonestore.specs.Store.{records_within}
use Rattle.sipl_archive.specs.Sorting.{with_record}
use Rattle.sipl_archive.proofs.Sorting.{same_count, within_more}
use Rattle.sipl_archive.proofs.zones.sort_records.Goals as goal

pub sort_record-requires-clause-len : goal.sort_record-requires-clause-len
sort_record-requires-clause-len c =
    same_count (λ list. map (λ r. r.now) list.items) (λ (apex : Labels). records_within apex (take c.loop-record.record-index c.args.records.now)) c.loop-record.lists.items c.args.apexes.now.keys c.loop-record.invariant

pub loop-record-preserved : goal.loop-record-preserved
loop-record-preserved c =
    let keys = c.args.apexes.now.keys in
    let records = c.args.records.now in
    let i = c.loop-record.record-index in
    let r = c.record-item.result in
    c.in_ok-sort_record.ensures
    ∙ ap (with_record keys (is_within r.owner) r) c.loop-record.invariant
    ∙ within_more keys (take i records) r
    ∙ ap (λ (some : List Record). map (λ (apex : Labels). records_within apex some) keys)
    (ap (λ (x : Record). take i records ++ x ∷ []) c.record-item.is ∙ sym (take_more records i r c.loop-record-test.true))
