use Rattle.std.proofs.Common.{◌≡◌, [], true, false, take, sym, ◌∙◌, arith}
use Rattle.indexmap.specs.IndexSet.{insert_all}
use Rattle.sipl_names.specs.Labels.{is_within, same_name}
use Rattle.sipl_zonestore.specs.Changes.{with_ancestors}
use Rattle.sipl_zonestore.specs.Store.{records_within}
use Rattle.sipl_zonestore.proofs.ChangedKeys.{within-more, within-same}
use Rattle.sipl_zonestore.proofs.NameTables.{count-taken, names-add, names-next}
use Rattle.sipl_zonestore.proofs.AncestorCounts.{count-owner}
use Rattle.sipl_zonestore.proofs.name_table.names_within.Goals as goal
use Rattle.sipl_zonestore.proofs.name_table.names_within.Goals.{then-is_within+in_ok-insert_owner, else-is_within}

pub insert_owner-requires : goal.insert_owner-requires
insert_owner-requires c = record {
  fits = λ name.
      let owner = count-owner (records_within c.args.apex.now (take c.loop-record.record-index c.args.records.now)) c.record-item.result name in
      let few = count-taken c.args.apex.now c.args.records.now c.loop-record.record-index c.record-item.result name (omega (arith, c.loop-record-test.true)) in
      omega (arith, c.loop-record.invariant.counts name, owner, few, c.loop-record-test.true, c.loop-record.auto.record-index-end);
}

pub loop-record-preserved : goal.loop-record-preserved
loop-record-preserved c =
    let at = c.loop-record in
    elim c.if-is_within.branch [
      | then-is_within+in_ok-insert_owner w ↦
          let inside : is_within c.record-item.result.owner c.args.apex.now ≡ true = sym c.is_within.ensures.value ∙ w.if-is_within.true in
          let step = within-more c.args.apex.now [] c.args.records.now at.record-index c.record-item.result c.loop-record-test.true c.record-item.is inside in
          rw (w.names-is, step) record {
            counts = names-add (records_within c.args.apex.now (take at.record-index c.args.records.now)) c.record-item.result at.names.entries w.insert_owner.new.names.entries at.invariant.counts w.in_ok-insert_owner.ensures.counts;
            keys = w.in_ok-insert_owner.ensures.keys ∙ (λ i. insert_all same_name (at.invariant.keys i) (with_ancestors c.record-item.result.owner)) ∙ names-next (records_within c.args.apex.now (take at.record-index c.args.records.now)) c.record-item.result;
          }
      | else-is_within w ↦
          let outside : is_within c.record-item.result.owner c.args.apex.now ≡ false = sym c.is_within.ensures.value ∙ w.if-is_within.false in
          let step = within-same c.args.apex.now [] c.args.records.now at.record-index c.record-item.result c.loop-record-test.true c.record-item.is outside in
          rw (w.names-is, step) at.invariant
    ]
