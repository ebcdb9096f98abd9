use Rattle.std.proofs.Common.{◌++◌, ap, sym, ◌∙◌, append-nil}
use Rattle.sipl_zonestore.specs.Changes.{changed_among}
use Rattle.sipl_zonestore.specs.Store.{records_within}
use Rattle.sipl_zonestore.specs.SetTable.{added_in}
use Rattle.sipl_zonestore.proofs.Scans.{step-added}
use Rattle.sipl_zonestore.proofs.compare.push_added.Goals as goal

pub loop-record-init : goal.loop-record-init
loop-record-init c = λ apex records has all start.
    start ∙ ap (changed_among records c.args.text.now) (sym (append-nil (records_within apex records)))

pub loop-record-preserved : goal.loop-record-preserved
loop-record-preserved c = λ apex records has all start.
    c.in_ok-push_if_added.ensures
    ∙ ap (λ keys. keys ++ added_in c.args.old.now c.args.new.now c.record-item.result) (c.loop-record.invariant apex records has all start)
    ∙ step-added records c.args.text.now c.args.old.now c.args.new.now apex c.loop-record.record-index c.record-item.result c.requires.distinct has c.requires.sets all c.loop-record-test.true c.record-item.is
