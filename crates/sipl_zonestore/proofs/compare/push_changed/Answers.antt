use Rattle.std.proofs.Common.{◌≡◌, [], ◌++◌, true, false, ap, sym, ◌∙◌}
use Rattle.sipl_names.specs.Labels.{is_within}
use Rattle.sipl_zonestore.specs.Changes.{changed_among}
use Rattle.sipl_zonestore.specs.SetTable.{changed_in}
use Rattle.sipl_zonestore.proofs.ChangedKeys.{within-same}
use Rattle.sipl_zonestore.proofs.Scans.{step-changed}
use Rattle.sipl_zonestore.proofs.compare.push_changed.Goals as goal
use Rattle.sipl_zonestore.proofs.compare.push_changed.Goals.{then-is_within+in_ok-push_if_changed, else-is_within}

pub loop-record-preserved : goal.loop-record-preserved
loop-record-preserved c = λ text has' start. elim c.if-is_within.branch [
  | then-is_within+in_ok-push_if_changed w ↦
      let inside : is_within c.record-item.result.owner c.args.apex.now ≡ true = sym c.is_within.ensures.value ∙ w.if-is_within.true in
      ap (λ v. v.items) w.keys-is
      ∙ w.in_ok-push_if_changed.ensures
      ∙ ap (λ keys. keys ++ changed_in c.args.old.now c.args.new.now c.record-item.result) (c.loop-record.invariant text has' start)
      ∙ step-changed c.args.records.now text c.args.old.now c.args.new.now c.args.apex.now c.loop-record.record-index c.record-item.result c.requires.distinct c.requires.sets has' c.loop-record-test.true c.record-item.is inside
  | else-is_within w ↦
      let outside : is_within c.record-item.result.owner c.args.apex.now ≡ false = sym c.is_within.ensures.value ∙ w.if-is_within.false in
      ap (λ v. v.items) w.keys-is
      ∙ c.loop-record.invariant text has' start
      ∙ ap (changed_among c.args.records.now text) (sym (within-same c.args.apex.now [] c.args.records.now c.loop-record.record-index c.record-item.result c.loop-record-test.true c.record-item.is outside))
]
