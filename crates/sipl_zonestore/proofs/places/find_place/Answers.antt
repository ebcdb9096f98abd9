use Rattle.std.proofs.Common.{sym, ◌∙◌}
use Rattle.sipl_zonestore.proofs.LiveRecords.{sought-next}
use Rattle.sipl_zonestore.proofs.places.find_place.Goals as goal

pub loop-place-preserved : goal.loop-place-preserved
loop-place-preserved c =
    sought-next c.args.sought.now c.args.records.now c.args.codes.now c.loop-place.place (sym c.is_at.ensures ∙ c.loop-place-test.true) c.loop-place.invariant
