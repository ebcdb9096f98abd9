use Rattle.std.proofs.Common.{arith, ◌∙◌}
use Rattle.sipl_records.proofs.Public.{same_record_is}
use Rattle.sipl_zonestore.proofs.DifferingRecords.{at-is}
use Rattle.sipl_zonestore.proofs.differences.is_at.Goals as goal

pub returns-then-place-text : goal.returns-then-place-text
returns-then-place-text c =
    at-is c.eq.result c.args.text.now c.args.place c.index-text-place.result c.args.sought.now (omega (arith, c.if-place-text.true)) c.index-text-place.is (c.eq.ensures ∙ same_record_is c.index-text-place.result c.args.sought.now)
