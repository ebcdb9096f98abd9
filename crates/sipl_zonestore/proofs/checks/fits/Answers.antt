use Rattle.std.proofs.Common.{◌-◌, length, sym, ◌∙◌, arith}
use Rattle.sipl_zonestore.proofs.Limits.{fits-all, kept-le, le-is}
use Rattle.sipl_zonestore.proofs.checks.fits.Goals as goal

pub overflow_sub-result : goal.overflow_sub-result
overflow_sub-result c = kept-le _ _ _ _ c.count_outside.ensures c.requires

pub returns-then-count-max_records : goal.returns-then-count-max_records
returns-then-count-max_records c =
    le-is c.args.count (c.args.max_records - length c.args.records.now) (omega (arith, c.if-count-max_records.true)) ∙ sym (fits-all c.args.apex.now c.args.records.now c.args.count c.args.max_records c.requires (omega (arith, c.if-count-max_records.true)))
