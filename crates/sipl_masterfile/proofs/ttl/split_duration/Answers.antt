use Rattle.sipl_masterfile.proofs.Durations.{split_at_unit, digits_before_unit, no_unit}
use Rattle.sipl_masterfile.proofs.ttl.split_duration.Goals as goal

pub returns-in_err-end-clause-none : goal.returns-in_err-end-clause-none
returns-in_err-end-clause-none c =
    rw c.from_residual.ensures (no_unit c.args.text.now c.requires c.in_err-end.ensures)

pub returns-clause-split : goal.returns-clause-split
returns-clause-split c = split_at_unit c.args.text.now c.in_ok-end.end c.in_ok-end.ensures

pub returns-clause-digits : goal.returns-clause-digits
returns-clause-digits c = digits_before_unit c.args.text.now c.in_ok-end.end c.in_ok-end.ensures
