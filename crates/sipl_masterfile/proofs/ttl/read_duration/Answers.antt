use Rattle.std.proofs.Common.{sym}
use Rattle.sipl_masterfile.proofs.Durations.{sum_over_limit, begins_with_duration}
use Rattle.sipl_masterfile.proofs.ttl.read_duration.Goals as goal

pub returns-in_err-number-clause-refused : goal.returns-in_err-number-clause-refused
returns-in_err-number-clause-refused c =
    rw c.from_residual-in_err-number.ensures (sum_over_limit c.args.text.now c.in_ok-digits.digits.now c.in_ok-digits.rest.now c.in_ok-digits.unit c.in_ok-digits.ensures.split c.in_ok-digits.ensures.digits (sym c.in_err-number.ensures))

pub returns-clause-read : goal.returns-clause-read
returns-clause-read c =
    begins_with_duration c.args.text.now c.in_ok-digits.digits.now c.in_ok-digits.rest.now c.in_ok-digits.unit c.in_ok-number.number c.in_ok-unit_of.field-0 c.in_ok-digits.ensures.split c.in_ok-digits.ensures.shorter (sym c.in_ok-number.ensures) (sym c.in_ok-unit_of.ensures.value) c.in_ok-unit_of.ensures.bounded.1
