use Rattle.std.proofs.Common.{sym}
use Rattle.sipl_records.proofs.Groups.{group_of-other, read_more}
use Rattle.sipl_records.proofs.address4.group.Goals as goal

pub returns-then-not-is_ascii_digit : goal.returns-then-not-is_ascii_digit
returns-then-not-is_ascii_digit c =
    sym (group_of-other c.args.digits.now c.loop-digit.digit-index c.loop-digit-test.true (sym c.if-not-is_ascii_digit.ensures.value))

pub loop-digit-preserved : goal.loop-digit-preserved
loop-digit-preserved c =
    read_more c.args.digits.now c.loop-digit.digit-index c.loop-digit.value c.from.result c.loop-digit.invariant c.loop-digit-test.true (sym c.if-not-is_ascii_digit.ensures.value) c.from.ensures
