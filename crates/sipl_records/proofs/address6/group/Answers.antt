use Rattle.std.proofs.Common.{arith}
use Rattle.sipl_records.proofs.Ipv6Groups.{read_hex_more, hex_below, hex_group_of-read, some_from_test}
use Rattle.sipl_records.proofs.address6.group.Goals as goal

pub overflow_mul-value : goal.overflow_mul-value
overflow_mul-value c =
    let below = hex_below c.loop-digit.digit-index 3 c.loop-digit.value c.loop-digit.invariant.below (omega arith) in
    omega arith

pub overflow_add-value : goal.overflow_add-value
overflow_add-value c =
    let below = hex_below c.loop-digit.digit-index 3 c.loop-digit.value c.loop-digit.invariant.below (omega arith) in
    omega (arith, c.in_ok-value.ensures.value.0, c.in_ok-value.ensures.value.1)

pub loop-digit-preserved : goal.loop-digit-preserved
loop-digit-preserved c =
    read_hex_more c.args.digits.now c.loop-digit.digit-index c.loop-digit.value c.from.result c.in_ok-value.field-0 c.loop-digit.invariant c.loop-digit-test.true c.from.ensures c.in_ok-value.ensures.value.0 c.in_ok-value.ensures.value.1

pub returns : goal.returns
returns c =
    hex_group_of-read c.args.digits.now c.loop-digit.digit-index c.loop-digit.value c.loop-digit.invariant (omega arith) (some_from_test c.args.digits.now c.if-is_empty.ensures) c.if-digits-gt4.false

pub overflow_cast-result : goal.overflow_cast-result
overflow_cast-result c =
    let below = hex_below c.loop-digit.digit-index 4 c.loop-digit.value c.loop-digit.invariant.below (omega arith) in
    omega arith
