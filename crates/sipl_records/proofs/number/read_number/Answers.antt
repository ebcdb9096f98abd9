use Rattle.std.proofs.Common.{get_or, sym, ◌∙◌, arith}
use Rattle.std.proofs.lemmas.Int.Digits.{digits_value_more}
use Rattle.std.proofs.lemmas.Str.{digit_value_digit}
use Rattle.sipl_records.proofs.Numbers.{number_of-no_digit, number_of-too_great, all_ascii_digits_more}
use Rattle.sipl_records.proofs.number.read_number.Goals as goal

pub returns-then-not-is_ascii_digit : goal.returns-then-not-is_ascii_digit
returns-then-not-is_ascii_digit c = sym (number_of-no_digit c.args.text.now c.loop-octet.octet-index _ c.loop-octet-test.true (sym c.if-not-is_ascii_digit.ensures.value))

pub returns-in_err-checked_mul : goal.returns-in_err-checked_mul
returns-in_err-checked_mul c = c.from_residual.ensures ∙ sym (number_of-too_great c.args.text.now c.loop-octet.octet-index c.loop-octet.value _ c.loop-octet-test.true c.loop-octet.invariant.so_far (omega (arith, c.in_err-checked_mul.ensures)))

pub returns-in_err-value : goal.returns-in_err-value
returns-in_err-value c =
    let digit = digit_value_digit (get_or c.args.text.now c.loop-octet.octet-index 0) (c.if-not-is_ascii_digit.ensures.cases) in
    c.from_residual-in_err-value.ensures ∙ sym (number_of-too_great c.args.text.now c.loop-octet.octet-index c.loop-octet.value _ c.loop-octet-test.true c.loop-octet.invariant.so_far (omega (arith, c.in_err-value.ensures, c.in_ok-checked_mul.ensures.1)))

pub returns-then-value-max : goal.returns-then-value-max
returns-then-value-max c =
    let digit = digit_value_digit (get_or c.args.text.now c.loop-octet.octet-index 0) (c.if-not-is_ascii_digit.ensures.cases) in
    sym (number_of-too_great c.args.text.now c.loop-octet.octet-index c.loop-octet.value _ c.loop-octet-test.true c.loop-octet.invariant.so_far (omega (arith, c.in_ok-value.ensures.1, c.in_ok-checked_mul.ensures.1)))

pub loop-octet-preserved : goal.loop-octet-preserved
loop-octet-preserved c =
    let digit = digit_value_digit (get_or c.args.text.now c.loop-octet.octet-index 0) (c.if-not-is_ascii_digit.ensures.cases) in
    let more = digits_value_more 10 c.args.text.now c.loop-octet.octet-index c.loop-octet-test.true in
    record {
      digits = all_ascii_digits_more c.args.text.now c.loop-octet.octet-index c.loop-octet-test.true c.loop-octet.invariant.digits (sym c.if-not-is_ascii_digit.ensures.value);
      so_far = omega (arith, c.in_ok-value.ensures.1, c.in_ok-checked_mul.ensures.1);
      within = omega arith;
    }
