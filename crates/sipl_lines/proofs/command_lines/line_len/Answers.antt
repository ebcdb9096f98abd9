use Rattle.std.proofs.Common.{get_or, add-one, eq-eqb, arith}
use Rattle.std.proofs.lemmas.Bool.{eqb-true}
use Rattle.sipl_lines.proofs.CommandLines.{line_found, line_missing}
use Rattle.sipl_lines.proofs.command_lines.line_len.Goals as goal

pub returns-in_err-memchr : goal.returns-in_err-memchr
returns-in_err-memchr c =
    rw c.from_residual.ensures
    (line_missing c.args.text.now (λ i below lf. c.in_err-memchr.ensures i (omega arith) below (eq-eqb (get_or c.args.text.now i 0) 10 lf))).1

pub returns : goal.returns
returns c =
    let text = c.args.text.now in
    let end = c.in_ok-memchr.field-0 in
    let first = c.in_ok-memchr.ensures in
    let found = line_found text end first.0.high (λ i below lf. first.0.before i (omega arith) below (eq-eqb (get_or text i 0) 10 lf)) (eqb-true (get_or text end 0) 10 first.1) in
    (omega arith, omega (arith, first.0.high), rw add-one found.1)
