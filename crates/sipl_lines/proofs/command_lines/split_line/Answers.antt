use Rattle.std.proofs.Common.{[], ◌+◌, ◌∙◌, get_or, sym, ap, add-one, unwrap_or, eq-eqb, arith}
use Rattle.std.proofs.lemmas.List.{take_rest}
use Rattle.std.proofs.lemmas.Bool.{eqb-true}
use Rattle.sipl_lines.proofs.CommandLines.{line_found, line_missing}
use Rattle.sipl_lines.proofs.command_lines.split_line.Goals as goal

pub returns-in-Some-clause-line : goal.returns-in-Some-clause-line
returns-in-Some-clause-line c =
    let text = c.args.text.now in
    let first = c.in-Some.ensures in
    (line_found text c.in-Some.end first.0.high (λ i below lf. first.0.before i (omega arith) below (eq-eqb (get_or text i 0) 10 lf)) (eqb-true (get_or text c.in-Some.end 0) 10 first.1)).0

pub returns-in-Some-clause-rest : goal.returns-in-Some-clause-rest
returns-in-Some-clause-rest c =
    let text = c.args.text.now in
    let end = c.in-Some.end in
    let first = c.in-Some.ensures in
    take_rest text (end + 1) ∙ rw add-one (sym (ap (λ rest. unwrap_or rest [])
    (line_found text end first.0.high (λ i below lf. first.0.before i (omega arith) below (eq-eqb (get_or text i 0) 10 lf)) (eqb-true (get_or text end 0) 10 first.1)).1))

pub returns-in-None-clause-line : goal.returns-in-None-clause-line
returns-in-None-clause-line c =
    (line_missing c.args.text.now (λ i below lf. c.in-None.ensures i (omega arith) below (eq-eqb (get_or c.args.text.now i 0) 10 lf))).0

pub returns-in-None-clause-rest : goal.returns-in-None-clause-rest
returns-in-None-clause-rest c =
    sym (ap (λ rest. unwrap_or rest [])
    (line_missing c.args.text.now (λ i below lf. c.in-None.ensures i (omega arith) below (eq-eqb (get_or c.args.text.now i 0) 10 lf))).1)
