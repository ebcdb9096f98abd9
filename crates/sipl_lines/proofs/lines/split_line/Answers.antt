use Rattle.std.proofs.Common.{◌+◌, ◌<◌, take, length, get_or, sym, subst, eq-eqb, arith}
use Rattle.std.proofs.lemmas.List.{take_rest}
use Rattle.std.proofs.lemmas.Bool.{eqb-true}
use Rattle.sipl_lines.specs.Machine.{EndsLine}
use Rattle.sipl_lines.proofs.Cutting.{passed_to, passed_before, passed_found, passed_all}
use Rattle.sipl_lines.proofs.lines.split_line.Goals as goal

pub returns-in_err-end : goal.returns-in_err-end
returns-in_err-end c =
    let chunk = c.args.chunk.now in
    rw c.from_residual.ensures
    (passed_all chunk (length chunk) (omega arith)
    (passed_to chunk (length chunk) (omega arith) (λ i below end. c.in_err-end.ensures i (omega arith) below (eq-eqb (get_or chunk i 0) 10 end))))

pub returns : goal.returns
returns c =
    let chunk = c.args.chunk.now in
    let end = c.in_ok-end.end in
    let first = c.in_ok-end.ensures in
    let within : end < length chunk = first.0.high in
    subst (λ tail. EndsLine chunk (take end chunk) tail) (sym (take_rest chunk (end + 1)))
    (passed_found chunk end within (eqb-true (get_or chunk end 0) 10 first.1)
    (passed_before chunk end (omega arith) (λ i below lf. first.0.before i (omega arith) below (eq-eqb (get_or chunk i 0) 10 lf))))
