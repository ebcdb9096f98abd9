use Rattle.std.proofs.Common.{◌≡◌, ◌+◌, ◌-◌, ◌∙◌, None, drop, sym, arith, length-drop}
use Rattle.std.proofs.lemmas.List.{take_rest}
use Rattle.sipl_lines.specs.CommandLines.{after_line}
use Rattle.sipl_lines.proofs.CommandLines.{no_line, one_line}
use Rattle.sipl_lines.proofs.command_lines.item_of.Goals as goal

pub returns-in_err-len-2-clause-octets : goal.returns-in_err-len-2-clause-octets
returns-in_err-len-2-clause-octets c =
    let text = c.args.text.now in
    let left = c.taken_by-count.result - c.loop.counter in
    let none : after_line (drop c.loop.len text) ≡ None = rw take_rest at c.in_err-len-2.ensures in
    rw c.from_residual-in_err-len-2.ensures (sym c.loop.invariant.same ∙ no_line text left (left - 1) c.loop.len (omega arith) none)

pub loop-preserved : goal.loop-preserved
loop-preserved c =
    let text = c.args.text.now in
    let left = c.taken_by-count.result - c.loop.counter in
    let n = c.in_ok-len-2.field-0 in
    let found = rw (take_rest text c.loop.len) at c.in_ok-len-2.ensures in
    record {
      some = omega (arith, c.loop.invariant.some);
      within = omega (arith, found.1, length-drop c.loop.len text, c.loop.invariant.within);
      same = sym (one_line text left (c.taken_by-count.result - (c.loop.counter + 1)) c.loop.len n (omega arith) found.2) ∙ c.loop.invariant.same;
    }
