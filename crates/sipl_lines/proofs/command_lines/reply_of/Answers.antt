use Rattle.std.proofs.Common.{◌+◌, ◌-◌, ◌∙◌, Some, List, ℕ, drop, length, sym, ap, arith, length-drop}
use Rattle.std.proofs.lemmas.List.{drop-drop, take_rest}
use Rattle.sipl_lines.proofs.CommandLines.{reply_ended, reply_goes_on}
use Rattle.sipl_lines.proofs.command_lines.reply_of.Goals as goal

pub returns-then-is_end : goal.returns-then-is_end
returns-then-is_end c =
    let text = c.args.text.now in
    let len = c.loop.len in
    let n = c.in_ok-len.field-0 in
    let found = rw (take_rest text len) at c.in_ok-len.ensures in
    let line = rw (take_rest text len) at c.split_line.ensures.line in (
      omega (arith, found.1, length-drop len text, c.loop.invariant.within),
      sym c.loop.invariant.same
          ∙ reply_ended (drop len text) (drop n (drop len text)) c.split_line.result.0.now (length text - c.loop.counter) (length text - (c.loop.counter + 1))
          (omega arith) found.2 line (sym c.is_end.ensures ∙ c.if-is_end.true)
          ∙ ap (λ (rest : List ℕ). Some rest) (drop-drop n len text),
    )

pub loop-preserved : goal.loop-preserved
loop-preserved c =
    let text = c.args.text.now in
    let len = c.loop.len in
    let n = c.in_ok-len.field-0 in
    let found = rw (take_rest text len) at c.in_ok-len.ensures in
    let line = rw (take_rest text len) at c.split_line.ensures.line in
    record {
      within = omega (arith, found.1, length-drop len text, c.loop.invariant.within);
      same = sym (reply_goes_on text c.split_line.result.0.now (length text - c.loop.counter) (length text - (c.loop.counter + 1)) len n
          (omega arith) found.2 line (sym c.is_end.ensures ∙ c.if-is_end.false)) ∙ c.loop.invariant.same;
    }
