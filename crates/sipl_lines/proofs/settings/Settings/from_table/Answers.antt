use Rattle.sipl_lines.proofs.InOrder.{rest_in_order, whole-allowed, whole-refused}
use Rattle.sipl_lines.proofs.settings.Settings.from_table.Goals as goal

pub returns-in-Err-clause-refused : goal.returns-in-Err-clause-refused
returns-in-Err-clause-refused c =
    let refused = whole-refused _ _ _ _ _ _ _ c.in-Some.ensures.steps c.as_str.ensures.value c.loop-key.invariant.in_order c.loop-key.invariant.given c.in-Err.refusal c.in-Err.ensures.set in
    rw c.at.ensures refused

pub loop-key-preserved : goal.loop-key-preserved
loop-key-preserved c = record {
  given = whole-allowed _ _ _ _ _ _ _ c.in-Some.ensures.steps c.as_str.ensures.value c.loop-key.invariant.in_order c.loop-key.invariant.given c.set.new.self c.in_default.ensures.set.0 c.in_default.ensures.set.1;
  limits = c.in_default.ensures.limits c.loop-key.invariant.limits;
  in_order = rest_in_order _ _ _ _ _ _ _ c.in-Some.ensures.steps c.as_str.ensures.value c.loop-key.invariant.in_order c.loop-key.invariant.given;
}
