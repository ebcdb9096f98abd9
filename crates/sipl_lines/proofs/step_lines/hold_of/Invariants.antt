use Rattle.std.proofs.Common.{◌≡◌, drop}
use Rattle.sipl_lines.specs.Calls.{hold_in}
use Rattle.sipl_lines.proofs.step_lines.hold_of.Given as goal

-- the steps so far have no hold
abbrev pub invariant-loop-step : goal.invariant-loop-step
invariant-loop-step l = hold_in (drop l.step-index l.steps) ≡ hold_in l.steps
