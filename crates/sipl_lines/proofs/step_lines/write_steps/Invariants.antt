use Rattle.std.proofs.Common.{◌≡◌, ◌+◌, ◌-◌, ◌*◌, ◌≤◌, ◌++◌, drop, length, vec_len, vec_capacity}
use Rattle.sipl_lines.specs.Calls.{steps_text}
use Rattle.sipl_lines.proofs.step_lines.write_steps.Given as goal

-- the lines so far, and those of the steps left, are those of all, and there is space for these
abbrev pub invariant-loop-step : goal.invariant-loop-step
invariant-loop-step l =
    (l.out.items ++ steps_text l.failover (drop l.step-index l.steps) ≡ l.fn.out.items ++ steps_text l.failover l.steps)
    × (vec_len l.out + 128 * (length l.steps - l.step-index) ≤ vec_len l.fn.out + 128 * length l.steps)
    × (vec_capacity l.fn.out ≤ vec_capacity l.out)
