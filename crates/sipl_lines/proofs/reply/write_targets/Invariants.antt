use Rattle.std.proofs.Common.{◌≡◌, ◌+◌, ◌-◌, ◌*◌, ◌≤◌, ◌++◌, drop, length, vec_len, vec_capacity}
use Rattle.sipl_lines.specs.ReplyText.{target_lines}
use Rattle.sipl_lines.proofs.reply.write_targets.Given as goal

-- the lines so far, and those of the targets left, are those of all, and there is space for these
abbrev pub invariant-loop-target : goal.invariant-loop-target
invariant-loop-target l =
    (l.number ≡ l.target-index + 1)
    × (l.out.items ++ target_lines l.number (drop l.target-index l.targets) ≡ l.fn.out.items ++ target_lines 1 l.targets)
    × (vec_len l.out + 94 * (length l.targets - l.target-index) + 29 ≤ vec_capacity l.out)
    × (vec_capacity l.fn.out ≤ vec_capacity l.out)
