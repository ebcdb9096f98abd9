use Rattle.std.proofs.Common.{◌≡◌, ◌<◌, ◌≤◌, ◌-◌, drop, length}
use Rattle.sipl_lines.specs.CommandLines.{after_command, after_lines}
use Rattle.sipl_lines.proofs.command_lines.item_of.Given as goal

-- what is after the lines that are left to take
abbrev pub invariant-loop : goal.invariant-loop
invariant-loop l =
    record {
      some : 0 < l.len;
      within : l.len ≤ length l.text;
      same : after_lines (l.count - l.counter) (drop l.len l.text) ≡ after_command l.text;
    }
