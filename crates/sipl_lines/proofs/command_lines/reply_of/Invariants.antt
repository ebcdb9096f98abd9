use Rattle.std.proofs.Common.{◌≡◌, ◌≤◌, ◌-◌, drop, length}
use Rattle.sipl_lines.specs.CommandLines.{after_reply, after_reply_within}
use Rattle.sipl_lines.proofs.command_lines.reply_of.Given as goal

-- what is after the reply, of which so many lines may be left
abbrev pub invariant-loop : goal.invariant-loop
invariant-loop l =
    record {
      within : l.len ≤ length l.text;
      same : after_reply_within (length l.text - l.counter) (drop l.len l.text) ≡ after_reply l.text;
    }
