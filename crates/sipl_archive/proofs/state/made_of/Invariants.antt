use Rattle.std.proofs.Common.{◌≡◌, ◌-◌, ◌≤◌, false, List, None, drop, length}
use Rattle.sipl_names.specs.Labels.{Octets}
use Rattle.sipl_archive.specs.Restoring.{MakesAll, Remaining}
use Rattle.sipl_archive.proofs.state.made_of.Given as goal

-- the commands so far were made, by the replies so far
abbrev pub invariant-loop-len : goal.invariant-loop-len
invariant-loop-len l =
    record {
      within : l.made.octets ≤ length l.text;
      makes : (commands : List Octets) × MakesAll commands (record { text = l.text; replies = l.replies; checkpoint = None })
          (record { text = drop l.made.octets l.text; replies = l.rest; checkpoint = l.made.checkpoint });
      none : l.made.is_refused ≡ false;
    }

abbrev pub decreases-loop-len : goal.decreases-loop-len
decreases-loop-len l = length l.text - l.made.octets
