use Rattle.std.proofs.Common.{◌-◌, ◌≤◌, List, drop, length}
use Rattle.sipl_names.specs.Labels.{Octets}
use Rattle.sipl_archive.specs.Commands.{Begins, HasNone}
use Rattle.sipl_archive.proofs.state.find_checkpoint.Given as goal

-- the octets so far are whole commands, and none of them is the checkpoint
abbrev pub invariant-loop-len : goal.invariant-loop-len
invariant-loop-len l =
    record {
      within : l.octets ≤ length l.text;
      commands : (commands : List Octets) × Begins commands l.text (drop l.octets l.text) × HasNone l.checkpoint commands;
    }

abbrev pub decreases-loop-len : goal.decreases-loop-len
decreases-loop-len l = length l.text - l.octets
