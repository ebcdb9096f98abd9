use Rattle.std.proofs.Common.{◌≡◌, ◌≤◌, ◌-◌, length, take}
use Rattle.indexmap.specs.IndexSet.{contains}
use Rattle.sipl_names.specs.Labels.{same_name}
use Rattle.sipl_zonestore.specs.Differences.{records_besides}
use Rattle.sipl_zonestore.proofs.differences.skip_owners.Given as goal

abbrev pub invariant-loop-place : goal.invariant-loop-place
invariant-loop-place l =
    record {
      place : l.place ≤ length l.text;
      same : records_besides (contains same_name l.owners) (take l.place l.text) ≡ records_besides (contains same_name l.owners) (take l.initial.place l.text);
    }

abbrev pub decreases-loop-place : goal.decreases-loop-place
decreases-loop-place l = length l.text - l.place
