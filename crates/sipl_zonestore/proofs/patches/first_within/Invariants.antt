use Rattle.std.proofs.Common.{◌≡◌, ◌≤◌, ◌-◌, false, length, take}
use Rattle.std.specs.List.{list_any}
use Rattle.sipl_names.specs.Labels.{is_within}
use Rattle.sipl_zonestore.proofs.patches.first_within.Given as goal

abbrev pub invariant-loop-place : goal.invariant-loop-place
invariant-loop-place l =
    record {
      limit : l.place ≤ length l.records;
      none : list_any (λ r. is_within r.owner l.apex) (take l.place l.records) ≡ false;
    }

abbrev pub decreases-loop-place : goal.decreases-loop-place
decreases-loop-place l = length l.records - l.place
