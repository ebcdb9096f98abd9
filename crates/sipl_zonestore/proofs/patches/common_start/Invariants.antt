use Rattle.std.proofs.Common.{◌≡◌, ◌≤◌, ◌-◌, length, take}
use Rattle.sipl_zonestore.proofs.patches.common_start.Given as goal

abbrev pub invariant-loop-count : goal.invariant-loop-count
invariant-loop-count l =
    record {
      first : l.count ≤ length l.a;
      second : l.count ≤ length l.b;
      same : take l.count l.a ≡ take l.count l.b;
    }

abbrev pub decreases-loop-count : goal.decreases-loop-count
decreases-loop-count l = length l.a - l.count
