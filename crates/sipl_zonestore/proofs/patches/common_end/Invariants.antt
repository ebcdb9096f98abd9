use Rattle.std.proofs.Common.{◌≡◌, ◌≤◌, ◌-◌, length, drop}
use Rattle.sipl_zonestore.proofs.patches.common_end.Given as goal

abbrev pub invariant-loop-count : goal.invariant-loop-count
invariant-loop-count l =
    record {
      first : l.count ≤ length l.a;
      second : l.count ≤ length l.b;
      same : drop (length l.a - l.count) l.a ≡ drop (length l.b - l.count) l.b;
    }

abbrev pub decreases-loop-count : goal.decreases-loop-count
decreases-loop-count l = length l.a - l.count
