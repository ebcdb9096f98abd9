use Rattle.std.proofs.Common.{◌≡◌, ◌-◌, ◌≤◌, [], length, take, map}
use Rattle.sipl_zonestore.specs.Store.{records_within}
use Rattle.sipl_archive.proofs.zones.push_lists.Given as goal

-- the first apexes have lists
abbrev pub invariant-loop-alloc : goal.invariant-loop-alloc
invariant-loop-alloc l =
    record {
      most : length l.lists.items ≤ length l.apexes;
      same : map (λ list. map (λ r. r.now) list.items) l.lists.items ≡ map (λ apex. records_within apex []) (take (length l.lists.items) l.apexes);
    }

abbrev pub decreases-loop-alloc : goal.decreases-loop-alloc
decreases-loop-alloc l = length l.apexes - length l.lists.items
