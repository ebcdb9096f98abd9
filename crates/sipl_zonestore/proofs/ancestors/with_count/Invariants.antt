use Rattle.std.proofs.Common.{◌≡◌, ◌++◌, true, length, nat_eq}
use Rattle.std.specs.List.{list_all}
use Rattle.sipl_zonestore.specs.Changes.{with_ancestors}
use Rattle.sipl_zonestore.specs.NameTable.{count_at}
use Rattle.sipl_zonestore.proofs.ancestors.with_count.Given as goal

abbrev pub invariant-loop-alloc : goal.invariant-loop-alloc
invariant-loop-alloc l =
    record {
      whole : l.counted.items ++ with_ancestors l.rest ≡ with_ancestors l.name;
      counted : list_all (λ other. nat_eq (count_at l.names.entries other) l.count) l.counted.items ≡ true;
    }

abbrev pub decreases-loop-alloc : goal.decreases-loop-alloc
decreases-loop-alloc l = length l.rest
