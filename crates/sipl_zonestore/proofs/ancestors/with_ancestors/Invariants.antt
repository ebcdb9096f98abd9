use Rattle.std.proofs.Common.{◌≡◌, ◌++◌, length}
use Rattle.sipl_zonestore.specs.Changes.{with_ancestors}
use Rattle.sipl_zonestore.proofs.ancestors.with_ancestors.Given as goal

abbrev pub invariant-loop-alloc : goal.invariant-loop-alloc
invariant-loop-alloc l = l.names.items ++ with_ancestors l.rest ≡ with_ancestors l.name

abbrev pub decreases-loop-alloc : goal.decreases-loop-alloc
decreases-loop-alloc l = length l.rest
