use Rattle.std.proofs.Common.{◌≡◌, length}
use Rattle.sipl_names.specs.Labels.{is_within}
use Rattle.sipl_names.specs.Wire.{IsWire, labels_of_wire}
use Rattle.sipl_names.proofs.name.Name.is_within.Given as goal

abbrev pub invariant-loop-tail : goal.invariant-loop-tail
invariant-loop-tail l = record {
  wire : IsWire l.rest;
  within : is_within l.self l.apex ≡ is_within (labels_of_wire l.rest) l.apex;
}

abbrev pub decreases-loop-tail : goal.decreases-loop-tail
decreases-loop-tail l = length l.rest
