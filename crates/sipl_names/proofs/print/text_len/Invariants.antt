use Rattle.std.proofs.Common.{◌≡◌, ◌+◌, ◌≤◌, length}
use Rattle.std.specs.List.{flat_map}
use Rattle.sipl_names.specs.NamePrint.{printed_label}
use Rattle.sipl_names.specs.Wire.{IsWire, labels_of_wire}
use Rattle.sipl_names.proofs.print.text_len.Given as goal

abbrev pub invariant-loop-label : goal.invariant-loop-label
invariant-loop-label l = record {
  wire : IsWire l.rest;
  len : l.len + length (flat_map printed_label (labels_of_wire l.rest)) ≡ length (flat_map printed_label (labels_of_wire l.wire));
  shorter : length l.rest ≤ length l.wire;
}

abbrev pub decreases-loop-label : goal.decreases-loop-label
decreases-loop-label l = length l.rest
