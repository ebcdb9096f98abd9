use Rattle.std.proofs.Common.{◌≡◌, ◌++◌, length, vec_capacity}
use Rattle.std.specs.List.{flat_map}
use Rattle.sipl_names.specs.NamePrint.{printed_label}
use Rattle.sipl_names.specs.Wire.{IsWire, labels_of_wire}
use Rattle.sipl_names.proofs.print.write_text.Given as goal

abbrev pub invariant-loop-label : goal.invariant-loop-label
invariant-loop-label l = record {
  wire : IsWire l.rest;
  printed : l.out.items ++ flat_map printed_label (labels_of_wire l.rest) ≡ l.fn.out.items ++ flat_map printed_label (labels_of_wire l.wire);
  capacity : vec_capacity l.out ≡ vec_capacity l.fn.out;
}

abbrev pub decreases-loop-label : goal.decreases-loop-label
decreases-loop-label l = length l.rest
