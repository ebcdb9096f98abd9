use Rattle.std.proofs.Common.{◌≡◌, length}
use Rattle.std.specs.Option.{option_copied}
use Rattle.sipl_names.specs.Labels.{top_label_of}
use Rattle.sipl_names.specs.Wire.{IsWire, labels_of_wire}
use Rattle.sipl_names.proofs.Within.{top_label_or}
use Rattle.sipl_names.proofs.name.Name.top_label.Given as goal

abbrev pub invariant-loop-label : goal.invariant-loop-label
invariant-loop-label l = record {
  wire : IsWire l.rest;
  top : top_label_of l.self ≡ top_label_or (option_copied l.top) (labels_of_wire l.rest);
}

abbrev pub decreases-loop-label : goal.decreases-loop-label
decreases-loop-label l = length l.rest
