use Rattle.std.proofs.Common.{◌≡◌, ◌-◌, ◌^◌, min, length, take, drop}
use Rattle.sipl_names.specs.Labels.{wire_of, first_label_fault}
use Rattle.sipl_names.specs.LabelSlices.{octets_of}
use Rattle.sipl_names.proofs.wire.checked_wire_len.Given as goal

abbrev pub invariant-loop-label : goal.invariant-loop-label
invariant-loop-label l = record {
  first : first_label_fault (octets_of (drop l.label-index l.labels)) ≡ first_label_fault (octets_of l.labels);
  len : l.len ≡ min (length (wire_of (octets_of (take l.label-index l.labels)))) (2 ^ 64 - 1);
}
