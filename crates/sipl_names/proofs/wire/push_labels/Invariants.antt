use Rattle.std.proofs.Common.{◌≡◌, ◌+◌, ◌≤◌, ◌++◌, length, take, drop, map, None}
use Rattle.std.specs.List.{AllByRecursion}
use Rattle.std.specs.Str.{str_to_ascii_lowercase}
use Rattle.sipl_names.specs.Labels.{wire_of, first_label_fault, IsLabel}
use Rattle.sipl_names.specs.LabelSlices.{octets_of}
use Rattle.smallvec.specs.SmallVec.{small_vec_len}
use Rattle.sipl_names.proofs.wire.push_labels.Given as goal

abbrev pub invariant-loop-label : goal.invariant-loop-label
invariant-loop-label l = record {
  faultless : first_label_fault (octets_of (drop l.label-index l.labels)) ≡ None;
  wires : l.wire.items ≡ l.fn.wire.items ++ wire_of (map str_to_ascii_lowercase (octets_of (take l.label-index l.labels)));
  each : AllByRecursion IsLabel (map str_to_ascii_lowercase (octets_of (take l.label-index l.labels)));
  reserved : small_vec_len l.wire + length (wire_of (octets_of (drop l.label-index l.labels))) ≤ l.wire.capacity;
}
