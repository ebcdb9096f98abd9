use Rattle.std.proofs.Common.{◌≡◌, ◌+◌, ◌*◌, ◌≤◌, length, take}
use Rattle.std.specs.List.{flat_map}
use Rattle.sipl_names.specs.NamePrint.{printed_octet}
use Rattle.sipl_names.proofs.print.label_text_len.Given as goal

abbrev pub invariant-loop-octet : goal.invariant-loop-octet
invariant-loop-octet l = record {
  len : l.len ≡ length (flat_map printed_octet (take l.octet-index l.label)) + 1;
  short : l.len ≤ 4 * l.octet-index + 1;
}
