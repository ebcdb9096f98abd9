use Rattle.std.proofs.Common.{◌≡◌, ◌++◌, take, vec_capacity}
use Rattle.std.specs.List.{flat_map}
use Rattle.sipl_names.specs.NamePrint.{printed_octet}
use Rattle.sipl_names.proofs.print.write_label.Given as goal

abbrev pub invariant-loop-octet : goal.invariant-loop-octet
invariant-loop-octet l = record {
  text : l.out.items ≡ l.fn.out.items ++ flat_map printed_octet (take l.octet-index l.label);
  capacity : vec_capacity l.out ≡ vec_capacity l.fn.out;
}
