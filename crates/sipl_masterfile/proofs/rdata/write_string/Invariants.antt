use Rattle.std.proofs.Common.{◌≡◌, ◌++◌, take}
use Rattle.std.specs.List.{flat_map}
use Rattle.sipl_names.specs.NamePrint.{printed_octet}
use Rattle.sipl_masterfile.proofs.rdata.write_string.Given as goal

-- the octets so far
abbrev pub invariant-loop-octet : goal.invariant-loop-octet
invariant-loop-octet l =
    l.out.items ≡ l.initial.out.items ++ flat_map printed_octet (take l.octet-index l.octets)
