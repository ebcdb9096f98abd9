use Rattle.std.proofs.Common.{◌≡◌, true, take}
use Rattle.std.specs.List.{list_all}
use Rattle.sipl_uri.proofs.parts.split_hostname.Given as goal
use Rattle.sipl_names.specs.Hostnames.{is_hostname_octet}

abbrev pub invariant-loop-end : goal.invariant-loop-end
invariant-loop-end l = list_all is_hostname_octet (take l.end l.text) ≡ true
