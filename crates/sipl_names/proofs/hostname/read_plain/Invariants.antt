use Rattle.std.proofs.Common.{◌≡◌, length}
use Rattle.sipl_names.proofs.ReadHostname.{IsHostnameReadTo}
use Rattle.sipl_names.proofs.hostname.read_plain.Given as goal

abbrev pub invariant-loop-end : goal.invariant-loop-end
invariant-loop-end l = record {
  size : length l.wire ≡ 64;
  read : IsHostnameReadTo l.text l.wire l.start l.end;
}
