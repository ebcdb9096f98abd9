use Rattle.std.proofs.Common.{◌≡◌, length}
use Rattle.sipl_records.specs.Ipv6Counts.{IsBounded}
use Rattle.sipl_records.proofs.Ipv6Groups.{counted}
use Rattle.sipl_records.proofs.address6.read_groups.Given as goal

abbrev pub invariant-loop-part : goal.invariant-loop-part
invariant-loop-part l = record {
  same : counted l.ipv4 0 0 l.text ≡ counted l.ipv4 l.groups.number l.groups.len l.rest;
  bounded : IsBounded l.groups.number l.groups.len;
}

abbrev pub decreases-loop-part : goal.decreases-loop-part
decreases-loop-part l = length l.rest
