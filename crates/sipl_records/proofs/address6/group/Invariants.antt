use Rattle.sipl_records.proofs.Ipv6Groups.{HasReadHex}
use Rattle.sipl_records.proofs.address6.group.Given as goal

abbrev pub invariant-loop-digit : goal.invariant-loop-digit
invariant-loop-digit l = HasReadHex l.digits l.digit-index l.value
