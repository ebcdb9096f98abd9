use Rattle.sipl_records.proofs.Ipv6Groups.{IsBeforeZeros}
use Rattle.sipl_records.proofs.address6.split_at_zeros.Given as goal

abbrev pub invariant-loop-at : goal.invariant-loop-at
invariant-loop-at l = IsBeforeZeros l.text l.at
