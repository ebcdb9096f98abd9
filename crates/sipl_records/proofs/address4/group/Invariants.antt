use Rattle.sipl_records.proofs.Groups.{HasRead}
use Rattle.sipl_records.proofs.address4.group.Given as goal

abbrev pub invariant-loop-digit : goal.invariant-loop-digit
invariant-loop-digit l = HasRead l.digits l.digit-index l.value
