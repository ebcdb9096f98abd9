use Rattle.std.proofs.Common.{◌≡◌}
use Rattle.sipl_service.proofs.service.Service.lookup.Given as goal

abbrev pub invariant-loop : goal.invariant-loop
invariant-loop g l = l.pass ≡ l.fn.pass
