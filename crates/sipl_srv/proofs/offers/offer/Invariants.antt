use Rattle.std.proofs.Common.{take}
use Rattle.sipl_srv.proofs.Offered.{IsOffered}
use Rattle.sipl_srv.proofs.offers.offer.Given as goal

abbrev pub invariant-loop-value : goal.invariant-loop-value
invariant-loop-value l = IsOffered l.has_service l.picks.items (take l.value-index l.set)
