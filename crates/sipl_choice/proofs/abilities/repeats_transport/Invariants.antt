use Rattle.std.proofs.Common.{◌≡◌, length}
use Rattle.sipl_choice.specs.Abilities.{repeats_transport}
use Rattle.sipl_choice.proofs.abilities.repeats_transport.Given as goal

abbrev pub invariant-loop-rest : goal.invariant-loop-rest
invariant-loop-rest l = repeats_transport l.rest ≡ repeats_transport l.transports

abbrev pub decreases-loop-rest : goal.decreases-loop-rest
decreases-loop-rest l = length l.rest
