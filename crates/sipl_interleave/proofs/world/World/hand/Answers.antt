use Rattle.sipl_interleave.proofs.Moving.{world-handed}
use Rattle.sipl_interleave.specs.World.{WorldState}
use Rattle.sipl_interleave.proofs.world.World.hand.Goals as goal

pub invariant_of-self : goal.invariant_of-self
invariant_of-self c =
    let old : WorldState = record { book = c.self.inside.book; workers = c.self.inside.workers } in
    world-handed c.args.question c.args.draws.now old c.hand-handed.new.self c.hand-handed.result c.self.invariant c.hand-handed.ensures
