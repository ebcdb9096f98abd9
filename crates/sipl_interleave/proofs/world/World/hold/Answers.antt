use Rattle.sipl_interleave.proofs.Moving.{world-board}
use Rattle.sipl_outages.specs.Holds.BoardEvent.{Hold}
use Rattle.sipl_interleave.specs.World.{WorldState}
use Rattle.sipl_interleave.proofs.world.World.hold.Goals as goal

pub invariant_of-self : goal.invariant_of-self
invariant_of-self c =
    let old : WorldState = record { book = c.self.inside.book; workers = c.self.inside.workers } in
    world-board (Hold c.args.endpoint.now c.args.ms) old c.hold.new.self c.hold.result c.self.invariant c.hold.ensures
