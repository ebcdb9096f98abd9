use Rattle.sipl_interleave.proofs.Moving.{world-board}
use Rattle.sipl_outages.specs.Holds.BoardEvent.{Release}
use Rattle.sipl_interleave.specs.World.{WorldState}
use Rattle.sipl_interleave.proofs.world.World.release.Goals as goal

pub invariant_of-self : goal.invariant_of-self
invariant_of-self c =
    let old : WorldState = record { book = c.self.inside.book; workers = c.self.inside.workers } in
    world-board (Release c.args.endpoint.now) old c.release.new.self c.release.result c.self.invariant c.release.ensures
