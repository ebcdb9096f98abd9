use Rattle.sipl_interleave.proofs.Moving.{world-board}
use Rattle.sipl_outages.specs.Holds.BoardEvent.{Advance}
use Rattle.sipl_interleave.specs.World.{WorldState}
use Rattle.sipl_interleave.proofs.world.World.advance.Goals as goal

pub invariant_of-self : goal.invariant_of-self
invariant_of-self c =
    let old : WorldState = record { book = c.self.inside.book; workers = c.self.inside.workers } in
    world-board (Advance c.args.to) old c.advance.new.self c.advance.result c.self.invariant c.advance.ensures
