use Rattle.sipl_interleave.proofs.Moving.{world-changed}
use Rattle.sipl_interleave.specs.World.{WorldState}
use Rattle.sipl_interleave.proofs.world.World.change.Goals as goal

pub invariant_of-self : goal.invariant_of-self
invariant_of-self c =
    let old : WorldState = record { book = c.self.inside.book; workers = c.self.inside.workers } in
    world-changed c.args.edit old c.change.new.self c.change.result c.self.invariant c.change.ensures
