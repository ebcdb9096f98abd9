use Rattle.sipl_interleave.proofs.Moving.{world-forgotten}
use Rattle.sipl_interleave.specs.World.{WorldState}
use Rattle.sipl_interleave.proofs.world.World.forget.Goals as goal

pub invariant_of-self : goal.invariant_of-self
invariant_of-self c =
    let old : WorldState = record { book = c.self.inside.book; workers = c.self.inside.workers } in
    world-forgotten c.args.question old c.forget-forgotten.new.self c.forget-forgotten.result c.self.invariant c.forget-forgotten.ensures
