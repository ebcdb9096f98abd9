use Rattle.sipl_interleave.proofs.Moving.{world-turned}
use Rattle.sipl_interleave.specs.World.{WorldState}
use Rattle.sipl_interleave.proofs.world.World.page.Goals as goal

pub invariant_of-self : goal.invariant_of-self
invariant_of-self c =
    let old : WorldState = record { book = c.self.inside.book; workers = c.self.inside.workers } in
    world-turned old c.turn_page.new.self c.turn_page.result c.self.invariant c.turn_page.ensures.turned
