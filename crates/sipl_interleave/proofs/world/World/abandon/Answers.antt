use Rattle.std.proofs.Common.{◌≡◌, None, subst, sym}
use Rattle.sipl_interleave.specs.Jobs.{refusal_of}
use Rattle.sipl_interleave.specs.World.{WorldState}
use Rattle.sipl_interleave.specs.declared.act.Act.TheVariants.{Abandon}
use Rattle.sipl_interleave.proofs.Jobs.{allowed}
use Rattle.sipl_interleave.proofs.Working.{spent-return, stays, world-idle, world-spent}
use Rattle.sipl_interleave.proofs.world.World.abandon.Goals as goal

pub invariant_of-self : goal.invariant_of-self
invariant_of-self c =
    let old : WorldState = record { book = c.self.inside.book; workers = c.self.inside.workers } in
    let may = allowed Abandon old.workers c.args.worker (subst (λ (v : WorldState). refusal_of c.args.worker Abandon v.workers ≡ None) (sym c.self.view_is) c.requires) in
    rw (c.abandon.ensures.idle, c.give_back.ensures)
    (world-spent old _ c.args.worker c.in-Some.lease c.self.invariant may.within (sym c.in-Some.ensures.lease) (spent-return c.in-Some.lease old.book))

pub invariant_of-self-in_default : goal.invariant_of-self-in_default
invariant_of-self-in_default c =
    let old : WorldState = record { book = c.self.inside.book; workers = c.self.inside.workers } in
    let may = allowed Abandon old.workers c.args.worker (subst (λ (v : WorldState). refusal_of c.args.worker Abandon v.workers ≡ None) (sym c.self.view_is) c.requires) in
    rw c.abandon.ensures.idle
    (world-idle old old.book c.args.worker c.self.invariant may.within (stays old c.self.invariant) (sym c.in_default.ensures.lease))
