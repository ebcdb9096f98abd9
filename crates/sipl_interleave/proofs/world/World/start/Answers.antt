use Rattle.std.proofs.Common.{◌≡◌, None, ap, subst, sym, ◌∙◌}
use Rattle.sipl_interleave.specs.Jobs.{new_run, refusal_of}
use Rattle.sipl_interleave.specs.World.{WorldState}
use Rattle.sipl_interleave.proofs.Jobs.{allowed, start-job}
use Rattle.sipl_interleave.proofs.Making.{not_started, started-by}
use Rattle.sipl_interleave.proofs.Working.{world-started}
use Rattle.sipl_interleave.specs.declared.act.Act.TheVariants.{Start}
use Rattle.sipl_interleave.proofs.world.World.start.Goals as goal

pub invariant_of-self : goal.invariant_of-self
invariant_of-self c =
    let old : WorldState = record { book = c.self.inside.book; workers = c.self.inside.workers } in
    let may = allowed Start c.self.inside.workers c.args.worker (subst (λ (v : WorldState). refusal_of c.args.worker Start v.workers ≡ None) (sym c.self.view_is) c.requires) in
    rw c.start-in-Ok.ensures
    (world-started old c.args.worker c.in-Ok.run' c.self.invariant may.within (start-job _ may.job)
    (ap (λ r. r.client) c.in-Ok.ensures ∙ c.abilities.ensures) (ap (λ r. r.items) c.in-Ok.ensures))

pub returns-in-Ok : goal.returns-in-Ok
returns-in-Ok c =
    let old : WorldState = record { book = c.self.inside.book; workers = c.self.inside.workers } in
    rw (← c.self.view_is)
    (started-by old c.args.worker c.args.question c.in-Ok.run' c.start-in-Ok.new.self c.start-in-Ok.ensures (c.in-Ok.ensures ∙ ap (new_run c.args.question) c.abilities.ensures))

pub returns-in-Err : goal.returns-in-Err
returns-in-Err c = not_started c.args.self.now c.args.worker c.args.question
