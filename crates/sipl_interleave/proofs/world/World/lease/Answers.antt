use Rattle.std.proofs.Common.{◌≡◌, None, ap, subst, sym, ◌∙◌}
use Rattle.sipl_book.specs.Book.{BookState}
use Rattle.sipl_plans.specs.Runs.{RunState}
use Rattle.sipl_interleave.specs.Jobs.{refusal_of}
use Rattle.sipl_interleave.specs.World.{WorldState}
use Rattle.sipl_interleave.specs.declared.act.Act.TheVariants.{Start}
use Rattle.sipl_interleave.proofs.Jobs.{allowed, start-job}
use Rattle.sipl_interleave.proofs.Keeping.{same-world}
use Rattle.sipl_interleave.proofs.Making.{given-back, not_leased-by, was_queued}
use Rattle.sipl_interleave.proofs.Working.{world-leased}
use Rattle.sipl_interleave.proofs.world.World.lease.Goals as goal

pub invariant_of-self-in-Ok-start_run : goal.invariant_of-self-in-Ok-start_run
invariant_of-self-in-Ok-start_run c =
    let old : WorldState = record { book = c.self.inside.book; workers = c.self.inside.workers } in
    let may = allowed Start old.workers c.args.worker (subst (λ (v : WorldState). refusal_of c.args.worker Start v.workers ≡ None) (sym c.self.view_is) c.requires) in
    let run = c.in-Ok-start_run.ensures.run in
    rw c.start.ensures
    (world-leased old c.lease.new.self c.args.worker c.in-Ok.leased.0 c.in-Ok.leased.1 c.in-Ok-start_run.run' c.self.invariant may.within (start-job _ may.job) c.in-Ok.ensures.leased
    (ap (λ (r : RunState). r.client) run ∙ c.abilities.ensures ∙ ap (λ (b : BookState). b.client) c.in-Ok.ensures.leased.after) (ap (λ (r : RunState). r.items) run))

pub invariant_of-self-in-Err-start_run : goal.invariant_of-self-in-Err-start_run
invariant_of-self-in-Err-start_run c =
    let old : WorldState = record { book = c.self.inside.book; workers = c.self.inside.workers } in
    same-world old c.give_back.new.self c.self.invariant
    (given-back old.book c.lease.new.self c.give_back.new.self c.in-Ok.leased.0 c.in-Ok.leased.1 c.in-Ok.ensures.leased c.in-Ok.ensures.outdated c.give_back.ensures)

pub returns-in-Err-start_run : goal.returns-in-Err-start_run
returns-in-Err-start_run c =
    let old : WorldState = record { book = c.self.inside.book; workers = c.self.inside.workers } in
    rw (← c.self.view_is)
    (not_leased-by old c.give_back.new.self c.args.worker
    (given-back old.book c.lease.new.self c.give_back.new.self c.in-Ok.leased.0 c.in-Ok.leased.1 c.in-Ok.ensures.leased c.in-Ok.ensures.outdated c.give_back.ensures)
    (was_queued old.book c.lease.new.self c.in-Ok.leased.0 c.in-Ok.leased.1 c.in-Ok.ensures.leased))
