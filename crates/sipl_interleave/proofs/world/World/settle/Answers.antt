use Rattle.std.proofs.Common.{◌≡◌, None, ap, subst, sym, ◌∙◌}
use Rattle.sipl_interleave.specs.Jobs.{refusal_of}
use Rattle.sipl_interleave.specs.Steps.{settle_reply}
use Rattle.sipl_interleave.specs.World.{WorldState}
use Rattle.sipl_interleave.specs.declared.act.Act.TheVariants.{Settle}
use Rattle.sipl_interleave.proofs.Making.{settle-current, settled-by, settles}
use Rattle.sipl_interleave.proofs.Working.{spent-by_settling, world-spent}
use Rattle.sipl_interleave.proofs.world.World.settle.Goals as goal
use Rattle.sipl_interleave.proofs.world.World.settle.Goals.{in-Ok, in-Err}

pub settle-requires-clause-client : goal.settle-requires-clause-client
settle-requires-clause-client c =
    let old : WorldState = record { book = c.self.inside.book; workers = c.self.inside.workers } in
    (settles old c.args.worker c.finish_leased-finding.result.0 c.self.invariant
    (subst (λ (v : WorldState). refusal_of c.args.worker Settle v.workers ≡ None) (sym c.self.view_is) c.requires) c.finish_leased-finding.ensures.found).client

pub settle-requires-clause-honest : goal.settle-requires-clause-honest
settle-requires-clause-honest c =
    let old : WorldState = record { book = c.self.inside.book; workers = c.self.inside.workers } in
    (settles old c.args.worker c.finish_leased-finding.result.0 c.self.invariant
    (subst (λ (v : WorldState). refusal_of c.args.worker Settle v.workers ≡ None) (sym c.self.view_is) c.requires) c.finish_leased-finding.ensures.found).read.honest

pub invariant_of-self : goal.invariant_of-self
invariant_of-self c =
    let old : WorldState = record { book = c.self.inside.book; workers = c.self.inside.workers } in
    let by = settles old c.args.worker c.finish_leased-finding.result.0 c.self.invariant
    (subst (λ (v : WorldState). refusal_of c.args.worker Settle v.workers ≡ None) (sym c.self.view_is) c.requires) c.finish_leased-finding.ensures.found in
    rw c.finish_leased-finding.ensures.idle
    (world-spent old c.settle.new.self c.args.worker c.finish_leased-finding.result.1 c.self.invariant by.within c.finish_leased-finding.ensures.lease
    (spent-by_settling c.finish_leased-finding.result.1 c.finish_leased-finding.result.0 old.book c.settle.new.self c.settle.result by.sound by.client
    (settle-current old c.settle.new.self c.args.worker c.finish_leased-finding.result.1 c.finish_leased-finding.result.0 c.settle.result by c.settle.ensures) c.settle.ensures))

pub returns : goal.returns
returns c =
    let old : WorldState = record { book = c.self.inside.book; workers = c.self.inside.workers } in
    let by = settles old c.args.worker c.finish_leased-finding.result.0 c.self.invariant
    (subst (λ (v : WorldState). refusal_of c.args.worker Settle v.workers ≡ None) (sym c.self.view_is) c.requires) c.finish_leased-finding.ensures.found in
    rw (← c.self.view_is)
    (settled-by old c.settle.new.self c.args.worker c.finish_leased-finding.result.1 c.finish_leased-finding.result.0 c.settle.result c.finish_leased-finding.new.self c.match-settle.result by
    c.finish_leased-finding.ensures.lease c.settle.ensures
    (elim c.match-settle.branch [ in-Ok w ↦ w.result-is ∙ ap settle_reply (sym w.in-Ok.is) | in-Err w ↦ w.result-is ∙ ap settle_reply (sym w.in-Err.is) ])
    c.finish_leased-finding.ensures.idle)
