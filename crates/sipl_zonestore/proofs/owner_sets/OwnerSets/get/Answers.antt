use Rattle.std.proofs.Common.{sym, ap, ◌∙◌}
use Rattle.std.specs.List.{position}
use Rattle.sipl_records.specs.Sets.{same_kind}
use Rattle.sipl_zonestore.specs.Content.{Content, carried}
use Rattle.sipl_zonestore.specs.SetTable.{set_at}
use Rattle.sipl_zonestore.proofs.OwnerSets.{at-none, at-place}
use Rattle.sipl_zonestore.proofs.owner_sets.OwnerSets.get.Goals as goal

pub returns-in-Some-clause-number : goal.returns-in-Some-clause-number
returns-in-Some-clause-number c =
    c.get.ensures.number
    ∙ ap (λ (set : Content). (carried set.number set.values).number) (sym (at-place c.args.kind c.self.inside.sets.items c.in-Some.place c.index.result.now (c.in-Some.ensures ∙ ap (position (λ own. same_kind own.kind c.args.kind)) (sym c.self.view_is)) c.index.ensures) ∙ ap (set_at c.args.kind) c.self.view_is)

pub returns-in-Some-clause-values : goal.returns-in-Some-clause-values
returns-in-Some-clause-values c =
    c.get.ensures.values
    ∙ ap (λ (set : Content). set.values) (sym (at-place c.args.kind c.self.inside.sets.items c.in-Some.place c.index.result.now (c.in-Some.ensures ∙ ap (position (λ own. same_kind own.kind c.args.kind)) (sym c.self.view_is)) c.index.ensures) ∙ ap (set_at c.args.kind) c.self.view_is)

pub returns-in-None-clause-number : goal.returns-in-None-clause-number
returns-in-None-clause-number c =
    ap (λ (set : Content). (carried set.number set.values).number) (sym (at-none c.args.kind c.args.self.now c.in-None.ensures))

pub returns-in-None-clause-values : goal.returns-in-None-clause-values
returns-in-None-clause-values c =
    ap (λ (set : Content). set.values) (sym (at-none c.args.kind c.args.self.now c.in-None.ensures))
