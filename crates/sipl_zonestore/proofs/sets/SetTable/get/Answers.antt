use Rattle.std.proofs.Common.{sym, ap, ◌∙◌}
use Rattle.sipl_zonestore.specs.Content.{Content}
use Rattle.sipl_zonestore.specs.SetTable.{content_of}
use Rattle.sipl_zonestore.proofs.SetTables.{content-is, content-none}
use Rattle.sipl_zonestore.proofs.sets.SetTable.get.Goals as goal

pub returns-in-Some-clause-number : goal.returns-in-Some-clause-number
returns-in-Some-clause-number c =
    c.get-in-Some.ensures.number
    ∙ ap (λ (set : Content). set.number) (sym (content-is c.self.inside.owners.entries c.args.owner.now c.args.kind c.in-Some.sets.now c.in-Some.ensures.value) ∙ ap (λ owners. content_of owners (record { name = c.args.owner.now; kind = c.args.kind })) c.self.view_is)

pub returns-in-Some-clause-values : goal.returns-in-Some-clause-values
returns-in-Some-clause-values c =
    c.get-in-Some.ensures.values
    ∙ ap (λ (set : Content). set.values) (sym (content-is c.self.inside.owners.entries c.args.owner.now c.args.kind c.in-Some.sets.now c.in-Some.ensures.value) ∙ ap (λ owners. content_of owners (record { name = c.args.owner.now; kind = c.args.kind })) c.self.view_is)

pub returns-in-None-clause-number : goal.returns-in-None-clause-number
returns-in-None-clause-number c =
    ap (λ (set : Content). set.number) (sym (content-none c.self.inside.owners.entries c.args.owner.now c.args.kind c.in-None.ensures.value) ∙ ap (λ owners. content_of owners (record { name = c.args.owner.now; kind = c.args.kind })) c.self.view_is)

pub returns-in-None-clause-values : goal.returns-in-None-clause-values
returns-in-None-clause-values c =
    ap (λ (set : Content). set.values) (sym (content-none c.self.inside.owners.entries c.args.owner.now c.args.kind c.in-None.ensures.value) ∙ ap (λ owners. content_of owners (record { name = c.args.owner.now; kind = c.args.kind })) c.self.view_is)
