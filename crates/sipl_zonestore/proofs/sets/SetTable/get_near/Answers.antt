use Rattle.std.proofs.Common.{sym, ap, ◌∙◌}
use Rattle.sipl_zonestore.specs.Content.{Content}
use Rattle.sipl_zonestore.specs.SetTable.{content_of}
use Rattle.sipl_zonestore.proofs.OwnerPlaces.{value-at}
use Rattle.sipl_zonestore.proofs.SetTables.{content-is, content-none}
use Rattle.sipl_zonestore.proofs.sets.SetTable.get_near.Goals as goal

pub returns-in_default-clause-number : goal.returns-in_default-clause-number
returns-in_default-clause-number c =
    ap (λ (set : Content). set.number) (sym (content-none c.self.inside.owners.entries c.args.owner.now c.args.kind (sym c.in_default.ensures.none)) ∙ ap (λ owners. content_of owners (record { name = c.args.owner.now; kind = c.args.kind })) c.self.view_is)

pub returns-in_default-clause-values : goal.returns-in_default-clause-values
returns-in_default-clause-values c =
    ap (λ (set : Content). set.values) (sym (content-none c.self.inside.owners.entries c.args.owner.now c.args.kind (sym c.in_default.ensures.none)) ∙ ap (λ owners. content_of owners (record { name = c.args.owner.now; kind = c.args.kind })) c.self.view_is)

pub returns-clause-number : goal.returns-clause-number
returns-clause-number c =
    c.get.ensures.number
    ∙ ap (λ (set : Content). set.number) (sym (content-is c.self.inside.owners.entries c.args.owner.now c.args.kind c.index-sets.result.now (value-at c.self.inside.owners.entries c.args.owner.now c.in-Some.place c.index-sets.result.now c.in-Some.ensures.found c.index-sets.ensures)) ∙ ap (λ owners. content_of owners (record { name = c.args.owner.now; kind = c.args.kind })) c.self.view_is)

pub returns-clause-values : goal.returns-clause-values
returns-clause-values c =
    c.get.ensures.values
    ∙ ap (λ (set : Content). set.values) (sym (content-is c.self.inside.owners.entries c.args.owner.now c.args.kind c.index-sets.result.now (value-at c.self.inside.owners.entries c.args.owner.now c.in-Some.place c.index-sets.result.now c.in-Some.ensures.found c.index-sets.ensures)) ∙ ap (λ owners. content_of owners (record { name = c.args.owner.now; kind = c.args.kind })) c.self.view_is)
