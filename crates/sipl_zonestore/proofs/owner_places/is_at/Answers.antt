use Rattle.std.proofs.Common.{sym, ◌∙◌}
use Rattle.sipl_zonestore.specs.SetTable.{IsPlace}
use Rattle.sipl_zonestore.proofs.OwnerPlaces.{on-true, place-at}
use Rattle.sipl_zonestore.proofs.owner_places.is_at.Goals as goal

pub returns-in-Some : goal.returns-in-Some
returns-in-Some c =
    on-true c.eq.result (IsPlace c.args.owners.now.entries c.args.owner.now c.args.place) (λ same.
    place-at c.args.owners.now.entries c.args.owner.now c.in-Some.name.now c.args.place c.in-Some.field-0-1.now (sym c.in-Some.ensures.entry) c.in-Some.ensures.value (sym c.eq.ensures ∙ same))
