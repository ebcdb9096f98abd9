use Rattle.sipl_zonestore.proofs.OwnerPlaces.{place-index}
use Rattle.sipl_zonestore.proofs.owner_places.place_near.Goals as goal

pub returns-clause-found : goal.returns-clause-found
returns-clause-found c = place-index c.args.owners.now.entries c.args.owner.now c.get_index_of.result c.get_index_of.ensures.index
