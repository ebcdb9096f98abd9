use Rattle.std.proofs.Common.{◌||◌, ap, sym, ◌∙◌}
use Rattle.indexmap.specs.IndexSet.{contains}
use Rattle.sipl_names.specs.Labels.{same_name}
use Rattle.sipl_zonestore.specs.BareOwners.{is_name}
use Rattle.sipl_zonestore.proofs.BareOwners.{name-more}
use Rattle.sipl_zonestore.proofs.bare_owners.insert_owner.Goals as goal

pub returns-in-Some : goal.returns-in-Some
returns-in-Some c =
    let updates = rw c.unwrap.ensures at c.insert.ensures.updates in
    λ name.
    name-more c.in-Some.owner name (contains same_name c.args.owners.now name) (contains same_name c.insert.new.self name) (updates.0 name)
    ∙ ap (λ own. is_name name own || contains same_name c.args.owners.now name) (sym c.in-Some.is)
