use Rattle.std.proofs.Common.{◌||◌, ap, ◌∙◌}
use Rattle.indexmap.specs.IndexSet.{contains}
use Rattle.sipl_names.specs.Labels.{same_name}
use Rattle.sipl_zonestore.proofs.bare_owners.replace_among.Goals as goal

pub returns : goal.returns
returns c =
    let inserts = rw c.unwrap.ensures at c.append.ensures.inserts in
    λ name.
    inserts.0 name ∙ ap (λ b. b || contains same_name c.args.new name) (c.remove_owners.ensures.left name)
