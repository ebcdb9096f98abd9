use Rattle.std.proofs.Common.{◌<◌, length, get_or, ap, ◌∙◌, arith}
use Rattle.indexmap.specs.IndexSet.{contains}
use Rattle.sipl_names.specs.Labels.{same_name}
use Rattle.sipl_zonestore.proofs.BareOwners.{bare-more}
use Rattle.sipl_zonestore.proofs.bare_owners.remove_owners.Goals as goal

pub loop-name-preserved : goal.loop-name-preserved
loop-name-preserved c =
    let names = c.args.names.now.keys in
    let at = c.loop-name.name-index in
    let inside : at < length names = omega (arith, ap length c.as_slice-name-items.ensures.keys, c.loop-name-test.true) in
    record {
      left = λ name. bare-more names at c.name-item.result name (contains same_name c.args.owners.now name) (contains same_name c.loop-name.owners name) (contains same_name c.swap_remove.new.self name) inside (c.name-item.is ∙ ap (λ keys. get_or keys at c.name-item.result) c.as_slice-name-items.ensures.keys) (c.loop-name.invariant.left name) (c.swap_remove.ensures.updates.0 name);
      space = omega (arith, c.loop-name.invariant.space, c.swap_remove.ensures.room.0);
    }
