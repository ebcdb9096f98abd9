use Rattle.std.proofs.Common.{◌<◌, length, get_or, ap, ◌∙◌, arith}
use Rattle.std.specs.Map.{lookup}
use Rattle.sipl_names.specs.Labels.{same_name}
use Rattle.sipl_zonestore.proofs.SetTables.{left-more}
use Rattle.sipl_zonestore.proofs.sets.remove_owners.Goals as goal

pub loop-name-preserved : goal.loop-name-preserved
loop-name-preserved c =
    let names = c.args.names.now.keys in
    let at = c.loop-name.name-index in
    let inside : at < length names = omega (arith, ap length c.as_slice-name-items.ensures.keys, c.loop-name-test.true) in
    record {
      left = λ name. left-more names at c.name-item.result name (lookup (same_name name) c.args.owners.now.entries) (lookup (same_name name) c.loop-name.owners.entries) (lookup (same_name name) c.swap_remove-removed.new.self.entries) inside (c.name-item.is ∙ ap (λ keys. get_or keys at c.name-item.result) c.as_slice-name-items.ensures.keys) (c.loop-name.invariant.left name) (c.swap_remove-removed.ensures.updates.0 name);
      space = omega (arith, c.loop-name.invariant.space, c.swap_remove-removed.ensures.room.0);
    }
