use Rattle.std.proofs.Common.{◌≡◌, ◌≤◌, ◌&&◌, not, take}
use Rattle.std.specs.List.{list_any}
use Rattle.indexmap.specs.IndexSet.{contains, spare}
use Rattle.sipl_names.specs.Labels.{Labels, same_name}
use Rattle.sipl_zonestore.proofs.bare_owners.remove_owners.Given as goal

abbrev pub invariant-loop-name : goal.invariant-loop-name
invariant-loop-name l =
    record {
      left : (name : Labels) → contains same_name l.owners name ≡ (not (list_any (same_name name) (take l.name-index l.names.keys)) && contains same_name l.initial.owners name);
      space : spare l.initial.owners ≤ spare l.owners;
    }
