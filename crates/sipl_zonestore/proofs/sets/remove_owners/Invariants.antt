use Rattle.std.proofs.Common.{◌≡◌, ◌≤◌, None, take, if◌then◌else◌}
use Rattle.std.specs.List.{list_any}
use Rattle.std.specs.Map.{lookup}
use Rattle.indexmap.specs.IndexMap.{spare}
use Rattle.sipl_names.specs.Labels.{Labels, same_name}
use Rattle.sipl_zonestore.proofs.sets.remove_owners.Given as goal

abbrev pub invariant-loop-name : goal.invariant-loop-name
invariant-loop-name l =
    record {
      left : (name : Labels) → lookup (same_name name) l.owners.entries ≡ (if list_any (same_name name) (take l.name-index l.names.keys) then None else lookup (same_name name) l.initial.owners.entries);
      space : spare l.initial.owners ≤ spare l.owners;
    }
