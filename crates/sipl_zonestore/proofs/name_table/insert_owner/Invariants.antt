use Rattle.std.proofs.Common.{◌≡◌, ◌+◌, length}
use Rattle.std.specs.List.{count_by}
use Rattle.std.specs.Map.{keys_of}
use Rattle.indexmap.specs.IndexSet.{insert_all}
use Rattle.sipl_names.specs.Labels.{Labels, same_name}
use Rattle.sipl_zonestore.specs.Changes.{with_ancestors}
use Rattle.sipl_zonestore.specs.NameTable.{count_at}
use Rattle.sipl_zonestore.proofs.name_table.insert_owner.Given as goal

abbrev pub invariant-loop-rest : goal.invariant-loop-rest
invariant-loop-rest l =
    record {
      counts : (name : Labels) → count_at l.names.entries name + count_by (λ other. same_name other name) (with_ancestors l.rest) ≡ count_at l.initial.names.entries name + count_by (λ other. same_name other name) (with_ancestors l.initial.rest);
      keys : insert_all same_name (keys_of l.names.entries) (with_ancestors l.rest) ≡ insert_all same_name (keys_of l.initial.names.entries) (with_ancestors l.initial.rest);
    }

abbrev pub decreases-loop-rest : goal.decreases-loop-rest
decreases-loop-rest l = length l.rest
