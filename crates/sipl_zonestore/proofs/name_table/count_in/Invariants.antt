use Rattle.std.proofs.Common.{◌≡◌, ◌+◌, ◌≤◌, length}
use Rattle.std.specs.List.{count_by}
use Rattle.std.specs.Map.{keys_of}
use Rattle.std.specs.Vec.Iter.{into_iter_items, into_iter_len}
use Rattle.indexmap.specs.IndexMap.{spare}
use Rattle.indexmap.specs.IndexSet.{insert_all}
use Rattle.sipl_names.specs.Labels.{Labels, same_name}
use Rattle.sipl_zonestore.specs.NameTable.{count_at}
use Rattle.sipl_zonestore.proofs.name_table.count_in.Given as goal

abbrev pub invariant-loop-name : goal.invariant-loop-name
invariant-loop-name l =
    record {
      counts : (name : Labels) → count_at l.names.entries name + count_by (λ other. same_name other name) (into_iter_items l.name-iterator) ≡ count_at l.initial.names.entries name + count_by (λ other. same_name other name) (into_iter_items l.initial.name-iterator);
      keys : insert_all same_name (keys_of l.names.entries) (into_iter_items l.name-iterator) ≡ insert_all same_name (keys_of l.initial.names.entries) (into_iter_items l.initial.name-iterator);
      space : length (into_iter_items l.name-iterator) ≤ spare l.names;
      len : into_iter_len l.name-iterator ≡ length (into_iter_items l.name-iterator);
    }
