use Rattle.std.proofs.Common.{◌≡◌, ◌-◌}
use Rattle.std.specs.List.{IsDistinct}
use Rattle.std.specs.Map.{keys_of}
use Rattle.sipl_names.specs.Labels.{Labels, same_name}
use Rattle.sipl_zonestore.specs.NameTable.{count_at}
use Rattle.sipl_zonestore.proofs.name_table.take_counts.Given as goal

abbrev pub invariant-loop-name : goal.invariant-loop-name
invariant-loop-name l =
    record {
      counts : (name : Labels) → count_at l.names.entries name - count_at l.name-iterator name ≡ count_at l.initial.names.entries name - count_at l.initial.name-iterator name;
      distinct : IsDistinct same_name (keys_of l.name-iterator);
    }
