use Rattle.std.proofs.Common.{◌≡◌, ◌+◌, ◌≤◌, ◌||◌, count_by, length, take}
use Rattle.std.specs.List.{list_any}
use Rattle.sipl_records.specs.Sets.{conflicts, same_record, shares_set}
use Rattle.sipl_records.specs.Codes.{code_of_name}
use Rattle.sipl_masterfile.specs.ByOwner.{end_of}
use Rattle.sipl_masterfile.proofs.by_owner.RecordsByOwner.compare.Given as goal

abbrev pub invariant-loop-end : goal.invariant-loop-end
invariant-loop-end l = record {
  within : l.end ≤ length l.self-inside.records.items;
  end : end_of (code_of_name l.new.owner) (take l.end l.self-inside.records.items) ≡ l.end;
  repeated : list_any (same_record l.new) l.self-inside.records.items ≡ (list_any (same_record l.new) (take l.end l.self-inside.records.items) || l.found.is_repeated);
  conflicts : list_any (conflicts l.new) l.self-inside.records.items ≡ (list_any (conflicts l.new) (take l.end l.self-inside.records.items) || l.found.conflicts);
  set_len : count_by (shares_set l.new) l.self-inside.records.items ≡ count_by (shares_set l.new) (take l.end l.self-inside.records.items) + l.found.set_len;
}

abbrev pub decreases-loop-end : goal.decreases-loop-end
decreases-loop-end l = l.end
