use Rattle.std.proofs.Common.{◌≡◌, ◌+◌, length, take}
use Rattle.std.specs.List.{filter}
use Rattle.sipl_records.specs.declared.record.Key.{Key}
use Rattle.sipl_zonestore.specs.SetTable.{content_of, has_set, numbered_content}
use Rattle.sipl_zonestore.proofs.set_numbers.number_sets.Given as goal

abbrev pub invariant-loop-key : goal.invariant-loop-key
invariant-loop-key l = record {
  next : l.next ≡ l.initial.next + length (filter (has_set l.initial.sets) (take l.key-index l.keys));
  content : (key : Key) → content_of l.sets key ≡ numbered_content l.initial.sets (take l.key-index l.keys) l.initial.next key;
}
