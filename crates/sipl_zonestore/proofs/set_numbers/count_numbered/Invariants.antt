use Rattle.std.proofs.Common.{◌≡◌, length, take}
use Rattle.std.specs.List.{filter}
use Rattle.sipl_zonestore.specs.SetTable.{has_set}
use Rattle.sipl_zonestore.proofs.set_numbers.count_numbered.Given as goal

abbrev pub invariant-loop-key : goal.invariant-loop-key
invariant-loop-key l = l.count ≡ length (filter (has_set l.sets) (take l.key-index l.keys))
