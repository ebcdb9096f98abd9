use Rattle.std.proofs.Common.{◌≡◌, ◌++◌, map, take}
use Rattle.sipl_zonestore.specs.Changes.{existence_key}
use Rattle.sipl_zonestore.proofs.existence.changed_by.Given as goal

abbrev pub invariant-loop-name : goal.invariant-loop-name
invariant-loop-name l =
    record {
      keys : l.keys.items ≡ l.initial.keys.items ++ map existence_key (take l.name-index l.names);
    }
