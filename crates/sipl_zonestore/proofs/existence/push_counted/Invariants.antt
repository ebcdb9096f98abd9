use Rattle.std.proofs.Common.{◌≡◌, ◌++◌, map, take, nat_eq}
use Rattle.std.specs.List.{filter}
use Rattle.sipl_zonestore.specs.Changes.{existence_key}
use Rattle.sipl_zonestore.specs.NameTable.{count_at}
use Rattle.sipl_zonestore.proofs.existence.push_counted.Given as goal

abbrev pub invariant-loop-name : goal.invariant-loop-name
invariant-loop-name l =
    l.keys.items ≡ l.initial.keys.items ++ map existence_key (filter (λ name. nat_eq (count_at l.names.entries name) l.count) (take l.name-index l.among))
