use Rattle.std.proofs.Common.{◌≡◌, ◌++◌, drop}
use Rattle.std.specs.List.{filter_map}
use Rattle.sipl_plans.specs.Route.{address_of_data}
use Rattle.sipl_plans.proofs.look.push_addresses.Given as goal

-- the addresses that are found and those among the data left are all of them
abbrev pub invariant-loop-datum : goal.invariant-loop-datum
invariant-loop-datum l =
    l.found.items ++ filter_map address_of_data (drop l.datum-index l.set) ≡ l.initial.found.items ++ filter_map address_of_data l.set
