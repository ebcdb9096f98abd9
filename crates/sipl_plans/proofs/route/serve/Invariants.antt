use Rattle.std.proofs.Common.{◌≡◌, ◌++◌, drop}
use Rattle.sipl_records.specs.Sets.{set_of}
use Rattle.sipl_choice.specs.FamilyKinds.{address_kinds}
use Rattle.sipl_plans.specs.Route.{sources}
use Rattle.sipl_plans.proofs.route.serve.Given as goal

-- the servers of the picks before this one and those of the picks left are all servers
abbrev pub invariant-loop-pick : goal.invariant-loop-pick
invariant-loop-pick l =
    let look = set_of l.records in
    let kinds = address_kinds l.abilities.families in
    l.servers.items ++ sources look kinds (drop l.pick-index l.picks) ≡ sources look kinds l.picks
