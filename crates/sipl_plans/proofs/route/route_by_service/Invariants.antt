use Rattle.std.proofs.Common.{◌≡◌, false, drop}
use Rattle.sipl_records.specs.Sets.{set_of}
use Rattle.sipl_plans.proofs.Routing.{route_over}
use Rattle.sipl_plans.proofs.route.route_by_service.Given as goal

-- the route over the transports that are left is that over all
abbrev pub invariant-loop-transport : goal.invariant-loop-transport
invariant-loop-transport l =
    let route = route_over (set_of l.records) l.abilities l.name l.secure in
    route l.is_closed (drop l.transport-index l.transport-items) ≡ route false l.abilities.preference
