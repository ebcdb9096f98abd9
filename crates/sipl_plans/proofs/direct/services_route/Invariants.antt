use Rattle.std.proofs.Common.{◌≡◌, false, drop}
use Rattle.sipl_plans.specs.Readings.{AddsLooks}
use Rattle.sipl_plans.proofs.RoutesRead.{outcome_over}
use Rattle.sipl_plans.proofs.direct.services_route.Given as goal

-- the route over the transports that are left is that over all
abbrev pub invariant-loop-transport : goal.invariant-loop-transport
invariant-loop-transport g l =
    let source = g.S.Sets.source in
    let over = outcome_over source l.abilities l.name l.secure in
    record {
      leads : over l.is_closed (drop l.transport-index l.transport-items) l.evidence l.sets ≡ over false l.abilities.preference l.fn.evidence l.fn.sets;
      looked : AddsLooks source l.fn.sets l.sets;
    }
