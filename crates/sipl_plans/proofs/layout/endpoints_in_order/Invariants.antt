use Rattle.std.proofs.Common.{◌≡◌, ◌++◌, slice_get, take}
use Rattle.std.specs.List.{filter_map, flat_map}
use Rattle.sipl_plans.specs.Plan.{endpoints_at, endpoints_of}
use Rattle.sipl_plans.proofs.layout.endpoints_in_order.Given as goal

-- the endpoints of the servers at the places before this one
abbrev pub invariant-loop-place : goal.invariant-loop-place
invariant-loop-place l =
    l.endpoints.items
    ≡ flat_map (endpoints_of l.transport) (filter_map (slice_get l.servers) (take l.place-index l.order))

-- and of the addresses of this server before this one
abbrev pub invariant-loop-address : goal.invariant-loop-address
invariant-loop-address l =
    l.endpoints.items
    ≡ flat_map (endpoints_of l.transport) (filter_map (slice_get l.servers) (take l.place-index l.order))
    ++ endpoints_at l.transport l.server.port (take l.address-index l.address-items)
