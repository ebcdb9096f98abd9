use Rattle.std.proofs.Common.{slice_get, take}
use Rattle.std.specs.List.{filter_map, flat_map}
use Rattle.sipl_plans.specs.Plan.{endpoints_of}
use Rattle.sipl_plans.proofs.EndpointsInOrder.{first_address, next_address, next_server}
use Rattle.sipl_plans.proofs.layout.endpoints_in_order.Goals as goal

pub loop-address-init : goal.loop-address-init
loop-address-init c =
    first_address c.args.transport c.index-servers-place.result.port c.as_slice-address-items.result.now 0
    (flat_map (endpoints_of c.args.transport) (filter_map (slice_get c.args.servers.now) (take c.loop-place.place-index c.args.order.now)))
    c.loop-place.endpoints.items c.loop-place.invariant

pub loop-address-preserved : goal.loop-address-preserved
loop-address-preserved c =
    next_address c.args.transport c.index-servers-place.result.port c.as_slice-address-items.result.now c.loop-address.address-index
    (flat_map (endpoints_of c.args.transport) (filter_map (slice_get c.args.servers.now) (take c.loop-place.place-index c.args.order.now)))
    c.loop-address.endpoints.items c.push.new.self.items c.loop-address-test.true c.loop-address.invariant c.in_ok-push.ensures.items

pub loop-place-preserved : goal.loop-place-preserved
loop-place-preserved c =
    next_server c.args.transport c.args.servers.now c.args.order.now c.loop-place.place-index c.index-servers-place.result c.as_slice-address-items.result.now c.loop-address.address-index
    c.loop-address.endpoints.items c.loop-place-test.true (c.requires c.loop-place.place-index 0 c.loop-place-test.true) c.index-servers-place.is c.as_slice-address-items.ensures c.loop-address-test.false c.loop-address.invariant
