use Rattle.std.proofs.Common.{◌≡◌, map, drop, slice_get}
use Rattle.sipl_srv.specs.Order.{of_priority, weightless}
use Rattle.sipl_srv.proofs.order.first_weightless.Given as goal

abbrev pub invariant-loop-i : goal.invariant-loop-i
invariant-loop-i g l =
    slice_get (weightless (map g.T.Ranked.rank l.picks) (of_priority (map g.T.Ranked.rank l.picks) l.priority (drop l.i l.places))) 0
    ≡ slice_get (weightless (map g.T.Ranked.rank l.picks) (of_priority (map g.T.Ranked.rank l.picks) l.priority l.places)) 0
