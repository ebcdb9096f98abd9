use Rattle.std.proofs.Common.{◌≡◌, ◌+◌, ◌*◌, ◌≤◌, map, drop}
use Rattle.sipl_srv.specs.Order.{of_priority, total_weight}
use Rattle.sipl_srv.proofs.order.total_weight.Given as goal

abbrev pub invariant-loop-place : goal.invariant-loop-place
invariant-loop-place g l = (l.total ≤ 65535 * l.place-index)
    × (l.total + total_weight (map g.T.Ranked.rank l.picks) (of_priority (map g.T.Ranked.rank l.picks) l.priority (drop l.place-index l.places))
    ≡ total_weight (map g.T.Ranked.rank l.picks) (of_priority (map g.T.Ranked.rank l.picks) l.priority l.places))
