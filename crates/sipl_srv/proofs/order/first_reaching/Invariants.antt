use Rattle.std.proofs.Common.{◌≡◌, ◌*◌, ◌≤◌, map, drop}
use Rattle.sipl_srv.specs.Order.{of_priority, first_reaching}
use Rattle.sipl_srv.proofs.order.first_reaching.Given as goal

abbrev pub invariant-loop-i : goal.invariant-loop-i
invariant-loop-i g l = (l.sum ≤ 65535 * l.i)
    × (first_reaching (map g.T.Ranked.rank l.picks) l.number l.sum (of_priority (map g.T.Ranked.rank l.picks) l.priority (drop l.i l.places))
    ≡ first_reaching (map g.T.Ranked.rank l.picks) l.number 0 (of_priority (map g.T.Ranked.rank l.picks) l.priority l.places))
