use Rattle.std.proofs.Common.{◌≡◌, ℕ, ◌<◌, ◌≤◌, map, length, get_or}
use Rattle.sipl_srv.specs.Order.{priority_at}
use Rattle.sipl_srv.proofs.order.least_priority.Given as goal

abbrev pub invariant-loop-place : goal.invariant-loop-place
invariant-loop-place g l =
    ((k : ℕ) → k < l.place-index → l.least ≤ priority_at (map g.T.Ranked.rank l.picks) (get_or l.places k 0))
    × ((k : ℕ) × (k < length l.places) × (priority_at (map g.T.Ranked.rank l.picks) (get_or l.places k 0) ≡ l.least))
