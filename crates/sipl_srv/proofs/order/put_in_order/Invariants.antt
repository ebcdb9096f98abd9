use Rattle.std.proofs.Common.{◌≡◌, ℕ, ◌<◌, List, ◌++◌, map, length, take, drop}
use Rattle.std.specs.List.{All}
use Rattle.sipl_srv.specs.Order.{AreDistinct, order_of}
use Rattle.sipl_srv.proofs.order.put_in_order.Given as goal

abbrev pub invariant-loop-k : goal.invariant-loop-k
invariant-loop-k g l = record {
  valid : All (λ place. place < length l.picks) (drop l.k l.places);
  distinct : AreDistinct (drop l.k l.places);
  ordered : (more : List ℕ) → take l.k l.places ++ order_of (map g.T.Ranked.rank l.picks) (drop l.k l.places) (drop l.k l.words ++ more)
      ≡ order_of (map g.T.Ranked.rank l.picks) l.fn.places (l.words ++ more);
}
