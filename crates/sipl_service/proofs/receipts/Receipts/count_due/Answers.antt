use Rattle.std.proofs.Common.{◌≡◌, length, take, drop, arith}
use Rattle.sipl_service.specs.Receipts.{due, later}
use Rattle.sipl_service.proofs.Handed.{cut, cut_here}
use Rattle.sipl_service.proofs.receipts.Receipts.count_due.Goals as goal

module _ (c : goal.Then-index-end) where
  here : (take c.loop-place.place c.self.inside.queue.items ≡ due c.args.end c.self.inside.queue.items) × (drop c.loop-place.place c.self.inside.queue.items ≡ later c.args.end c.self.inside.queue.items)
  here =
      let long : c.len-len.result ≡ length c.self.inside.queue.items = rw c.self.view_is c.len-len.ensures in
      cut_here c.args.end c.loop-place.place c.self.inside.queue.items c.index.result.now c.self.invariant (omega arith) c.loop-place.invariant c.index.ensures c.if-index-end.true

module _ (c : goal.After-loop-place) where
  all : (take c.len-len.result c.self.inside.queue.items ≡ due c.args.end c.self.inside.queue.items) × (drop c.len-len.result c.self.inside.queue.items ≡ later c.args.end c.self.inside.queue.items)
  all =
      let long : c.len-len.result ≡ length c.self.inside.queue.items = rw c.self.view_is c.len-len.ensures in
      cut c.args.end c.len-len.result c.self.inside.queue.items c.self.invariant (omega arith) (λ k d less. c.loop-place.invariant k d (omega arith)) (λ d less. absurd (omega arith))

pub returns-then-index-end-clause-due : goal.returns-then-index-end-clause-due
returns-then-index-end-clause-due c = rw (← c.self.view_is) (here c).0

pub returns-then-index-end-clause-later : goal.returns-then-index-end-clause-later
returns-then-index-end-clause-later c = rw (← c.self.view_is) (here c).1

pub returns-clause-due : goal.returns-clause-due
returns-clause-due c = rw (← c.self.view_is) (all c).0

pub returns-clause-later : goal.returns-clause-later
returns-clause-later c = rw (← c.self.view_is) (all c).1
