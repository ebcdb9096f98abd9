use Rattle.sipl_book.proofs.Repairing.{settled, settled_looks, settled_ok, renewed-returned}
use Rattle.sipl_book.proofs.book.Book.repair_next.Goals as goal

pub unwrap-requires : goal.unwrap-requires
unwrap-requires c =
    let lease = c.in_ok-lease.ensures.leased in
    settled_ok c.args.self.now c.in_ok-lease.lease c.in_ok-lease.question lease.id lease.idle c.in_ok-lease.ensures.entry c.lease.new.self c.locate.new.self lease.after c.locate.ensures.unchanged c.locate.ensures.counted
    c.in-Ok.finding c.settle.new.self c.settle.result c.in-Ok.ensures.located c.settle.ensures

pub returns-in-Ok-clause-renewed : goal.returns-in-Ok-clause-renewed
returns-in-Ok-clause-renewed c =
    let lease = c.in_ok-lease.ensures.leased in
    (settled c.args.self.now c.in_ok-lease.lease c.in_ok-lease.question lease.id lease.idle c.in_ok-lease.ensures.entry c.lease.new.self c.locate.new.self lease.after c.locate.ensures.unchanged c.locate.ensures.counted
    c.in-Ok.finding c.settle.new.self c.settle.result c.in-Ok.ensures.located c.settle.ensures).0

pub returns-in-Ok-clause-looks : goal.returns-in-Ok-clause-looks
returns-in-Ok-clause-looks c =
    let lease = c.in_ok-lease.ensures.leased in
    settled_looks c.args.self.now c.in_ok-lease.lease c.in_ok-lease.question lease.id lease.idle c.in_ok-lease.ensures.entry c.lease.new.self c.locate.new.self lease.after c.locate.ensures.unchanged c.locate.ensures.counted
    c.in-Ok.finding c.settle.new.self c.settle.result c.in-Ok.ensures.located c.settle.ensures c.in-Ok.ensures.looks lease.question

pub returns-in-Err-clause-renewed : goal.returns-in-Err-clause-renewed
returns-in-Err-clause-renewed c =
    let lease = c.in_ok-lease.ensures.leased in
    renewed-returned c.args.self.now c.in_ok-lease.lease c.in_ok-lease.question lease.id lease.idle c.in_ok-lease.ensures.entry c.lease.new.self c.locate.new.self lease.after c.locate.ensures.unchanged c.locate.ensures.counted
    c.give_back.new.self c.give_back.ensures
