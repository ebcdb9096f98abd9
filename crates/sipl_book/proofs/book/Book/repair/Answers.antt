use Rattle.std.proofs.Common.{◌≢◌, [], ap, length, arith}
use Rattle.std.proofs.lemmas.Result.{err_from_is_err_and}
use Rattle.sipl_book.proofs.Repairing.{looked_at_more, renewed-more, unrepaired}
use Rattle.sipl_book.proofs.book.Book.repair.Goals as goal

pub loop-self-preserved : goal.loop-self-preserved
loop-self-preserved c =
    let so = c.loop-self.invariant in
    let next = c.in_ok-repair_next.ensures in
    record {
      renewed = renewed-more c.args.self.now c.loop-self.self c.repair_next.new.self so.renewed next.renewed;
      looks = looked_at_more c.args.self.now c.loop-self.self c.repair_next.new.self so.renewed so.looks next.next next.looks;
    }

pub returns-in_err-repair_next : goal.returns-in_err-repair_next
returns-in_err-repair_next c =
    let so = c.loop-self.invariant in
    let next = c.in_err-repair_next.ensures in
    let waits : c.loop-self.self.queue.queued ≢ [] = λ none. omega (arith, ap length none) in
    let p = err_from_is_err_and c.from_residual.result c.from_residual.ensures.1 in
    rw (p.1, p.2) (unrepaired c.args.self.now c.loop-self.self c.repair_next.new.self c.in_err-repair_next.field-0.0 so.renewed waits next.failed next.renewed)
