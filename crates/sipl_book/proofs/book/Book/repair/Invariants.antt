use Rattle.std.proofs.Common.{length}
use Rattle.sipl_book.specs.Lookups.{IsRenewed}
use Rattle.sipl_book.proofs.Repairing.{LooksAtFirst}
use Rattle.sipl_book.proofs.book.Book.repair.Given as goal

abbrev pub invariant-loop-self : goal.invariant-loop-self
invariant-loop-self l = record {
  renewed : IsRenewed l.fn.self l.self;
  looks : LooksAtFirst l.fn.self l.self;
}

abbrev pub decreases-loop-self : goal.decreases-loop-self
decreases-loop-self l = length l.self.queue.queued
