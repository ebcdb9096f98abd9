use Rattle.std.proofs.Common.{◌≡◌, length}
use Rattle.sipl_book.specs.Words.{without_last_zeros}
use Rattle.sipl_book.proofs.shared_draws.without_last_zeros.Given as goal

abbrev pub invariant-loop-before : goal.invariant-loop-before
invariant-loop-before l = without_last_zeros l.words ≡ without_last_zeros l.fn.words

abbrev pub decreases-loop-before : goal.decreases-loop-before
decreases-loop-before l = length l.words
