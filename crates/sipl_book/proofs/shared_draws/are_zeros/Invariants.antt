use Rattle.std.proofs.Common.{◌≡◌, [], take}
use Rattle.sipl_book.specs.Words.{without_last_zeros}
use Rattle.sipl_book.proofs.shared_draws.are_zeros.Given as goal

abbrev pub invariant-loop-word : goal.invariant-loop-word
invariant-loop-word l = l.bits ≡ 0 → without_last_zeros (take l.word-index l.words) ≡ []
