use Rattle.std.proofs.Common.{ap, take, get_or, ◌∙◌}
use Rattle.std.proofs.lemmas.List.{take_more}
use Rattle.sipl_book.specs.Words.{without_last_zeros}
use Rattle.sipl_book.proofs.Words.{none_before}
use Rattle.sipl_book.proofs.shared_draws.are_zeros.Goals as goal

pub loop-word-preserved : goal.loop-word-preserved
loop-word-preserved c = λ none.
    let words = c.args.words.now in
    let count = c.loop-word.word-index in
    ap without_last_zeros (take_more words count 0 c.loop-word-test.true)
    ∙ none_before (take count words) (get_or words count 0) c.loop-word.bits c.loop-word.invariant none
