use Rattle.std.proofs.Common.{◌∙◌}
use Rattle.sipl_book.proofs.Public.{draw-free}
use Rattle.sipl_service.proofs.answers.drawn_again.Goals as goal

pub returns-then-is_empty : goal.returns-then-is_empty
returns-then-is_empty c =
    c.requires.drawn
    ∙ draw-free c.args.board.now.holds (c.is_empty.ensures.empty.0 c.if-is_empty.true) c.args.finding.now.layout c.args.asked.now.draws c.args.asked.now.held
