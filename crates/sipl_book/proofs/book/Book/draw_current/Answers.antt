use Rattle.std.proofs.Common.{◌≡◌, true, sym, ap, ◌∙◌}
use Rattle.sipl_plans.specs.Plan.{draw}
use Rattle.sipl_book.specs.Book.{BookState, answer_now}
use Rattle.sipl_book.specs.BookFields.{book_of}
use Rattle.sipl_book.proofs.Answering.{current_answer}
use Rattle.sipl_book.proofs.book.Book.draw_current.Goals as goal

pub returns-clause-answer : goal.returns-clause-answer
returns-clause-answer c =
    let old : BookState = book_of c.self.inside in
    let q = c.args.question.now in
    let words = c.args.draws.now in
    let e = c.in-Some.entry.now in
    let current : e.is_current ≡ true = sym c.is_current.ensures ∙ c.if-is_current.true in
    c.in_ok-answer.ensures
    ∙ (λ i. draw e.found.layout (c.get-board.ensures i).holds words old.held)
    ∙ current_answer old q words e c.self.invariant (sym c.in-Some.ensures.entry) current
    ∙ ap (λ (b : BookState). answer_now b q words) c.self.view_is
