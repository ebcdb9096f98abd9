use Rattle.std.proofs.Common.{sym, subst, ◌∙◌}
use Rattle.sipl_book.specs.Book.{BookState}
use Rattle.sipl_book.specs.Honesty.{AreCurrent}
use Rattle.sipl_book.proofs.Unrefused.{current_unrefused}
use Rattle.sipl_book.proofs.book.Book.commit_answer.Goals as goal

pub commit_drawn-requires-clause-current : goal.commit_drawn-requires-clause-current
commit_drawn-requires-clause-current c =
    let found = c.args.finding in
    subst (λ (b : BookState). AreCurrent b.store found.items) (sym c.commit_fault.ensures.looks)
    (current_unrefused found c.args.self.now (sym c.commit_fault.ensures.fault ∙ c.in-None.is))
