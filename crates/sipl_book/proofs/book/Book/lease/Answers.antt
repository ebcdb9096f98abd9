use Rattle.std.proofs.Common.{◌≡◌, ℕ, true, Result, Ok, Err, IfOk, Some, option_map, subst}
use Rattle.sipl_uri.specs.declared.question.Question.{Question}
use Rattle.sipl_book.specs.Book.{BookState}
use Rattle.sipl_book.specs.Entries.{entry_of}
use Rattle.sipl_book.specs.Repairs.{entry_with, is_outdated}
use Rattle.sipl_book.specs.declared.fault.BookFault.{BookFault}
use Rattle.sipl_book.proofs.Ids.{own_entry}
use Rattle.sipl_book.proofs.book.Book.lease.Goals as goal

pub returns-clause-entry : goal.returns-clause-entry
returns-clause-entry c =
    subst (λ (book : BookState). IfOk c.lease.result (λ leased. option_map (λ e. e.id) (entry_of book.entries leased.1) ≡ Some leased.0)) c.self.view_is
    (at_question c.lease.result c.lease.ensures.question)
  where
    at_question : (r : Result (ℕ × Question) BookFault) → IfOk r (λ leased. option_map (λ e. e.found.question) (entry_with c.self.inside.cache.entries leased.0) ≡ Some leased.1)
        → IfOk r (λ leased. option_map (λ e. e.id) (entry_of c.self.inside.cache.entries leased.1) ≡ Some leased.0)
    at_question (Ok leased) own = own_entry c.self.inside.cache.entries leased.0 leased.1 c.self.invariant.questions own
    at_question (Err fault) own = tt

pub returns-clause-outdated : goal.returns-clause-outdated
returns-clause-outdated c =
    subst (λ (book : BookState). IfOk c.lease.result (λ leased. is_outdated book.entries leased.0 ≡ true)) c.self.view_is c.lease.ensures.outdated
