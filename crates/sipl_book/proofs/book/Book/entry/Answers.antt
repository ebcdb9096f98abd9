use Rattle.std.proofs.Common.{◌≡◌, None, Some, IfSome, sym}
use Rattle.std.specs.Option.{option_copied}
use Rattle.sipl_book.specs.Entries.{entry_of}
use Rattle.sipl_book.proofs.Committed.{question-entry_of}
use Rattle.sipl_book.proofs.book.Book.entry.Goals as goal

pub returns-clause-question : goal.returns-clause-question
returns-clause-question c = by c.get.result c.get.ensures.entry
  where
    by : (o : _) → option_copied o ≡ entry_of c.self.inside.cache.entries c.args.question.now → IfSome o (λ e. e.now.found.question ≡ c.args.question.now)
    by None is = tt
    by (Some e) is = question-entry_of c.args.question.now c.self.inside.cache.entries e.now (sym is)
