use Rattle.std.proofs.Common.{◌≡◌, None, position, sym, ◌∙◌}
use Rattle.sipl_book.specs.Calls.{is_renumbered}
use Rattle.sipl_book.proofs.Staleness.{current-numbered}
use Rattle.sipl_book.proofs.book.Book.commit.Goals as goal

pub commit_current-requires-clause-current : goal.commit_current-requires-clause-current
commit_current-requires-clause-current c =
    let book = c.args.self.now in
    let found = c.args.finding in
    let same : position (is_renumbered book.store) found.items ≡ None =
    (λ i. position (is_renumbered ((sym c.self.view_is i).store)) (sym (c.items.ensures.items ∙ c.evidence.ensures.evidence) i)) ∙ sym c.first_renumbered.ensures ∙ c.in_default.is in
    current-numbered book.store found.items c.requires.honest same
