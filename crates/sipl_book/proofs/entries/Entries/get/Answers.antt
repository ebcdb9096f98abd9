use Rattle.std.proofs.Common.{◌≡◌, ◌≢◌, List, [], sym, ap, subst, ◌∙◌}
use Rattle.std.proofs.lemmas.List.{nil_from_length}
use Rattle.std.specs.Map.{values_of}
use Rattle.std.specs.List.{AllPairs}
use Rattle.sipl_book.specs.Entries.{EntryState, entry_of}
use Rattle.sipl_book.proofs.Table.{get-entry_of, questions-table}
use Rattle.sipl_book.proofs.entries.Entries.get.Goals as goal

pub returns-then-is_empty-clause-entry : goal.returns-then-is_empty-clause-entry
returns-then-is_empty-clause-entry c =
    let k = c.args.question.now in
    let none : c.self.inside.table.entries ≡ [] = nil_from_length _ (c.is_empty.ensures.0 c.if-is_empty.true) in
    ap (λ es. entry_of (values_of es) k) (sym none) ∙ ap (λ es. entry_of es k) c.self.view_is

pub returns-then-is_empty-clause-questions : goal.returns-then-is_empty-clause-questions
returns-then-is_empty-clause-questions c =
    subst (λ (es : List EntryState). AllPairs (λ a b. a.found.question ≢ b.found.question) es) c.self.view_is
    (questions-table c.self.inside.table.entries c.self.invariant)

pub returns-clause-entry : goal.returns-clause-entry
returns-clause-entry c =
    let k = c.args.question.now in
    c.get.ensures.value
    ∙ get-entry_of k c.self.inside.table.entries c.self.invariant
    ∙ ap (λ es. entry_of es k) c.self.view_is

pub returns-clause-questions : goal.returns-clause-questions
returns-clause-questions c =
    subst (λ (es : List EntryState). AllPairs (λ a b. a.found.question ≢ b.found.question) es) c.self.view_is
    (questions-table c.self.inside.table.entries c.self.invariant)
