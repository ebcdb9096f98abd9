use Rattle.std.proofs.Common.{◌≡◌, [], ◌∷◌, ◌++◌, None, ap, ◌∙◌}
use Rattle.std.specs.Map.{values_of}
use Rattle.indexmap.specs.IndexMap.{insert_entry}
use Rattle.sipl_uri.specs.contracts.question.QuestionPartialEq.TheImpl.{eq-value}
use Rattle.sipl_book.specs.Entries.{entry_of}
use Rattle.sipl_book.proofs.Committed.{current}
use Rattle.sipl_book.proofs.Table.{IsTable-insert_entry, insert_entry-new}
use Rattle.sipl_book.proofs.entries.Entries.add.Goals as goal

pub invariant_of-self : goal.invariant_of-self
invariant_of-self c =
    let es = c.self.inside.table.entries in
    let found = c.args.finding in
    let new : c.insert.new.self.entries ≡ insert_entry eq-value.it es found.question (current c.args.id found) = cc (c.in-Ok-insert.ensures.entries, c.in-Ok.ensures.value) in
    IsTable-insert_entry c.args.id found es c.insert.new.self.entries c.self.invariant new c.insert.ensures.unique

pub returns-in-Ok-insert-clause-ok : goal.returns-in-Ok-insert-clause-ok
returns-in-Ok-insert-clause-ok c =
    let es = c.self.inside.table.entries in
    let found = c.args.finding in
    let none : entry_of (values_of es) found.question ≡ None = ap (λ xs. entry_of xs found.question) c.self.view_is ∙ c.requires.new in
    let new : c.insert.new.self.entries ≡ insert_entry eq-value.it es found.question (current c.args.id found) = cc (c.in-Ok-insert.ensures.entries, c.in-Ok.ensures.value) in
    ap values_of new ∙ insert_entry-new found c.args.id es c.self.invariant none
    ∙ ap (λ xs. xs ++ current c.args.id found ∷ []) c.self.view_is
