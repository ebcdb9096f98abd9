use Rattle.std.proofs.Common.{◌≢◌, List, Some, option_map, sym, ap, subst, ◌∙◌}
use Rattle.std.specs.List.{AllPairs}
use Rattle.std.specs.Map.{values_of}
use Rattle.sipl_book.specs.Entries.{EntryState, entry_of}
use Rattle.sipl_book.specs.Repairs.{without}
use Rattle.sipl_book.proofs.Removing.{values-removed, IsTable-removed}
use Rattle.sipl_book.proofs.Table.{get-entry_of, questions-table}
use Rattle.sipl_book.proofs.entries.Entries.remove.Goals as goal

pub returns-in_err-entry-clause-questions : goal.returns-in_err-entry-clause-questions
returns-in_err-entry-clause-questions c =
    subst (λ (es : List EntryState). AllPairs (λ a b. a.found.question ≢ b.found.question) es) c.self.view_is
    (questions-table c.self.inside.table.entries c.self.invariant)

pub returns-in_err-entry-clause-id : goal.returns-in_err-entry-clause-id
returns-in_err-entry-clause-id c =
    let q = c.args.question.now in
    let es = c.self.inside.table.entries in
    c.from_residual.ensures
    ∙ ap (option_map (λ (e : EntryState). e.id)) (sym c.in_err-entry.was ∙ c.shift_remove.ensures.value ∙ get-entry_of q es c.self.invariant ∙ ap (λ xs. entry_of xs q) c.self.view_is)

pub returns-in_err-entry-clause-after : goal.returns-in_err-entry-clause-after
returns-in_err-entry-clause-after c =
    ap values_of c.shift_remove.ensures.entries ∙ values-removed c.args.question.now c.self.inside.table.entries c.self.invariant
    ∙ ap (without c.args.question.now) c.self.view_is

pub invariant_of-self-2 : goal.invariant_of-self-2
invariant_of-self-2 c =
    IsTable-removed c.args.question.now c.self.inside.table.entries c.shift_remove.new.self.entries c.self.invariant c.shift_remove.ensures.entries c.shift_remove.ensures.unique

pub returns-clause-questions : goal.returns-clause-questions
returns-clause-questions c =
    subst (λ (es : List EntryState). AllPairs (λ a b. a.found.question ≢ b.found.question) es) c.self.view_is
    (questions-table c.self.inside.table.entries c.self.invariant)

pub returns-clause-id : goal.returns-clause-id
returns-clause-id c =
    let q = c.args.question.now in
    let es = c.self.inside.table.entries in
    ap Some c.id-id.ensures
    ∙ ap (option_map (λ (e : EntryState). e.id)) (sym c.in_ok-entry.was ∙ c.shift_remove.ensures.value ∙ get-entry_of q es c.self.invariant ∙ ap (λ xs. entry_of xs q) c.self.view_is)

pub returns-clause-after : goal.returns-clause-after
returns-clause-after c =
    ap values_of c.shift_remove.ensures.entries ∙ values-removed c.args.question.now c.self.inside.table.entries c.self.invariant
    ∙ ap (without c.args.question.now) c.self.view_is
