use Rattle.std.proofs.Common.{◌≡◌, ◌≤◌, ◌∷◌, ◌++◌, [], Ok, sym, ap, subst, ◌∙◌}
use Rattle.sipl_book.specs.Book.{BookState}
use Rattle.sipl_book.specs.Calls.{IsChanged}
use Rattle.sipl_book.specs.declared.edit.Edit.{Edit}
use Rattle.sipl_book.specs.declared.outcome.Done.{Done}
use Rattle.sipl_service.specs.Passes.{IsOutcomeOf}
use Rattle.sipl_service.specs.declared.receipt.Receipt.{Receipt}
use Rattle.sipl_service.proofs.Passing.{passed-with}
use Rattle.sipl_service.proofs.service.Service.edit.Goals as goal

-- what the book that the lock lends reports
outcome : (edit made : Edit) (old new : BookState) (done : Done) → made ≡ edit → IsChanged made old new (Ok done) → IsOutcomeOf edit done
outcome edit made old new done same change =
    record { old = old; new = new; change = subst (λ (e : Edit). IsChanged e old new (Ok done)) same change }

pub returns-clause-outcome : goal.returns-clause-outcome
returns-clause-outcome g c =
    outcome c.args.edit c.in_ok-new.new.value.edit c.deref_mut.result.now.book c.change-changed.new.self.book c.in_ok-edited.edited.done c.in_ok-new.ensures.edit c.in_ok-edited.ensures.changed

pub invariant_of-pass-3 : goal.invariant_of-pass-3
invariant_of-pass-3 g c =
    let receipt = c.into_receipt.result in
    let number = ap (λ (r : Receipt). r.number) c.into_receipt.ensures ∙ c.in_ok-edited.ensures.number in
    passed-with (record { receipts = c.pass.inside.receipts.items; front = c.pass.inside.front }) _ _ receipt c.pass.invariant
    (subst (λ n. c.pass.inside.front ≤ n) (sym number) c.in_ok-edited.ensures.front)
    (c.add_receipt.ensures.receipts ∙ ap (λ xs. xs ++ receipt ∷ []) c.reserve.ensures.items) c.add_receipt.ensures.front
