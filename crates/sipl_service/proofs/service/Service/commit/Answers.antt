use Rattle.std.proofs.Common.{◌≤◌, ◌++◌, ◌∷◌, [], sym, ap, subst, ◌∙◌}
use Rattle.sipl_service.specs.declared.receipt.Receipt.{Receipt}
use Rattle.sipl_service.proofs.Passing.{passed-with}
use Rattle.sipl_service.proofs.service.Service.commit.Goals as goal

pub invariant_of-pass-3 : goal.invariant_of-pass-3
invariant_of-pass-3 g c =
    let receipt = c.in_ok-answered.answered.receipt in
    let number = ap (λ (r : Receipt). r.number) c.in_ok-answered.ensures.answered.receipt in
    passed-with (record { receipts = c.pass.inside.receipts.items; front = c.pass.inside.front }) _ _ receipt c.pass.invariant
    (subst (λ n. c.pass.inside.front ≤ n) (sym number) c.in_ok-answered.ensures.front)
    (c.add_receipt.ensures.receipts ∙ ap (λ xs. xs ++ receipt ∷ []) c.reserve.ensures.items) c.add_receipt.ensures.front
