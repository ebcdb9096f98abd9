use Rattle.std.proofs.Common.{sym, ◌∙◌}
use Rattle.sipl_service.specs.Refusals.{early_fault}
use Rattle.sipl_service.proofs.FirstFault.{hand_before}
use Rattle.sipl_service.proofs.answers.hand.Goals as goal

pub returns-in-Err-clause-refused : goal.returns-in-Err-clause-refused
returns-in-Err-clause-refused c = λ known.
    hand_before c.args.pass.now c.args.asked.value c.args.book.now c.in-Err.fault
    ((λ i. early_fault c.args.pass.now (sym c.deref.ensures i).abilities (sym c.deref-2.ensures i).held c.args.book.now) ∙ c.in-Err.ensures.refused)
