use Rattle.std.proofs.Common.{◌∙◌}
use Rattle.std.proofs.lemmas.Bool.Decides.{Decides-at}
use Rattle.sipl_book.specs.Machine.{empty_state}
use Rattle.sipl_book.specs.SameState.{same_state, same_state_decides}
use Rattle.sipl_book.proofs.page.Page.is_first.Goals as goal

pub returns : goal.returns
returns c =
    Decides-at _ _ (c.eq-is_first.ensures ∙ (λ i. same_state ((c.self.view_is i).base) (c.empty-empty.ensures i)))
    (same_state_decides c.args.self.now.base empty_state)
