use Rattle.std.proofs.Common.{◌≡◌, ap, sym, ◌∙◌}
use Rattle.std.proofs.lemmas.Bool.Decides.{Decides-at, Decides-like}
use Rattle.sipl_book.specs.Pages.{next_of}
use Rattle.sipl_book.specs.SameState.{same_state, same_state_decides}
use Rattle.sipl_book.proofs.page.Page.begins_after.Goals as goal

pub returns-then-self-next : goal.returns-then-self-next
returns-then-self-next c =
    let page = c.args.self.now in
    let before = c.args.before.now in
    let first : page.first ≡ next_of before = ap (λ p. p.first) (sym c.self.view_is) ∙ c.if-self-next.true ∙ c.next.ensures.next in
    Decides-like _ (λ e. (first, e)) (λ e. e.1)
    (Decides-at _ _ (c.eq.ensures ∙ (λ i. same_state ((c.self.view_is i).base) ((c.before-2.view_is i).result)))
    (same_state_decides page.base before.result))
