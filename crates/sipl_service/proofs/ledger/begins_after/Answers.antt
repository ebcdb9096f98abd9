use Rattle.std.proofs.Common.{◌≡◌, sym, ap, ◌∙◌}
use Rattle.std.proofs.lemmas.Bool.Decides.{Decides-at, Decides-like}
use Rattle.sipl_book.specs.Machine.{State}
use Rattle.sipl_book.specs.SameState.{same_state, same_state_decides}
use Rattle.sipl_service.proofs.ledger.begins_after.Goals as goal

pub returns-then-first-last : goal.returns-then-first-last
returns-then-first-last c =
    let page = c.args.page.now in
    let last = c.args.last.now in
    let first : page.first ≡ last.next = sym c.first.ensures.first ∙ c.if-first-last.true in
    Decides-like _ (λ e. (first, e)) (λ e. e.1)
    (Decides-at _ _ (c.eq.ensures ∙ ap (λ (s : State). same_state s last.result) c.base.ensures) (same_state_decides page.base last.result))
