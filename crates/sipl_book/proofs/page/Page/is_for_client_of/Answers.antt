use Rattle.std.proofs.Common.{◌≡◌, sym, ◌∙◌, true≢false, rules}
use Rattle.std.specs.Bool.{Decides}
use Rattle.std.proofs.lemmas.Bool.Decides.{Decides-at, Decides-like}
use Rattle.sipl_choice.specs.Abilities.{same_client}
use Rattle.sipl_choice.specs.SameClient.{same_client_decides}
use Rattle.sipl_outages.specs.declared.held.Held.{Held}
use Rattle.sipl_outages.specs.contracts.held.HeldPartialEq.TheImpl.{eq-value as held_eq}
use Rattle.sipl_book.proofs.page.Page.is_for_client_of.Goals as goal

same_held_decides : (a b : Held) → Decides (held_eq.it a b) (a ≡ b)
same_held_decides a b = search rules

pub returns-then-eq : goal.returns-then-eq
returns-then-eq c =
    let page = c.args.self.now in
    let other = c.args.other.now in
    let client : Decides c.eq.result (page.client ≡ other.client) =
    Decides-at _ _ (c.eq.ensures ∙ (λ i. same_client ((c.self.view_is i).client) ((c.other.view_is i).client))) (same_client_decides page.client other.client) in
    let held : Decides c.eq-then-eq.result (page.held ≡ other.held) =
    Decides-at _ _ (c.eq-then-eq.ensures ∙ (λ i. held_eq.it ((c.self.view_is i).held) ((c.other.view_is i).held))) (same_held_decides page.held other.held) in
    Decides-like _ (λ e. (client.0 c.if-eq.true, e)) (λ e. e.1) held

pub returns-else-eq : goal.returns-else-eq
returns-else-eq c =
    let page = c.args.self.now in
    let other = c.args.other.now in
    let client : Decides c.eq.result (page.client ≡ other.client) =
    Decides-at _ _ (c.eq.ensures ∙ (λ i. same_client ((c.self.view_is i).client) ((c.other.view_is i).client))) (same_client_decides page.client other.client) in
    (λ e. absurd (true≢false (sym e ∙ c.if-eq.false)), λ e. client.1 e.0)
