use Rattle.std.proofs.Common.{◌≡◌, sym, ap, ◌∙◌, true≢false, rules}
use Rattle.std.specs.Bool.{Decides}
use Rattle.std.proofs.lemmas.Bool.Decides.{Decides-at, Decides-like}
use Rattle.sipl_choice.specs.Abilities.{Client, same_client}
use Rattle.sipl_choice.specs.SameClient.{same_client_decides}
use Rattle.sipl_outages.specs.declared.held.Held.{Held}
use Rattle.sipl_outages.specs.contracts.held.HeldPartialEq.TheImpl.{eq-value as held_eq}
use Rattle.sipl_service.proofs.ledger.is_for_client_of.Goals as goal

same_held_decides : (a b : Held) → Decides (held_eq.it a b) (a ≡ b)
same_held_decides a b = search rules

pub returns-then-eq : goal.returns-then-eq
returns-then-eq c =
    let page = c.args.page.now in
    let last = c.args.last.now in
    let client : Decides c.eq.result (page.client ≡ last.abilities) =
    Decides-at _ _ (c.eq.ensures ∙ ap (λ (x : Client). same_client x last.abilities) c.abilities.ensures) (same_client_decides page.client last.abilities) in
    let held : Decides c.eq-then-eq.result (page.held ≡ last.held) =
    Decides-at _ _ (c.eq-then-eq.ensures ∙ ap (λ (h : Held). held_eq.it h last.held) c.held.ensures) (same_held_decides page.held last.held) in
    Decides-like _ (λ e. (client.0 c.if-eq.true, e)) (λ e. e.1) held

pub returns-else-eq : goal.returns-else-eq
returns-else-eq c =
    let page = c.args.page.now in
    let last = c.args.last.now in
    let client : Decides c.eq.result (page.client ≡ last.abilities) =
    Decides-at _ _ (c.eq.ensures ∙ ap (λ (x : Client). same_client x last.abilities) c.abilities.ensures) (same_client_decides page.client last.abilities) in
    (λ e. absurd (true≢false (sym e ∙ c.if-eq.false)), λ e. client.1 e.0)
