use Rattle.std.proofs.Common.{◌≡◌, IfOk, sym, subst, ◌∙◌}
use Rattle.sipl_records.specs.Sets.{set_of}
use Rattle.sipl_plans.proofs.Routing.{offered_supported}
use Rattle.sipl_plans.proofs.route.route_over_service.Goals as goal

pub returns : goal.returns
returns c =
    subst (λ all. IfOk c.follow_offer.result (λ layout. layout ≡ all))
    (offered_supported (set_of c.args.records.now) c.args.abilities.now c.args.name.now c.args.transport _ c.in_ok-offer.offer (sym c.supports.ensures ∙ c.if-not-supports.false) c.in_ok-offer.ensures (c.as_ref.ensures.value ∙ c.in_ok-service.ensures.name))
    c.follow_offer.ensures
