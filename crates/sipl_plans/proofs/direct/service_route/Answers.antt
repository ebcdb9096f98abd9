use Rattle.std.proofs.Common.{sym, ◌∙◌}
use Rattle.sipl_plans.proofs.Outcomes.{leads}
use Rattle.sipl_plans.proofs.RoutesRead.{offered_supported-read}
use Rattle.sipl_plans.proofs.direct.service_route.Goals as goal

pub returns-clause-route : goal.returns-clause-route
returns-clause-route g c =
    leads c.follow_offer.result (λ layout. layout) _ _ c.follow_offer.new.evidence c.follow_offer.new.sets
    (offered_supported-read g.S.Sets.source c.args.abilities.now c.args.name.now c.args.transport _ c.args.evidence.now c.offer_at.new.evidence c.args.sets.now c.offer_at.new.sets c.in_ok-offer.offer
    (sym c.supports.ensures ∙ c.if-not-supports.false) (c.as_ref.ensures.value ∙ c.in_ok-service.ensures.name) c.in_ok-offer.ensures.offer)
    c.follow_offer.ensures.route
