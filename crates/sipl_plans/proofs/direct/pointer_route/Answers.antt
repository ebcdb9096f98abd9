use Rattle.std.proofs.Common.{Some, sym, ◌∙◌, ap}
use Rattle.sipl_choice.specs.Pointers.{chosen}
use Rattle.sipl_plans.specs.Readings.{outcome}
use Rattle.sipl_plans.specs.Route.{asking_offer}
use Rattle.sipl_plans.proofs.Outcomes.{leads}
use Rattle.sipl_plans.proofs.RoutesRead.{after_pointers, by_choice-read, without_choice-read, pointers-read}
use Rattle.sipl_plans.proofs.direct.pointer_route.Goals as goal

pub returns-in_default-clause-route : goal.returns-in_default-clause-route
returns-in_default-clause-route g c =
    let source = g.S.Sets.source in
    let client = c.args.abilities.now in
    let name = c.args.name.now in
    let secure = c.args.secure in
    let set = c.contents-set.result.now in
    leads c.services_route.result (λ layout. layout) _ _ c.services_route.new.evidence c.services_route.new.sets
    (pointers-read source client name secure c.args.evidence.now c.answer.new.evidence c.args.sets.now c.answer.new.sets _ c.in_ok-place.ensures.answer
    ∙ ap (λ set. outcome source (after_pointers source client name secure set) c.answer.new.evidence c.answer.new.sets) (sym c.contents-set.ensures)
    ∙ without_choice-read source client name secure (chosen secure client set) c.answer.new.evidence c.answer.new.sets c.in_default.ensures)
    c.services_route.ensures.route

pub returns-clause-route : goal.returns-clause-route
returns-clause-route g c =
    let source = g.S.Sets.source in
    let client = c.args.abilities.now in
    let name = c.args.name.now in
    let secure = c.args.secure in
    let set = c.contents-set.result.now in
    leads c.follow_offer.result (λ layout. layout) _ _ c.follow_offer.new.evidence c.follow_offer.new.sets
    (pointers-read source client name secure c.args.evidence.now c.answer.new.evidence c.args.sets.now c.answer.new.sets _ c.in_ok-place.ensures.answer
    ∙ ap (λ set. outcome source (after_pointers source client name secure set) c.answer.new.evidence c.answer.new.sets) (sym c.contents-set.ensures)
    ∙ by_choice-read source client name secure (chosen secure client set) c.in-Some.transport c.in-Some.service.now c.in_ok-offer.offer c.answer.new.evidence c.offer_at.new.evidence c.answer.new.sets c.offer_at.new.sets c.in-Some.ensures
    (ap (λ service. outcome source (asking_offer (Some service)) c.answer.new.evidence c.answer.new.sets) (sym c.in_ok-service.ensures.value) ∙ c.in_ok-offer.ensures.offer))
    c.follow_offer.ensures.route
