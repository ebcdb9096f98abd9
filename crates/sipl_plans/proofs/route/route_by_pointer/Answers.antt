use Rattle.std.proofs.Common.{◌≡◌, IfOk, subst, ◌∙◌}
use Rattle.sipl_records.specs.Sets.{set_of}
use Rattle.sipl_choice.specs.Pointers.{chosen}
use Rattle.sipl_plans.proofs.Routing.{by_choice, without_choice, chosen_first}
use Rattle.sipl_plans.proofs.route.route_by_pointer.Goals as goal

pub returns-in_default : goal.returns-in_default
returns-in_default c =
    let look = set_of c.args.records.now in
    let client = c.args.abilities.now in
    let name = c.args.name.now in
    let secure = c.args.secure in
    let set = c.deref.result.now in
    subst (λ all. IfOk c.route_by_service.result (λ layout. layout ≡ all))
    (without_choice look client name secure (chosen secure client set) c.in_default.ensures
    ∙ chosen_first look client name secure set (c.deref.ensures.value ∙ c.in_ok-set.ensures))
    c.route_by_service.ensures

pub returns : goal.returns
returns c =
    let look = set_of c.args.records.now in
    let client = c.args.abilities.now in
    let name = c.args.name.now in
    let secure = c.args.secure in
    let set = c.deref.result.now in
    subst (λ all. IfOk c.follow_offer.result (λ layout. layout ≡ all))
    (by_choice look client name secure (chosen secure client set) c.in-Some.transport c.in-Some.service.now c.in_ok-offer.offer c.in-Some.ensures c.in_ok-offer.ensures
    ∙ chosen_first look client name secure set (c.deref.ensures.value ∙ c.in_ok-set.ensures))
    c.follow_offer.ensures
