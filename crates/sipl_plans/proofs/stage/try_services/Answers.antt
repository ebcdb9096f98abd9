use Rattle.std.proofs.Common.{◌≡◌, ◌<◌, length, get_or, drop, sym, ap, subst, ◌∙◌}
use Rattle.sipl_choice.specs.declared.transport.Transport.TheVariants.{Udp}
use Rattle.sipl_evidence.specs.Walks.{walk_asking}
use Rattle.sipl_plans.proofs.ServiceWalks.{services_left, services_left-walk}
use Rattle.sipl_plans.proofs.stage.try_services.Goals as goal

pub returns-in-Some : goal.returns-in-Some
returns-in-Some c =
    let client = c.args.domain.abilities.now in
    let name = c.args.domain.name.now in
    let secure = c.args.domain.question.now.secure in
    let closed = c.args.is_closed in
    let place = c.loop-place.place in
    let all = c.preference-preference.ensures.value in
    let transport = get_or c.preference-preference.result.now place Udp in
    let inside : place < length client.preference = subst (λ transports. place < length transports) all c.loop-place-test.true in
    let left : services_left client name secure closed (drop place client.preference) ≡ services_left client name secure closed (drop c.args.next client.preference) = subst (λ transports. services_left client name secure closed (drop place transports) ≡ services_left client name secure closed (drop c.args.next transports)) all c.loop-place.invariant in
    sym (services_left-walk client name secure closed client.preference place transport Udp c.in-Some.service (walk_asking c.start-walk.result) inside (ap (λ transports. get_or transports place Udp) all) (sym c.is_tried.ensures ∙ c.if-not-is_tried.false) (sym c.in_ok-service.ensures.name ∙ c.in-Some.is) c.start-walk.ensures)
    ∙ left
