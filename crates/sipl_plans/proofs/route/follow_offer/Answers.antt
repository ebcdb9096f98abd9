use Rattle.std.proofs.Common.{◌≡◌, IfOk, sym, ap, subst, ◌∙◌}
use Rattle.sipl_records.specs.Sets.{set_of}
use Rattle.sipl_choice.specs.FamilyKinds.{address_kinds}
use Rattle.sipl_choice.specs.Transports.{default_port}
use Rattle.sipl_evidence.specs.Looks.{result_of}
use Rattle.sipl_plans.specs.Route.{addresses, asking_offered, sole_server}
use Rattle.sipl_plans.proofs.Equations.{own_is}
use Rattle.sipl_plans.proofs.route.follow_offer.Goals as goal

pub returns-in_ok-found-in-Nothing : goal.returns-in_ok-found-in-Nothing
returns-in_ok-found-in-Nothing c =
    let look = set_of c.args.records.now in
    let client = c.args.abilities.now in
    let name = c.args.name.now in
    let transport = c.args.transport in
    let port = default_port transport in
    let found : c.in_ok-found-in-Nothing.found.items ≡ addresses look (address_kinds client.families) name =
    c.in_ok-found-in-Nothing.ensures ∙ ap (λ families. addresses look (address_kinds families) name) c.families.ensures in
    subst (λ all. IfOk c.sole_server.result (λ layout. layout ≡ all))
    (ap (λ p. sole_server transport p c.in_ok-found-in-Nothing.found.items) c.default_port.ensures
    ∙ ap (sole_server transport port) found
    ∙ sym (own_is look client transport port name)
    ∙ ap (λ offer. result_of look (asking_offered client name transport offer)) (sym c.in-Nothing.is))
    c.sole_server.ensures
