use Rattle.std.proofs.Common.{◌≡◌, IfOk, true, sym, ap, subst, ◌∙◌}
use Rattle.sipl_records.specs.Sets.{set_of}
use Rattle.sipl_choice.specs.Abilities.{supports}
use Rattle.sipl_choice.specs.FamilyKinds.{address_kinds}
use Rattle.sipl_plans.specs.Route.{addresses, sole_server}
use Rattle.sipl_plans.proofs.Routing.{own_supported}
use Rattle.sipl_plans.proofs.route.route_to_addresses.Goals as goal

pub returns : goal.returns
returns c =
    let look = set_of c.args.records.now in
    let client = c.args.abilities.now in
    let supported : supports client.preference c.args.transport ≡ true = sym c.supports.ensures ∙ c.if-not-supports.false in
    let found : c.in_ok-found.found.items ≡ addresses look (address_kinds client.families) c.args.name.now =
    c.in_ok-found.ensures ∙ ap (λ families. addresses look (address_kinds families) c.args.name.now) c.families.ensures in
    subst (λ all. IfOk c.sole_server.result (λ layout. layout ≡ all))
    (ap (sole_server c.args.transport c.args.port) found ∙ sym (own_supported look client c.args.transport c.args.port c.args.name.now supported))
    c.sole_server.ensures
