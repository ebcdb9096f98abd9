use Rattle.std.proofs.Common.{◌≡◌, Bool, false, ◌+◌, IfOk, filter, drop, get_or, sym, ap, subst, ◌∙◌}
use Rattle.std.proofs.lemmas.List.{drop_more}
use Rattle.sipl_records.specs.Sets.{set_of}
use Rattle.sipl_choice.specs.declared.transport.Transport.TheVariants.{Udp}
use Rattle.sipl_srv.specs.declared.pick.Offer.{Offer}
use Rattle.sipl_evidence.specs.Looks.{Asking, result_of}
use Rattle.sipl_plans.specs.declared.layout.Layout.{Layout}
use Rattle.sipl_plans.specs.Route.{asking_served, asking_services, asking_tried, is_tried}
use Rattle.sipl_plans.proofs.Routing.{over_tried, route_over}
use Rattle.sipl_plans.proofs.route.route_by_service.Goals as goal
use Rattle.sipl_plans.proofs.route.route_by_service.Goals.{In_ok-picks, in-Closed, in-Nothing}

-- what an offer over this transport leads to
abbrev tried : (c : In_ok-picks) → Bool → Offer → Layout
tried c closed offer =
    let client = c.args.abilities.now in
    let items = c.preference-transport-items.result.now in
    let i = c.loop-transport.transport-index in
    let later : Bool → Asking Layout = λ now. asking_services client c.args.name.now c.args.secure now (filter (is_tried c.args.secure) (drop (i + 1) items)) in
    result_of (set_of c.args.records.now) (asking_tried client (get_or items i Udp) later closed offer)

-- the offer decides the route
decided : (c : In_ok-picks) → tried c c.loop-transport.is_closed c.in_ok-picks.field-0 ≡ route_over (set_of c.args.records.now) c.args.abilities.now c.args.name.now c.args.secure false c.args.abilities.now.preference
decided c =
    let items = c.preference-transport-items.result.now in
    let i = c.loop-transport.transport-index in
    sym (over_tried (set_of c.args.records.now) c.args.abilities.now c.args.name.now c.args.secure c.loop-transport.is_closed (drop i items) (get_or items i Udp) (drop (i + 1) items) _ c.in_ok-picks.field-0
    (drop_more items i Udp c.loop-transport-test.true)
    (sym c.is_tried.ensures ∙ c.if-not-is_tried.false)
    c.in_ok-picks.ensures
    (c.as_ref.ensures.value ∙ c.in_ok-service.ensures.name))
    ∙ c.loop-transport.invariant

pub returns-in-Picks : goal.returns-in-Picks
returns-in-Picks c =
    let shared = (goal.at.returns-in-Picks c).In_ok-picks in
    let look = set_of c.args.records.now in
    let transport = get_or c.preference-transport-items.result.now c.loop-transport.transport-index Udp in
    subst (λ all. IfOk c.serve.result (λ layout. layout ≡ all))
    (ap (λ picks. result_of look (asking_served c.args.abilities.now transport picks)) c.as_slice.ensures
    ∙ ap (tried shared c.loop-transport.is_closed) (sym c.in-Picks.is)
    ∙ decided shared)
    c.serve.ensures

pub loop-transport-preserved : goal.loop-transport-preserved
loop-transport-preserved c =
    let shared = (goal.at.loop-transport-preserved c).In_ok-picks in
    let route : Bool → Layout = λ closed. route_over (set_of c.args.records.now) c.args.abilities.now c.args.name.now c.args.secure closed (drop (c.loop-transport.transport-index + 1) c.preference-transport-items.result.now) in
    elim c.match-branch-3.branch [
      | in-Closed w ↦ ap route w.is_closed-is ∙ ap (tried shared c.loop-transport.is_closed) (sym w.in-Closed.is) ∙ decided shared
      | in-Nothing w ↦ ap route w.is_closed-is ∙ ap (tried shared c.loop-transport.is_closed) (sym w.in-Nothing.is) ∙ decided shared
    ]
