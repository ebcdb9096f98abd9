use Rattle.std.proofs.Common.{◌+◌, drop, get_or, sym, ap, ◌∙◌}
use Rattle.std.proofs.lemmas.List.{drop_more}
use Rattle.sipl_choice.specs.declared.transport.Transport.TheVariants.{Udp}
use Rattle.sipl_plans.specs.Readings.{outcome}
use Rattle.sipl_plans.specs.Route.{asking_served}
use Rattle.sipl_plans.proofs.Outcomes.{leads}
use Rattle.sipl_plans.proofs.RoutesRead.{after_tried, outcome_over, over_tried-read}
use Rattle.sipl_plans.proofs.direct.services_route.Goals as goal
use Rattle.sipl_plans.proofs.direct.services_route.Goals.{in-Closed, in-Nothing}

pub returns-in-Picks-clause-route : goal.returns-in-Picks-clause-route
returns-in-Picks-clause-route g c =
    let source = g.S.Sets.source in
    let client = c.args.abilities.now in
    let name = c.args.name.now in
    let secure = c.args.secure in
    let items = c.preference-transport-items.result.now in
    let i = c.loop-transport.transport-index in
    let transport = get_or items i Udp in
    leads c.serve.result (λ layout. layout) _ _ c.serve.new.evidence c.serve.new.sets
    (sym c.loop-transport.invariant.leads
    ∙ over_tried-read source client name secure c.loop-transport.is_closed (drop i items) transport (drop (i + 1) items) _ c.in_ok-picks.field-0 c.loop-transport.evidence c.offer_at.new.evidence c.loop-transport.sets c.offer_at.new.sets
    (drop_more items i Udp c.loop-transport-test.true) (sym c.is_tried.ensures ∙ c.if-not-is_tried.false) (c.as_ref.ensures.value ∙ c.in_ok-service.ensures.name) c.in_ok-picks.ensures.offer
    ∙ ap (λ offer. outcome source (after_tried source client name secure transport (drop (i + 1) items) c.loop-transport.is_closed offer) c.offer_at.new.evidence c.offer_at.new.sets) c.in-Picks.is
    ∙ ap (λ picks. outcome source (asking_served client transport picks) c.offer_at.new.evidence c.offer_at.new.sets) (sym c.as_slice.ensures))
    c.serve.ensures.route

pub loop-transport-preserved : goal.loop-transport-preserved
loop-transport-preserved g c =
    let source = g.S.Sets.source in
    let client = c.args.abilities.now in
    let name = c.args.name.now in
    let secure = c.args.secure in
    let items = c.preference-transport-items.result.now in
    let i = c.loop-transport.transport-index in
    let transport = get_or items i Udp in
    let before = c.loop-transport.is_closed in
    let decided =
    over_tried-read source client name secure before (drop i items) transport (drop (i + 1) items) _ c.in_ok-picks.field-0 c.loop-transport.evidence c.offer_at.new.evidence c.loop-transport.sets c.offer_at.new.sets
    (drop_more items i Udp c.loop-transport-test.true) (sym c.is_tried.ensures ∙ c.if-not-is_tried.false) (c.as_ref.ensures.value ∙ c.in_ok-service.ensures.name) c.in_ok-picks.ensures.offer in
    record {
      leads = elim c.match-branch-3.branch [
        | in-Closed w ↦ ap (λ closed. outcome_over source client name secure closed (drop (i + 1) items) c.offer_at.new.evidence c.offer_at.new.sets) w.is_closed-is
            ∙ ap (λ offer. outcome source (after_tried source client name secure transport (drop (i + 1) items) before offer) c.offer_at.new.evidence c.offer_at.new.sets) (sym w.in-Closed.is)
            ∙ sym decided ∙ c.loop-transport.invariant.leads
        | in-Nothing w ↦ ap (λ closed. outcome_over source client name secure closed (drop (i + 1) items) c.offer_at.new.evidence c.offer_at.new.sets) w.is_closed-is
            ∙ ap (λ offer. outcome source (after_tried source client name secure transport (drop (i + 1) items) before offer) c.offer_at.new.evidence c.offer_at.new.sets) (sym w.in-Nothing.is)
            ∙ sym decided ∙ c.loop-transport.invariant.leads
      ];
      looked = λ start looked. c.offer_at.ensures.looked start (c.loop-transport.invariant.looked start looked);
    }
