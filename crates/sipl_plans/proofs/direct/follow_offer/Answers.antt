use Rattle.std.proofs.Common.{sym, ap, ◌∙◌}
use Rattle.sipl_plans.specs.Readings.{outcome}
use Rattle.sipl_plans.specs.Route.{asking_offered, asking_own, asking_served}
use Rattle.sipl_plans.proofs.Outcomes.{leads}
use Rattle.sipl_plans.proofs.direct.follow_offer.Goals as goal

pub returns-in-Picks-clause-route : goal.returns-in-Picks-clause-route
returns-in-Picks-clause-route g c =
    let source = g.S.Sets.source in
    let client = c.args.abilities.now in
    leads c.serve.result (λ layout. layout) _ _ c.serve.new.evidence c.serve.new.sets
    (ap (λ offer. outcome source (asking_offered client c.args.name.now c.args.transport offer) c.args.evidence.now c.args.sets.now) c.in-Picks.is
    ∙ ap (λ picks. outcome source (asking_served client c.args.transport picks) c.args.evidence.now c.args.sets.now) (sym c.as_slice.ensures))
    c.serve.ensures.route

pub returns-in-Nothing-clause-route : goal.returns-in-Nothing-clause-route
returns-in-Nothing-clause-route g c =
    let source = g.S.Sets.source in
    let client = c.args.abilities.now in
    leads c.own.result (λ layout. layout) _ _ c.own.new.evidence c.own.new.sets
    (ap (λ offer. outcome source (asking_offered client c.args.name.now c.args.transport offer) c.args.evidence.now c.args.sets.now) c.in-Nothing.is
    ∙ ap (λ port. outcome source (asking_own client c.args.transport port c.args.name.now) c.args.evidence.now c.args.sets.now) (sym c.default_port-port.ensures))
    c.own.ensures.route
