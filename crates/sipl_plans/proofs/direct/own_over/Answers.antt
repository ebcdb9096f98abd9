use Rattle.std.proofs.Common.{sym, ◌∙◌}
use Rattle.sipl_plans.specs.Route.{asking_own}
use Rattle.sipl_plans.proofs.Outcomes.{leads}
use Rattle.sipl_plans.proofs.RoutesRead.{over_supported-read}
use Rattle.sipl_plans.proofs.direct.own_over.Goals as goal

pub returns-clause-route : goal.returns-clause-route
returns-clause-route g c =
    let client = c.args.abilities.now in
    let transport = c.args.transport in
    leads c.own.result (λ layout. layout) _ _ c.own.new.evidence c.own.new.sets
    (over_supported-read g.S.Sets.source client transport (asking_own client transport c.args.port c.args.name.now) c.args.evidence.now c.args.sets.now (sym c.supports.ensures ∙ c.if-not-supports.false))
    c.own.ensures.route
