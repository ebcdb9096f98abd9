use Rattle.sipl_plans.proofs.Outcomes.{reads_as}
use Rattle.sipl_plans.proofs.RoutesRead.{own-read}
use Rattle.sipl_plans.proofs.direct.own.Goals as goal

pub returns-clause-route : goal.returns-clause-route
returns-clause-route g c =
    reads_as c.sole_server.result (λ layout. layout) _ _ c.addresses.new.evidence c.addresses.new.sets
    (own-read g.S.Sets.source c.args.abilities.now c.args.transport c.args.port c.args.name.now c.args.evidence.now c.addresses.new.evidence c.args.sets.now c.addresses.new.sets c.in_ok-found.found.items c.in_ok-found.ensures.addresses)
    c.sole_server.ensures
