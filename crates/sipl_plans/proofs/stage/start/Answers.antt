use Rattle.std.proofs.Common.{◌∙◌, sym}
use Rattle.sipl_evidence.specs.Walks.{walk_asking}
use Rattle.sipl_plans.proofs.ServiceWalks.{given-walk}
use Rattle.sipl_plans.proofs.stage.start.Goals as goal

pub returns-in-Some : goal.returns-in-Some
returns-in-Some c =
    let domain = c.args.domain in
    given-walk domain.abilities.now domain.name.now domain.question.now c.in-None-Some.transport c.in-Some.service (walk_asking c.start-walk.result) c.in-None-Some.is-0 c.in-None-Some.is-1 (sym c.supports.ensures ∙ c.if-not-supports.false) (sym c.in_ok-service-in-None-Some.ensures.name ∙ c.in-Some.is) c.start-walk.ensures
