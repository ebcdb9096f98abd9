use Rattle.std.proofs.Common.{◌≡◌, IfOk, sym, ap, subst, ◌∙◌}
use Rattle.sipl_plans.specs.Stages.{domain_rest, HasReachedBy}
use Rattle.sipl_plans.specs.declared.stage.Stage.TheVariants.{Reading}
use Rattle.sipl_plans.proofs.Reaching.{rest-domain, step_rest}
use Rattle.sipl_plans.proofs.stage.advance.Goals as goal
use Rattle.sipl_plans.proofs.stage.advance.Goals.{in-Start+in_ok-step-in-Start, in-Reading}

pub returns-in-Reading-step : goal.returns-in-Reading-step
returns-in-Reading-step c =
    let question = c.args.question.now in
    let client = c.args.abilities.now in
    let items = c.args.evidence.now in
    let name = c.in-Domain.name in
    let left = domain_rest name question client in
    let walk : left (Reading c.in-Reading-step.walk c.in-Reading-step.purpose) ≡ left c.args.stage = ap (step_rest name question client) (sym c.in-Reading-step.is) ∙ elim c.match-stage-5.branch [
      | in-Start+in_ok-step-in-Start w ↦ ap (step_rest name question client) w.step-is ∙ w.in_ok-step-in-Start.ensures ∙ ap left (sym w.in-Start.is)
      | in-Reading w ↦ ap (step_rest name question client) w.step-is ∙ ap left (sym w.in-Reading.is)
    ] in
    subst (λ left. IfOk c.read.result (HasReachedBy left items (left c.args.stage))) (sym (rest-domain question client name c.in-Domain.is))
    (subst (λ asking. IfOk c.read.result (HasReachedBy left items asking)) walk c.read.ensures)
