use Rattle.std.proofs.Common.{◌<◌, length, ap, sym, subst, ◌∙◌}
use Rattle.std.specs.Arc.{arc_value}
use Rattle.sipl_plans.specs.Route.{asking_route}
use Rattle.sipl_plans.specs.Runs.{wanted}
use Rattle.sipl_plans.proofs.Deciding.{few-wanting}
use Rattle.sipl_plans.proofs.Reaching.{none-wanted, key-wanted}
use Rattle.sipl_plans.proofs.Unread.{first_unknown-unread}
use Rattle.sipl_plans.proofs.run.Run.wants.Goals as goal

pub returns-in-Wanting-clause-next : goal.returns-in-Wanting-clause-next
returns-in-Wanting-clause-next c = λ look agrees.
    let run = c.self.inside in
    let reached = key-wanted run.question run.abilities (arc_value run.evidence) run.progress c.in-Wanting.key c.in-Wanting.field-1 c.self.invariant.1 c.in-Wanting.is in
    sym reached.0 ∙ ap wanted c.self.view_is ∙ first_unknown-unread (asking_route c.args.self.now.question c.args.self.now.client) c.args.self.now.items look agrees

pub returns-in-Wanting-clause-few : goal.returns-in-Wanting-clause-few
returns-in-Wanting-clause-few c = λ _.
    let run = c.self.inside in
    let reached = key-wanted run.question run.abilities (arc_value run.evidence) run.progress c.in-Wanting.key c.in-Wanting.field-1 c.self.invariant.1 c.in-Wanting.is in
    subst (λ run. length run.items < 80648) c.self.view_is (few-wanting run.question run.abilities (arc_value run.evidence) c.in-Wanting.key c.self.invariant.0 reached.0)

pub returns-in-Done-clause-wanted : goal.returns-in-Done-clause-wanted
returns-in-Done-clause-wanted c =
    let run = c.self.inside in
    sym (none-wanted run.question run.abilities (arc_value run.evidence) run.progress c.in-Done.field-0 c.self.invariant.1 c.in-Done.is) ∙ ap wanted c.self.view_is

pub returns-in-Done-clause-next : goal.returns-in-Done-clause-next
returns-in-Done-clause-next c = λ look agrees.
    let run = c.self.inside in
    sym (none-wanted run.question run.abilities (arc_value run.evidence) run.progress c.in-Done.field-0 c.self.invariant.1 c.in-Done.is) ∙ ap wanted c.self.view_is
    ∙ first_unknown-unread (asking_route c.args.self.now.question c.args.self.now.client) c.args.self.now.items look agrees
