use Rattle.std.proofs.Common.{refl, ap, sym, subst, ◌∙◌}
use Rattle.std.specs.Arc.{arc_value}
use Rattle.sipl_plans.specs.Runs.{wanted}
use Rattle.sipl_plans.specs.Stages.{HasReached}
use Rattle.sipl_plans.specs.Route.{asking_route}
use Rattle.sipl_plans.proofs.Deciding.{sound-done}
use Rattle.sipl_plans.proofs.Reaching.{none-wanted}
use Rattle.sipl_plans.proofs.run.Run.finish.Goals as goal

pub new-requires : goal.new-requires
new-requires c =
    let run = c.self.inside in
    record { sound = sound-done run.question run.abilities (arc_value run.evidence) c.in-Done.layout c.self.invariant.0 (subst (HasReached run.question run.abilities (arc_value run.evidence) (asking_route run.question run.abilities)) c.in-Done.is c.self.invariant.1) }

pub returns-in-Done-clause-finished : goal.returns-in-Done-clause-finished
returns-in-Done-clause-finished c =
    let run = c.self.inside in
    (λ _. ap wanted (sym c.self.view_is) ∙ none-wanted run.question run.abilities (arc_value run.evidence) run.progress c.in-Done.layout c.self.invariant.1 c.in-Done.is, λ _. refl)
