-- How the fields of a `Run` represent its state.
use Rattle.std.specs.Arc.{arc_value}
use Rattle.sipl_plans.specs.Route.{asking_route}
use Rattle.sipl_plans.specs.Runs.{RunState, IsRun}
use Rattle.sipl_plans.specs.Stages.{HasReached}
use Rattle.sipl_plans.specs.declared.run.Run.TheInside.{Inside}

-- the question, the client, and the sets that were read
abbrev pub state_of : Inside → RunState
state_of r = record { question = r.question; client = r.abilities; items = arc_value r.evidence }

-- the sets were read in the order of the route, and the progress is how far they lead
abbrev pub IsValidRun : Inside → Type 0
IsValidRun r =
    IsRun (state_of r)
    × HasReached r.question r.abilities (arc_value r.evidence) (asking_route r.question r.abilities) r.progress
