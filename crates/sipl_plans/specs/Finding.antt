-- How the fields of a `Finding` represent what was found.
use Rattle.std.specs.Arc.{arc_value}
use Rattle.sipl_plans.specs.Findings.{Found, IsSound}
use Rattle.sipl_plans.specs.declared.finding.Finding.TheInside.{Inside}

-- the question, the client, the route, and the sets that it rests on
abbrev pub found_of : Inside → Found
found_of f =
    record { question = f.question; client = f.abilities; layout = f.layout; items = arc_value f.evidence }

-- the sets decide the route
abbrev pub IsValidFinding : Inside → Type 0
IsValidFinding f = IsSound (found_of f)
