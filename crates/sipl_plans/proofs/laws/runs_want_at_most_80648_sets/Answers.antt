use Rattle.std.proofs.Common.{◌≡◌, ◌<◌, Option, None, Some, IsSome, false, true, length, refl}
use Rattle.sipl_records.specs.declared.record.Key.{Key}
use Rattle.sipl_plans.specs.Runs.{RunState, IsRun, wanted}
use Rattle.sipl_plans.proofs.Deciding.{few-wanting}
use Rattle.sipl_plans.proofs.laws.runs_want_at_most_80648_sets.Goals as goal

by_key : (run : RunState) (key : Option Key) → wanted run ≡ key → IsSome key → IsRun run → length run.items < 80648
by_key run None is some valid = let never : false ≡ true = some in cc
by_key run (Some k) is some valid = few-wanting run.question run.client run.items k valid is

pub returns-clause-fewer : goal.returns-clause-fewer
returns-clause-fewer c = λ run valid some. by_key run (wanted run) refl some valid
