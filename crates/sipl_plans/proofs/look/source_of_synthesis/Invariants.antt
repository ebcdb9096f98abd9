use Rattle.std.proofs.Common.{◌≡◌, List, length}
use Rattle.sipl_names.specs.Labels.{Labels}
use Rattle.sipl_records.specs.Sets.{set_of}
use Rattle.sipl_records.specs.declared.data.Data.{Data}
use Rattle.sipl_evidence.specs.Answers.{at_encloser, max_ancestors, unless_exists}
use Rattle.sipl_evidence.specs.Looks.{Asking, result_of}
use Rattle.sipl_plans.proofs.look.source_of_synthesis.Given as goal

-- the closest encloser is sought among the ancestors of the name that is left
abbrev pub invariant-loop-alloc : goal.invariant-loop-alloc
invariant-loop-alloc l =
    (l.below ≡ l.encloser)
    × ((next : Labels → Asking (List Data)) → result_of (set_of l.records) (unless_exists max_ancestors l.name next) ≡ result_of (set_of l.records) (at_encloser (length l.encloser) l.encloser next))

abbrev pub decreases-loop-alloc : goal.decreases-loop-alloc
decreases-loop-alloc l = length l.encloser
