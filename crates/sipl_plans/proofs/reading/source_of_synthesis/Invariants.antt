use Rattle.std.proofs.Common.{◌≡◌, List, length}
use Rattle.sipl_names.specs.Labels.{Labels}
use Rattle.sipl_records.specs.declared.data.Data.{Data}
use Rattle.sipl_evidence.specs.Answers.{at_encloser, max_ancestors, unless_exists}
use Rattle.sipl_evidence.specs.Looks.{Asking}
use Rattle.sipl_plans.specs.Readings.{AddsLooks, LeadsTo}
use Rattle.sipl_plans.proofs.reading.source_of_synthesis.Given as goal

-- the closest encloser is sought among the ancestors of the name that is left
abbrev pub invariant-loop-alloc : goal.invariant-loop-alloc
invariant-loop-alloc g l =
    let source = g.S.Sets.source in
    record {
      below : l.below ≡ l.encloser;
      leads : (next : Labels → Asking (List Data)) → LeadsTo source (unless_exists max_ancestors l.name next) l.fn.evidence l.fn.sets (at_encloser (length l.encloser) l.encloser next) l.evidence l.sets;
      looked : AddsLooks source l.fn.sets l.sets;
    }

abbrev pub decreases-loop-alloc : goal.decreases-loop-alloc
decreases-loop-alloc g l = length l.encloser
