use Rattle.std.proofs.Common.{◌≡◌}
use Rattle.sipl_records.specs.declared.kind.Kind.{Kind}
use Rattle.sipl_evidence.specs.Answers.{Next, at_encloser, at_source}
use Rattle.sipl_evidence.specs.Known.{advance}
use Rattle.sipl_evidence.proofs.Climbing.{parent_or_root}
use Rattle.sipl_evidence.proofs.reach.climb_from.Given as goal

abbrev pub invariant-loop-more : goal.invariant-loop-more
invariant-loop-more l = record {
  parent : parent_or_root l.name ≡ l.parent;
  same : (next : Next) (kind : Kind) → advance l.evidence (at_encloser l.initial.more l.initial.name (at_source next kind)) ≡ advance l.evidence (at_encloser l.more l.name (at_source next kind));
}

abbrev pub decreases-loop-more : goal.decreases-loop-more
decreases-loop-more l = l.more
