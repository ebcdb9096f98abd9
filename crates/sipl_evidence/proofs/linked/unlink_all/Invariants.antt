use Rattle.std.proofs.Common.{◌≡◌, ℕ, eqb, false}
use Rattle.sipl_evidence.specs.Lists.{len_of, KeepsSpace}
use Rattle.sipl_evidence.specs.Dependents.{depends}
use Rattle.sipl_evidence.specs.Linked.{ArePaired, pairs_of}
use Rattle.sipl_evidence.proofs.linked.unlink_all.Given as goal

abbrev pub invariant-loop : goal.invariant-loop
invariant-loop l = record {
  paired : ArePaired l.by_code l.by_id;
  others : (code other : ℕ) → eqb l.id other ≡ false → depends (pairs_of l.by_code) code other ≡ depends (pairs_of l.fn.by_code) code other;
  codes : KeepsSpace l.fn.by_code l.by_code;
  ids : KeepsSpace l.fn.by_id l.by_id;
}

abbrev pub decreases-loop : goal.decreases-loop
decreases-loop l = len_of l.by_id l.id
