use Rattle.std.proofs.Common.{◌≡◌, ℕ, ◌+◌, ◌&&◌, ◌||◌, eqb, take}
use Rattle.sipl_evidence.specs.Lists.{HasSpace}
use Rattle.sipl_evidence.specs.Dependents.{depends, has_code}
use Rattle.sipl_evidence.specs.Linked.{ArePaired, AreLast, pairs_of}
use Rattle.sipl_evidence.proofs.linked.link_all.Given as goal

abbrev pub invariant-loop-item : goal.invariant-loop-item
invariant-loop-item l = record {
  paired : ArePaired l.by_code l.by_id;
  last : AreLast l.by_code l.id;
  pairs : (code other : ℕ) → depends (pairs_of l.by_code) code other ≡ ((eqb l.id other && has_code (take l.item-index l.items) code) || depends (pairs_of l.fn.by_code) code other);
  codes : (room : ℕ) → HasSpace l.fn.by_code (room + l.item-index) → HasSpace l.by_code room;
  ids : (room : ℕ) → HasSpace l.fn.by_id (room + l.item-index) → HasSpace l.by_id room;
}
