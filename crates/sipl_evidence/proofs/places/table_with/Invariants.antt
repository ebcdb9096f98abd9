use Rattle.std.proofs.Common.{take}
use Rattle.indexmap.specs.IndexMap.{get}
use Rattle.sipl_names.specs.Labels.{same_name}
use Rattle.sipl_evidence.specs.Places.{IsIndexed}
use Rattle.sipl_evidence.proofs.places.table_with.Given as goal

abbrev pub invariant-loop-place : goal.invariant-loop-place
invariant-loop-place l = IsIndexed (take l.place l.items) (get same_name l.table)
