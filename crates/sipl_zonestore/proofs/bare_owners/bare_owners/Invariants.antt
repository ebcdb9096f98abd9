use Rattle.std.proofs.Common.{take}
use Rattle.indexmap.specs.IndexSet.{contains}
use Rattle.sipl_names.specs.Labels.{same_name}
use Rattle.sipl_zonestore.specs.BareOwners.{HasBare}
use Rattle.sipl_zonestore.proofs.bare_owners.bare_owners.Given as goal

abbrev pub invariant-loop-record : goal.invariant-loop-record
invariant-loop-record l = HasBare (contains same_name l.owners) (take l.record-index l.records)
