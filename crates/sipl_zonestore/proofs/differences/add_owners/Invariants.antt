use Rattle.std.proofs.Common.{◌≡◌, ◌||◌, take}
use Rattle.std.specs.List.{list_any}
use Rattle.indexmap.specs.IndexSet.{contains}
use Rattle.sipl_names.specs.Labels.{Labels, same_name}
use Rattle.sipl_zonestore.proofs.differences.add_owners.Given as goal

abbrev pub invariant-loop-record : goal.invariant-loop-record
invariant-loop-record l =
    (name : Labels) → contains same_name l.owners name ≡ (list_any (λ r. same_name r.owner name) (take l.record-index l.records) || contains same_name l.initial.owners name)
