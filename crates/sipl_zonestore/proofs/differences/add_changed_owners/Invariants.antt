use Rattle.std.proofs.Common.{◌≡◌, ◌≤◌, length, take}
use Rattle.indexmap.specs.IndexSet.{contains}
use Rattle.sipl_names.specs.Labels.{same_name}
use Rattle.sipl_zonestore.specs.Differences.{AreWithin, records_besides}
use Rattle.sipl_zonestore.specs.Store.{records_within}
use Rattle.sipl_zonestore.proofs.differences.add_changed_owners.Given as goal

abbrev pub invariant-loop-record : goal.invariant-loop-record
invariant-loop-record l =
    record {
      place : l.place ≤ length l.text;
      within : AreWithin l.apex (contains same_name l.owners);
      same : records_besides (contains same_name l.owners) (records_within l.apex (take l.record-index l.records)) ≡ records_besides (contains same_name l.owners) (take l.place l.text);
    }
