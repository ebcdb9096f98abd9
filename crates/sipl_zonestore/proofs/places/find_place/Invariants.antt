use Rattle.std.proofs.Common.{◌≡◌, ◌-◌, true, length, drop}
use Rattle.std.specs.List.{list_any}
use Rattle.sipl_records.specs.Sets.{same_record}
use Rattle.sipl_zonestore.specs.RecordList.{live}
use Rattle.sipl_zonestore.proofs.places.find_place.Given as goal

abbrev pub invariant-loop-place : goal.invariant-loop-place
invariant-loop-place l = list_any (same_record l.sought) (live (drop l.place l.records) (drop l.place l.codes)) ≡ true

abbrev pub decreases-loop-place : goal.decreases-loop-place
decreases-loop-place l = length l.records - l.place
