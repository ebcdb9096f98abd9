use Rattle.std.proofs.Common.{◌≡◌, take, map}
use Rattle.sipl_zonestore.specs.Store.{records_within}
use Rattle.sipl_archive.proofs.zones.sort_records.Given as goal

-- the records so far are in the lists
abbrev pub invariant-loop-record : goal.invariant-loop-record
invariant-loop-record l =
    map (λ list. map (λ r. r.now) list.items) l.lists.items ≡ map (λ apex. records_within apex (take l.record-index l.records)) l.apexes.keys
