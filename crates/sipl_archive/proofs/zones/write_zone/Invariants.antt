use Rattle.std.proofs.Common.{◌≡◌, ◌++◌, take, map}
use Rattle.std.specs.List.{flat_map}
use Rattle.sipl_lines.specs.CommandText.{record_line}
use Rattle.sipl_archive.proofs.zones.write_zone.Given as goal

-- the lines of the records so far
abbrev pub invariant-loop-record : goal.invariant-loop-record
invariant-loop-record l =
    l.out.items ≡ l.initial.out.items ++ flat_map record_line (map (λ r. r.now) (take l.record-index l.records))
