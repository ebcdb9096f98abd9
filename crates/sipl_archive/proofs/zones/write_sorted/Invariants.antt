use Rattle.std.proofs.Common.{◌≡◌, ◌++◌, drop, map}
use Rattle.sipl_archive.specs.Sorting.{paired}
use Rattle.sipl_archive.specs.Text.{zones_lines}
use Rattle.sipl_archive.proofs.zones.write_sorted.Given as goal

-- the lines so far, and those of the zones left, are those of all
abbrev pub invariant-loop-place : goal.invariant-loop-place
invariant-loop-place l =
    l.out.items ++ zones_lines (paired (drop l.place l.apexes) (map (λ list. map (λ r. r.now) list.items) (drop l.place l.lists)))
    ≡ l.fn.out.items ++ zones_lines (paired l.apexes (map (λ list. map (λ r. r.now) list.items) l.lists))
