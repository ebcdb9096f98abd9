use Rattle.std.proofs.Common.{◌≡◌, length, map}
use Rattle.sipl_names.specs.Labels.{is_within}
use Rattle.sipl_archive.specs.Sorting.{with_record}
use Rattle.sipl_archive.proofs.Sorting.{left}
use Rattle.sipl_archive.proofs.zones.sort_record.Given as goal

-- with the names above the name the record is in all its lists
abbrev pub invariant-loop-lists : goal.invariant-loop-lists
invariant-loop-lists l =
    record {
      len : length l.lists.items ≡ length l.apexes.keys;
      sorted : left l.apexes.keys l.name l.added (map (λ list. map (λ r. r.now) list.items) l.lists.items)
          ≡ with_record l.apexes.keys (is_within l.added.owner) l.added (map (λ list. map (λ r. r.now) list.items) l.fn.lists.items);
    }

abbrev pub decreases-loop-lists : goal.decreases-loop-lists
decreases-loop-lists l = length l.name
