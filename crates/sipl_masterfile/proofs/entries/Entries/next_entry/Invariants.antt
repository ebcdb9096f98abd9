use Rattle.std.proofs.Common.{◌≡◌, ◌+◌, ◌≤◌, length}
use Rattle.sipl_masterfile.specs.Entries.{entries_at}
use Rattle.sipl_masterfile.proofs.entries.Entries.next_entry.Given as goal

abbrev pub invariant-loop-first : goal.invariant-loop-first
invariant-loop-first l = record {
  left : l.fn.self ≡ entries_at (l.self-inside.line_ends + 1) l.self-inside.rest.now;
  few : l.self-inside.line_ends + length l.self-inside.rest.now ≤ 18446744073709551615;
}

abbrev pub decreases-loop-first : goal.decreases-loop-first
decreases-loop-first l = length l.self-inside.rest.now
