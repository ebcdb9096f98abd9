use Rattle.std.proofs.Common.{◌≡◌, ◌+◌, ◌≤◌, length}
use Rattle.sipl_masterfile.specs.Tokens.{tokens}
use Rattle.sipl_masterfile.specs.Entries.{entries_from, entries_at}
use Rattle.sipl_masterfile.specs.Scanning.{begun_at}
use Rattle.sipl_masterfile.proofs.entries.read_fields.Given as goal

abbrev pub invariant-loop-token : goal.invariant-loop-token
invariant-loop-token l = record {
  left : entries_at l.line l.text ≡ entries_from (begun_at l.line l.text l.fields.items) l.depth (l.line + l.line_ends) (tokens 0 l.rest);
  few : l.depth + l.line_ends + length l.rest ≤ length l.text;
}

abbrev pub decreases-loop-token : goal.decreases-loop-token
decreases-loop-token l = length l.rest
