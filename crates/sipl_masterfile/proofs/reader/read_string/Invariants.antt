use Rattle.std.proofs.Common.{◌+◌, ◌≤◌, length, min, vec_len, vec_capacity}
use Rattle.sipl_masterfile.proofs.Strings.{IsReadTo}
use Rattle.sipl_masterfile.proofs.reader.read_string.Given as goal

abbrev pub invariant-loop-string : goal.invariant-loop-string
invariant-loop-string l = record {
  read : IsReadTo l.text l.rest l.string.items l.is_too_long;
  few : vec_len l.string + length l.rest ≤ length l.text;
  reserved : min (length l.text) 255 ≤ vec_capacity l.string;
}

abbrev pub decreases-loop-string : goal.decreases-loop-string
decreases-loop-string l = length l.rest
