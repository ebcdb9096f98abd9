use Rattle.std.proofs.Common.{◌≡◌, ◌+◌, ◌*◌, ◌≤◌, take, length}
use Rattle.std.specs.Net.Text.{groups_text}
use Rattle.sipl_records.specs.Ipv6.{groups_of_number}
use Rattle.sipl_records.proofs.address6.write.Given as goal

abbrev pub invariant-loop-group : goal.invariant-loop-group
invariant-loop-group l = record {
  size : length l.text ≡ 39;
  written : take l.end l.text ≡ groups_text (take (l.group-index + 1) (groups_of_number l.number));
  fits : l.end ≤ 4 + 5 * l.group-index;
}
