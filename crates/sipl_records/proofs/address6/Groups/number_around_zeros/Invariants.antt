use Rattle.std.proofs.Common.{◌≡◌, ◌*◌, ◌^◌, ◌-◌, ◌<◌}
use Rattle.sipl_records.proofs.address6.Groups.number_around_zeros.Given as goal

abbrev pub invariant-loop-place : goal.invariant-loop-place
invariant-loop-place l = record {
  is : l.number ≡ l.fn.self.number * 65536 ^ (l._place - l.fn.self.len);
  below : l.number < 65536 ^ l._place;
}
