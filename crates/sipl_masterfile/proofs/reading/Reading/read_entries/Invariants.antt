use Rattle.std.proofs.Common.{◌≡◌, ◌+◌, ◌^◌, ◌<◌, length}
use Rattle.sipl_masterfile.specs.Zones.{after_entries}
use Rattle.sipl_masterfile.proofs.reading.Reading.read_entries.Given as goal

abbrev pub invariant-loop-head : goal.invariant-loop-head
invariant-loop-head l = record {
  same : after_entries l.fn.entries l.fn.self ≡ after_entries l.entries l.self;
  left_out : l.self.zone.outside + l.self.zone.repeated + length l.entries < 2 ^ 64;
}

abbrev pub decreases-loop-head : goal.decreases-loop-head
decreases-loop-head l = length l.entries
