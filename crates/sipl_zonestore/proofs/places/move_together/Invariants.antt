use Rattle.std.proofs.Common.{◌≡◌, vec_capacity}
use Rattle.sipl_zonestore.proofs.LiveRecords.{LiveInPlace}
use Rattle.sipl_zonestore.proofs.places.move_together.Given as goal

abbrev pub invariant-loop-place : goal.invariant-loop-place
invariant-loop-place l = LiveInPlace l.initial.records.items l.codes l.records.items l.kept l.place × (vec_capacity l.records ≡ vec_capacity l.initial.records)
