-- What proofs of the crates above cite.
pub use Rattle.sipl_zonestore.proofs.Numbering.{IsTaken, IsGone, IsKept, number-cases, number_after-existence, number_after-set, number-kept, none-changed, unchanged-is}
pub use Rattle.sipl_zonestore.specs.SameZones.{same_zones_decides}
