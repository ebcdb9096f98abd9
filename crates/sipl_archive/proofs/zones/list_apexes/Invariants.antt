use Rattle.std.proofs.Common.{◌≡◌, take}
use Rattle.sipl_archive.specs.Sorting.{listed}
use Rattle.sipl_archive.proofs.zones.list_apexes.Given as goal

abbrev pub invariant-loop-apex : goal.invariant-loop-apex
invariant-loop-apex l = l.set.keys ≡ listed (take l.apex-index l.apexes)
