use Rattle.sipl_zonestore.proofs.Runs.{run-numbers, start-numbers}
use Rattle.sipl_zonestore.specs.Machine.{numbered_from}
use Rattle.sipl_zonestore.proofs.laws.numbers_tell_sets.Goals as goal

pub returns : goal.returns
returns c = λ max_records next edits first last. run-numbers max_records edits (numbered_from next) (start-numbers next first last)
