use Rattle.sipl_zonestore.proofs.Runs.{kept-sets}
use Rattle.sipl_zonestore.proofs.laws.kept_numbers_tell_kept_sets.Goals as goal

pub returns : goal.returns
returns c = λ max_records edits state key held same. kept-sets max_records edits state key held same
