use Rattle.sipl_records.proofs.Existence.{length-set_of, length-existence}
use Rattle.sipl_records.proofs.laws.set_length_counts_records.Goals as goal

pub returns : goal.returns
returns c = record { records = length-set_of; existence = length-existence }
