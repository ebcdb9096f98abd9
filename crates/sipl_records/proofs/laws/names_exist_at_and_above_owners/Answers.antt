use Rattle.sipl_records.proofs.Existence.{exists_in-owners, exists_in-above, set_of-existence}
use Rattle.sipl_records.proofs.laws.names_exist_at_and_above_owners.Goals as goal

pub returns : goal.returns
returns c = record { owners = exists_in-owners; above = exists_in-above; set = set_of-existence }
