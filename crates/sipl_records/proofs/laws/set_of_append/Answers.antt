use Rattle.sipl_records.proofs.Existence.{set_of-append, exists_in-append}
use Rattle.sipl_records.proofs.laws.set_of_append.Goals as goal

pub returns : goal.returns
returns c = record { records = set_of-append; existence = exists_in-append }
