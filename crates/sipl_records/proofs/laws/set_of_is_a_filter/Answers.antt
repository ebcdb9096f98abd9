use Rattle.sipl_records.proofs.Existence.{set_of-is}
use Rattle.sipl_records.proofs.laws.set_of_is_a_filter.Goals as goal

pub returns : goal.returns
returns c = set_of-is
