use Rattle.sipl_records.proofs.Existence.{set_of-filter_kept, set_of-filter_dropped, set_of-filter_owner}
use Rattle.sipl_records.proofs.laws.set_of_filter.Goals as goal

pub returns : goal.returns
returns c = record { kept = set_of-filter_kept; dropped = set_of-filter_dropped; by_owner = set_of-filter_owner }
