use Rattle.sipl_records.proofs.Unique.{Contains-unique}
use Rattle.sipl_records.proofs.laws.unique_keeps_every_value.Goals as goal

pub returns : goal.returns
returns g c = Contains-unique
