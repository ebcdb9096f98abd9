use Rattle.sipl_records.proofs.Keys.{shares_set-Decides}
use Rattle.sipl_records.proofs.laws.records_of_one_set_have_one_key.Goals as goal

pub returns : goal.returns
returns c = λ a b. shares_set-Decides a b
