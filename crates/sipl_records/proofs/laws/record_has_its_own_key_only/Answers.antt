use Rattle.sipl_records.proofs.Keys.{has_key-Decides}
use Rattle.sipl_records.proofs.laws.record_has_its_own_key_only.Goals as goal

pub returns : goal.returns
returns c = λ r key. has_key-Decides key r
