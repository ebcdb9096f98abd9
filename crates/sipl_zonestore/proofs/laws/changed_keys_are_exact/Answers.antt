use Rattle.sipl_zonestore.proofs.ExactKeys.{changed_keys-exact, changed_keys-once}
use Rattle.sipl_zonestore.proofs.laws.changed_keys_are_exact.Goals as goal

pub returns-clause-exact : goal.returns-clause-exact
returns-clause-exact c = changed_keys-exact

pub returns-clause-once : goal.returns-clause-once
returns-clause-once c = changed_keys-once
