use Rattle.sipl_tx.proofs.Steps.{timeout_awaits, timeout_is_timed}
use Rattle.sipl_tx.proofs.RunLaws as run_laws
use Rattle.sipl_tx.proofs.laws.timeout_is_reported_once.Goals as goal

pub returns-clause-once : goal.returns-clause-once
returns-clause-once c = run_laws.timeout_is_reported_once

pub returns-clause-awaiting : goal.returns-clause-awaiting
returns-clause-awaiting c = timeout_awaits

pub returns-clause-timed : goal.returns-clause-timed
returns-clause-timed c = timeout_is_timed
