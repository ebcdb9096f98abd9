use Rattle.sipl_tx.proofs.Steps.{invite_acknowledges, failure_is_acknowledged}
use Rattle.sipl_tx.proofs.laws.only_invite_failures_are_acknowledged.Goals as goal

pub returns-clause-kind : goal.returns-clause-kind
returns-clause-kind c = invite_acknowledges

pub returns-clause-failure : goal.returns-clause-failure
returns-clause-failure c = failure_is_acknowledged
