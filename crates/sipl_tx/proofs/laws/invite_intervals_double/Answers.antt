use Rattle.sipl_tx.proofs.Timelines.{invite_sendings, invite_timeout}
use Rattle.sipl_tx.proofs.laws.invite_intervals_double.Goals as goal

pub returns-clause-sendings : goal.returns-clause-sendings
returns-clause-sendings c = invite_sendings

pub returns-clause-timeout : goal.returns-clause-timeout
returns-clause-timeout c = invite_timeout
