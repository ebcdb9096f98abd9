use Rattle.sipl_tx.proofs.Timelines.{other_sendings, other_timeout}
use Rattle.sipl_tx.proofs.laws.other_intervals_double_up_to_t2.Goals as goal

pub returns-clause-sendings : goal.returns-clause-sendings
returns-clause-sendings c = other_sendings

pub returns-clause-timeout : goal.returns-clause-timeout
returns-clause-timeout c = other_timeout
