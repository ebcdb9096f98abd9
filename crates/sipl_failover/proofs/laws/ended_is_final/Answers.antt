use Rattle.sipl_failover.proofs.RunLemmas.{ended_acks_over, ended_stays_over}
use Rattle.sipl_failover.proofs.laws.ended_is_final.Goals as goal

pub returns-clause-acks : goal.returns-clause-acks
returns-clause-acks c = ended_acks_over

pub returns-clause-stays : goal.returns-clause-stays
returns-clause-stays c = ended_stays_over
