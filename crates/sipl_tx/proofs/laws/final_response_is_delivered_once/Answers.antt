use Rattle.sipl_tx.proofs.Steps.{awaited_is_delivered}
use Rattle.sipl_tx.proofs.RunLaws.{ends_at_final}
use Rattle.sipl_tx.proofs.laws.final_response_is_delivered_once.Goals as goal

pub returns-clause-delivered : goal.returns-clause-delivered
returns-clause-delivered c = awaited_is_delivered

pub returns-clause-last : goal.returns-clause-last
returns-clause-last c = ends_at_final
