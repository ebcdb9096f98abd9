use Rattle.sipl_tx.proofs.RunLaws.{reliable_sends_once}
use Rattle.sipl_tx.proofs.laws.reliable_requests_are_sent_once.Goals as goal

pub returns : goal.returns
returns c = reliable_sends_once
