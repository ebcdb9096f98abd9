use Rattle.std.proofs.Common.{arith}
use Rattle.sipl_tx.specs.Transaction.{new_transaction}
use Rattle.sipl_tx.proofs.Steps.{sends_only, sends_at_tick}
use Rattle.sipl_tx.proofs.RunLaws.{sendings_are_apart}
use Rattle.sipl_tx.proofs.laws.retransmissions_are_t1_apart.Goals as goal

pub returns-clause-only_act : goal.returns-clause-only_act
returns-clause-only_act c = sends_only

pub returns-clause-at_ticks : goal.returns-clause-at_ticks
returns-clause-at_ticks c = sends_at_tick

pub returns-clause-apart : goal.returns-clause-apart
returns-clause-apart c = λ kind reliable start events. sendings_are_apart (new_transaction kind reliable start) events (omega arith)
