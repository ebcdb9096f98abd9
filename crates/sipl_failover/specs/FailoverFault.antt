use Rattle.std.specs.Prelude.{ℕ, List, codes}
use Rattle.sipl_tx.specs.declared.fault.TxFault.{TxFault}
use Rattle.sipl_tx.specs.declared.fault.TxFault.TheVariants as tx
use Rattle.sipl_failover.specs.declared.fault.FailoverFault.{FailoverFault}
use Rattle.sipl_failover.specs.declared.fault.FailoverFault.TheVariants.{NoTargets, Ended, NoAttempt, ClockBack, BadCode, Memory}

-- the error's code in replies
abbrev pub code_of : FailoverFault → List ℕ
code_of NoTargets = codes "F1"
code_of Ended = codes "F2"
code_of NoAttempt = codes "F3"
code_of ClockBack = codes "X1"
code_of BadCode = codes "X2"
code_of Memory = codes "Memory"

-- the error of a transaction as that of its failover
abbrev pub of_tx_fault : TxFault → FailoverFault
of_tx_fault tx.ClockBack = ClockBack
of_tx_fault tx.BadCode = BadCode
of_tx_fault tx.Ended = Ended
