use Rattle.std.specs.Prelude.{ℕ, List, codes}
use Rattle.sipl_tx.specs.declared.fault.TxFault.{TxFault}
use Rattle.sipl_tx.specs.declared.fault.TxFault.TheVariants.{ClockBack, BadCode, Ended}

-- the error's code in replies
abbrev pub code_of : TxFault → List ℕ
code_of ClockBack = codes "X1"
code_of BadCode = codes "X2"
code_of Ended = codes "X3"
