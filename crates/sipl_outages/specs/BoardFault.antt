-- The codes of the board's faults.
use Rattle.std.specs.Prelude.{ℕ, List, codes}
use Rattle.sipl_outages.specs.declared.fault.BoardFault.{BoardFault}
use Rattle.sipl_outages.specs.declared.fault.BoardFault.TheVariants.{ClockBack, TooFar, NotHeld, BoardFull, Memory}

-- the fault's code in replies
abbrev pub code_of : BoardFault → List ℕ
code_of ClockBack = codes "O1"
code_of TooFar = codes "O2"
code_of NotHeld = codes "O3"
code_of BoardFull = codes "O4"
code_of Memory = codes "Memory"
