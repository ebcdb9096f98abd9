-- The code of each fault of the queue.
use Rattle.std.specs.Prelude.{ℕ, List, codes}
use Rattle.sipl_repair.specs.declared.fault.QueueFault.{QueueFault}
use Rattle.sipl_repair.specs.declared.fault.QueueFault.TheVariants.{Empty}

-- the error's code in replies
abbrev pub code_of : QueueFault → List ℕ
code_of Empty = codes "Q1"
