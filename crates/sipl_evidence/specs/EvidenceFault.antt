-- The codes of evidence's faults.
use Rattle.std.specs.Prelude.{ℕ, List, codes}
use Rattle.sipl_evidence.specs.declared.fault.EvidenceFault.{EvidenceFault}
use Rattle.sipl_evidence.specs.declared.fault.EvidenceFault.TheVariants.{AlreadyRead, Memory}

-- the fault's code in replies
abbrev pub code_of : EvidenceFault → List ℕ
code_of AlreadyRead = codes "E1"
code_of Memory = codes "Memory"
