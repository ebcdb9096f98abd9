-- The codes of an edit's faults.
use Rattle.std.specs.Prelude.{ℕ, List, codes}
use Rattle.sipl_zonestore.specs.declared.fault.StoreFault.{StoreFault}
use Rattle.sipl_zonestore.specs.declared.fault.StoreFault.TheVariants.{Overlap, NoZone, Duplicate, Absent, AliasBesideData, SetFull, StoreFull, NumberSpent, WildApex, Memory}

-- the fault's code in replies
abbrev pub code_of : StoreFault → List ℕ
code_of Overlap = codes "S1"
code_of NoZone = codes "S2"
code_of Duplicate = codes "S3"
code_of Absent = codes "S4"
code_of AliasBesideData = codes "S5"
code_of SetFull = codes "S6"
code_of StoreFull = codes "S7"
code_of NumberSpent = codes "S8"
code_of WildApex = codes "S9"
code_of Memory = codes "Memory"
