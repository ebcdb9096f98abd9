-- The code of each fault of an address's text.
use Rattle.std.specs.Prelude.{ℕ, List, codes}
use Rattle.sipl_records.specs.declared.fault.AddressFault.{AddressFault}
use Rattle.sipl_records.specs.declared.fault.AddressFault.TheVariants.{BadAddress}

-- the fault's code in replies
abbrev pub code_of : AddressFault → List ℕ
code_of BadAddress = codes "A1"
