-- The faults of calls that make a name.
use Rattle.std.specs.Prelude.{ℕ, List, ⊤, codes}
use Rattle.sipl_names.specs.declared.fault.InvalidName.{InvalidName}
use Rattle.sipl_names.specs.declared.fault.NameFault.{NameFault}
use Rattle.sipl_names.specs.declared.fault.NameFault.TheVariants.{Invalid, Memory}
use Rattle.sipl_names.specs.InvalidName.{code_of as invalid_code_of}

-- the fault's code in replies
abbrev pub code_of : NameFault → List ℕ
code_of (Invalid invalid) = invalid_code_of invalid
code_of Memory = codes "Memory"

-- a fact about the reason, where the fault is that something is not a name
abbrev pub IfInvalid : NameFault → (InvalidName → Type 0) → Type 0
IfInvalid (Invalid invalid) P = P invalid
IfInvalid Memory P = ⊤
