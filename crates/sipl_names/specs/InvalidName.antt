-- The codes of what is not a name.
use Rattle.std.specs.Prelude.{ℕ, List, codes}
use Rattle.sipl_names.specs.declared.fault.InvalidName.{InvalidName}
use Rattle.sipl_names.specs.declared.fault.InvalidName.TheVariants.{EmptyLabel, LabelTooLong, NameTooLong, BadEscape}

-- the fault's code in replies
abbrev pub code_of : InvalidName → List ℕ
code_of EmptyLabel = codes "N1"
code_of LabelTooLong = codes "N2"
code_of NameTooLong = codes "N3"
code_of BadEscape = codes "N4"
