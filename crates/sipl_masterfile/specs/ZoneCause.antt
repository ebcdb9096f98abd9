-- The causes of faults in master files: their codes, and the cause that a fault in a name is.
use Rattle.std.specs.Prelude.{ℕ, List, codes}
use Rattle.sipl_names.specs.declared.fault.NameFault.{NameFault}
use Rattle.sipl_names.specs.declared.fault.NameFault.TheVariants.{Invalid, Memory as name_memory}
use Rattle.sipl_masterfile.specs.declared.fault.ZoneCause.{ZoneCause}
use Rattle.sipl_masterfile.specs.declared.fault.ZoneCause.TheVariants.{InName, MissingField, BadNumber, BadAddress, Parenthesis, OpenQuote, ClassNotIn, Include, Generate, GenericForm, StringTooLong, NoOwner, ExtraField, AliasBesideData, SetFull, Memory}

-- the cause's code in replies
abbrev pub code_of : ZoneCause → List ℕ
code_of (InName fault) = codes "Z1"
code_of MissingField = codes "Z2"
code_of BadNumber = codes "Z3"
code_of BadAddress = codes "Z4"
code_of Parenthesis = codes "Z5"
code_of OpenQuote = codes "Z6"
code_of ClassNotIn = codes "Z7"
code_of Include = codes "Z8"
code_of Generate = codes "Z9"
code_of GenericForm = codes "Z10"
code_of StringTooLong = codes "Z11"
code_of NoOwner = codes "Z12"
code_of ExtraField = codes "Z13"
code_of AliasBesideData = codes "Z14"
code_of SetFull = codes "Z15"
code_of Memory = codes "Memory"

-- the cause that a fault of a name is: an allocation failure is no fault of the text
abbrev pub cause_of : NameFault → ZoneCause
cause_of (Invalid invalid) = InName invalid
cause_of name_memory = Memory
