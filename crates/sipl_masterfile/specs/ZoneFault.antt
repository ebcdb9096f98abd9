-- The first fault of a text: its code.
use Rattle.std.specs.Prelude.{ℕ, List}
use Rattle.sipl_masterfile.specs.declared.fault.ZoneFault.{ZoneFault}
use Rattle.sipl_masterfile.specs.ZoneCause.{code_of as cause_code}

-- the fault's code in replies, which is its cause's
abbrev pub code_of : ZoneFault → List ℕ
code_of fault = cause_code fault.cause
