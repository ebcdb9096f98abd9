-- The codes of `AbilitiesFault`.
use Rattle.std.specs.Prelude.{ℕ, List, codes}
use Rattle.sipl_choice.specs.declared.fault.AbilitiesFault.{AbilitiesFault}
use Rattle.sipl_choice.specs.declared.fault.AbilitiesFault.TheVariants.{EmptyAbilities, RepeatedTransport}

-- the error's code in replies
abbrev pub code_of : AbilitiesFault → List ℕ
code_of EmptyAbilities = codes "C1"
code_of RepeatedTransport = codes "C2"
