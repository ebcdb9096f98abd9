-- The code of `DrawsFault`.
use Rattle.std.specs.Prelude.{ℕ, List, codes}
use Rattle.sipl_srv.specs.declared.fault.DrawsFault.{DrawsFault}
use Rattle.sipl_srv.specs.declared.fault.DrawsFault.TheVariants.{TooManyWords}

-- the error's code in replies
abbrev pub code_of : DrawsFault → List ℕ
code_of TooManyWords = codes "V1"
