-- The code of a run that still wants a set.
use Rattle.std.specs.Prelude.{ℕ, List, codes}
use Rattle.sipl_plans.specs.declared.run.Unfinished.{Unfinished}

-- the fault's code in replies
abbrev pub code_of : Unfinished → List ℕ
code_of unfinished = codes "P1"
