use Rattle.std.proofs.Common.{MatchOption}
use Rattle.sipl_choice.specs.Candidates.{choice_by}
use Rattle.sipl_choice.proofs.Choosing.{NoneApply, IsFirstLeast}
use Rattle.sipl_choice.proofs.pointer.first_least.Given as goal

abbrev pub invariant-loop-place : goal.invariant-loop-place
invariant-loop-place l =
    MatchOption l.least (NoneApply l.secure l.abilities l.set l.place)
    (λ least. IsFirstLeast l.secure l.abilities l.set l.place least.0 (choice_by least.1))
