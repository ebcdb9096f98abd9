use Rattle.std.specs.Option.{option_copied}
use Rattle.sipl_service.proofs.Gaps.{IsReached}
use Rattle.sipl_service.proofs.gap.first_gap.Given as goal

abbrev pub invariant-loop-place : goal.invariant-loop-place
invariant-loop-place l = IsReached l.pages (option_copied l.before) l.place
