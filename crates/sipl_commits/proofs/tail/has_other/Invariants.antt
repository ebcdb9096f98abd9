use Rattle.std.proofs.Common.{ℕ, ◌<◌}
use Rattle.sipl_commits.specs.Tails.{IsOtherAt}
use Rattle.sipl_commits.proofs.tail.has_other.Given as goal

-- there is none at the places so far
abbrev pub invariant-loop-place : goal.invariant-loop-place
invariant-loop-place l = (k : ℕ) → k < l.place → IsOtherAt l.number l.text k → ⊥
