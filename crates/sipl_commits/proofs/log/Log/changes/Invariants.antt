use Rattle.std.proofs.Common.{◌≡◌, flat_map, take}
use Rattle.sipl_commits.proofs.log.Log.changes.Given as goal

-- the bodies of the commits so far
abbrev pub invariant-loop-commit : goal.invariant-loop-commit
invariant-loop-commit l = l.changes.items ≡ flat_map (λ commit. commit.body.now) (take l.commit-index l.self.commits.items)
