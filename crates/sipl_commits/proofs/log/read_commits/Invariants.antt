use Rattle.std.proofs.Common.{◌≡◌, ◌++◌, length, map}
use Rattle.sipl_commits.specs.Commits.{after, bodies_of, points, written_all}
use Rattle.sipl_commits.proofs.log.read_commits.Given as goal

-- the commits so far and the rest are the text
abbrev pub invariant-loop-commits : goal.invariant-loop-commits
invariant-loop-commits l =
    let bodies = bodies_of l.commits.items in
    record {
      is : l.text ≡ written_all l.point bodies ++ l.tail;
      points_are : map (λ commit. commit.point) l.commits.items ≡ points l.point bodies;
      last_is : l.last ≡ after l.point bodies;
    }

abbrev pub decreases-loop-commits : goal.decreases-loop-commits
decreases-loop-commits l = length l.tail
