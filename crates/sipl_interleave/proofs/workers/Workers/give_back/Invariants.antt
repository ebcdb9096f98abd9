use Rattle.std.proofs.Common.{◌≡◌}
use Rattle.sipl_interleave.specs.World.{after_give_back_of_all}
use Rattle.sipl_interleave.proofs.workers.Workers.give_back.Given as goal

abbrev pub invariant-loop-worker : goal.invariant-loop-worker
invariant-loop-worker l =
    after_give_back_of_all l.workers.items l.book ≡ after_give_back_of_all l.initial.workers.items l.initial.book

abbrev pub decreases-loop-worker : goal.decreases-loop-worker
decreases-loop-worker l = goal.left-loop-worker l
