use Rattle.std.proofs.Common.{◌∙◌}
use Rattle.sipl_interleave.proofs.Returning.{return-none, return-some, returned}
use Rattle.sipl_interleave.proofs.workers.Workers.give_back.Goals as goal

pub loop-worker-preserved-in-Some-into_lease : goal.loop-worker-preserved-in-Some-into_lease
loop-worker-preserved-in-Some-into_lease c =
    returned c.loop-worker.workers.items c.pop.new.self.items c.in-Some.worker c.loop-worker.book c.give_back.new.self _ c.in-Some.ensures.items
    (c.give_back.ensures ∙ return-some c.in-Some.worker c.in-Some-into_lease.lease c.loop-worker.book c.in-Some-into_lease.ensures) c.loop-worker.invariant

pub loop-worker-preserved : goal.loop-worker-preserved
loop-worker-preserved c =
    returned c.loop-worker.workers.items c.pop.new.self.items c.in-Some.worker c.loop-worker.book c.loop-worker.book _ c.in-Some.ensures.items
    (return-none c.in-Some.worker c.loop-worker.book c.in_default-into_lease.ensures) c.loop-worker.invariant
