use Rattle.std.proofs.Common.{length, ap, ◌∙◌}
use Rattle.sipl_repair.proofs.Consistency.{len-queued}
use Rattle.sipl_repair.proofs.queue.Queue.len.Goals as goal

pub returns-clause-len : goal.returns-clause-len
returns-clause-len c = c.len.ensures ∙ len-queued c.self.inside c.self.invariant ∙ ap (λ w. length w.queued) c.self.view_is
