use Rattle.std.proofs.Common.{ap, ◌∙◌}
use Rattle.sipl_repair.specs.QueueState.{is_queued}
use Rattle.sipl_repair.proofs.Consistency.{contains-queued}
use Rattle.sipl_repair.proofs.queue.Queue.is_queued.Goals as goal

pub returns-clause-queued : goal.returns-clause-queued
returns-clause-queued c =
    c.contains.ensures
    ∙ contains-queued c.self.inside c.self.invariant c.args.id
    ∙ ap (λ w. is_queued w c.args.id) c.self.view_is
