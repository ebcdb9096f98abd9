use Rattle.sipl_repair.proofs.Holding.{is_held-after_mark, is_held-after_lease, is_held-after_settle, is_held-after_requeue, is_held-after_give_back, is_held-after_forget}
use Rattle.sipl_repair.proofs.laws.held_until_settled_or_forgotten.Goals as goal

pub returns-clause-mark : goal.returns-clause-mark
returns-clause-mark c = is_held-after_mark

pub returns-clause-lease : goal.returns-clause-lease
returns-clause-lease c = is_held-after_lease

pub returns-clause-requeue : goal.returns-clause-requeue
returns-clause-requeue c = is_held-after_requeue

pub returns-clause-give_back : goal.returns-clause-give_back
returns-clause-give_back c = is_held-after_give_back

pub returns-clause-settle : goal.returns-clause-settle
returns-clause-settle c = is_held-after_settle

pub returns-clause-forget : goal.returns-clause-forget
returns-clause-forget c = is_held-after_forget
