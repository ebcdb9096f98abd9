use Rattle.sipl_tx.specs.declared.parts.Kind.TheVariants.{Other}
use Rattle.sipl_tx.specs.Transaction.Event.{Response}
use Rattle.sipl_tx.specs.Runs.{step}
use Rattle.sipl_tx.proofs.Completed.{stays_completed_over, other_completes, response_keeps_moment, completed_ends}
use Rattle.sipl_tx.proofs.laws.other_is_completed_for_timer_k.Goals as goal

pub returns-clause-before : goal.returns-clause-before
returns-clause-before c =
    λ t code events is_other awaits unreliable low high before.
    (stays_completed_over Other t.moment (step t (Response code)).transaction events (other_completes t code is_other awaits unreliable low high) before).is_completed

pub returns-clause-end : goal.returns-clause-end
returns-clause-end c =
    λ t code moment events is_other awaits unreliable low high before late.
    completed_ends Other t.moment moment (step t (Response code)).transaction events (other_completes t code is_other awaits unreliable low high) (response_keeps_moment t code) before late
