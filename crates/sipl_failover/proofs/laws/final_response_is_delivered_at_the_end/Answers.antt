use Rattle.std.proofs.Common.{length, ap, arith}
use Rattle.sipl_failover.proofs.EventLemmas.{end_is_final, final_ends}
use Rattle.sipl_failover.proofs.RunLemmas.{final_once_over}
use Rattle.sipl_failover.proofs.laws.final_response_is_delivered_at_the_end.Goals as goal

pub returns-clause-once : goal.returns-clause-once
returns-clause-once c = final_once_over

pub returns-clause-end : goal.returns-clause-end
returns-clause-end c =
    λ run event running.
    (λ ended. end_is_final run event running ended, λ one. final_ends run event (λ none. absurd (omega (arith, ap length none))))
