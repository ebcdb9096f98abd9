use Rattle.sipl_failover.specs.FailoverRun.Event.{Received}
use Rattle.sipl_failover.specs.Runs.{step}
use Rattle.sipl_failover.proofs.EventLemmas.{provisional_is_known, provisional_keeps_attempt}
use Rattle.sipl_failover.proofs.RunLemmas.{known_over}
use Rattle.std.proofs.Common.{◌∙◌, sym}
use Rattle.sipl_failover.proofs.laws.provisional_response_rules_out_a_failure_by_timeout.Goals as goal

pub returns : goal.returns
returns c =
    λ run code moment retry_after events sent running low high same fails.
    known_over (step run (Received run.attempt code retry_after)).run events
    (provisional_is_known run code retry_after sent running low high)
    (same ∙ sym (provisional_keeps_attempt run code retry_after high))
    fails.no_response
