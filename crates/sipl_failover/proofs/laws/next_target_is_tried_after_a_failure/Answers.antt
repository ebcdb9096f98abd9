use Rattle.std.proofs.Common.{◌≡◌, ◌≢◌, ◌+◌, ◌≤◌, ◌<◌, [], ◌∷◌, filter, length}
use Rattle.sipl_failover.specs.declared.step.Step.TheVariants.{Send}
use Rattle.sipl_failover.specs.FailoverRun.{FailoverRun, Event}
use Rattle.sipl_failover.specs.FailoverRun.Event.{Received, TransportFailed, Ticked}
use Rattle.sipl_failover.specs.Runs.{step, is_send, IsFailure}
use Rattle.sipl_failover.proofs.EventLemmas.{send_code, send_running, send_broken, send_unanswered, send_in_order, send_late, send_has_target, code_sends, broken_sends, unanswered_sends}
use Rattle.sipl_failover.proofs.RunLemmas.{is_some_within, target_within}
use Rattle.sipl_failover.proofs.laws.next_target_is_tried_after_a_failure.Goals as goal

fails : (run : FailoverRun) (event : Event) → filter is_send (step run event).steps ≢ [] → IsFailure run event
fails run (Received attempt code retry_after) some = (send_running run attempt code retry_after some, send_code run attempt code retry_after some)
fails run TransportFailed some = send_broken run some
fails run (Ticked moment) some =
    record {
      no_response = send_unanswered run moment some;
      in_order = send_in_order run moment some;
      late = send_late run moment some;
    }

sends : (run : FailoverRun) (event : Event) → 1 ≤ run.attempt → IsFailure run event → run.attempt < length run.targets → filter is_send (step run event).steps ≡ Send (run.attempt + 1) ∷ []
sends run (Received attempt code retry_after) sent fails left =
    let there = target_within run.targets run.attempt left in
    code_sends run attempt code retry_after there.0 sent fails.0 fails.1 there.1
sends run TransportFailed sent fails left =
    let there = target_within run.targets run.attempt left in
    broken_sends run there.0 fails there.1
sends run (Ticked moment) sent fails left =
    let there = target_within run.targets run.attempt left in
    unanswered_sends run moment there.0 fails.no_response fails.in_order fails.late there.1

pub returns-clause-only : goal.returns-clause-only
returns-clause-only c = λ run event some. (fails run event some, is_some_within run.targets run.attempt (send_has_target run event some))

pub returns-clause-always : goal.returns-clause-always
returns-clause-always c = sends
