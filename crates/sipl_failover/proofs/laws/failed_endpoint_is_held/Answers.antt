use Rattle.std.proofs.Common.{◌≢◌, [], filter, refl}
use Rattle.sipl_failover.specs.FailoverRun.{FailoverRun, Event}
use Rattle.sipl_failover.specs.FailoverRun.Event.{Received, TransportFailed, Ticked}
use Rattle.sipl_failover.specs.Runs.{step, is_hold, IsFailure}
use Rattle.sipl_failover.proofs.EventLemmas.{hold_code, hold_running, hold_broken, hold_unanswered, hold_in_order, hold_late, code_holds, broken_holds, unanswered_holds, no_retry_holds_none, zero_retry_holds_none}
use Rattle.sipl_failover.proofs.laws.failed_endpoint_is_held.Goals as goal

fails : (run : FailoverRun) (event : Event) → filter is_hold (step run event).steps ≢ [] → IsFailure run event
fails run (Received attempt code retry_after) some = (hold_running run attempt code retry_after some, hold_code run attempt code retry_after some)
fails run TransportFailed some = hold_broken run some
fails run (Ticked moment) some =
    record {
      no_response = hold_unanswered run moment some;
      in_order = hold_in_order run moment some;
      late = hold_late run moment some;
    }

pub returns-clause-only : goal.returns-clause-only
returns-clause-only c = fails

pub returns-clause-timeout : goal.returns-clause-timeout
returns-clause-timeout c = λ run moment endpoint fails there. unanswered_holds run moment endpoint fails.no_response fails.in_order fails.late there

pub returns-clause-broken : goal.returns-clause-broken
returns-clause-broken c = broken_holds

pub returns-clause-retry_after : goal.returns-clause-retry_after
returns-clause-retry_after c = λ run attempt seconds endpoint sent running positive there. code_holds run attempt 503 seconds endpoint sent running refl positive there

pub returns-clause-no_retry_after : goal.returns-clause-no_retry_after
returns-clause-no_retry_after c = no_retry_holds_none

pub returns-clause-retry_after_zero : goal.returns-clause-retry_after_zero
returns-clause-retry_after_zero c = zero_retry_holds_none
