use Rattle.std.proofs.Common.{◌≡◌, ◌≢◌, ◌≤◌, [], ◌∷◌, filter, length}
use Rattle.std.proofs.lemmas.Option.{slice_get_past}
use Rattle.sipl_failover.specs.declared.step.Step.TheVariants.{Deliver, Exhausted}
use Rattle.sipl_failover.specs.FailoverRun.{FailoverRun, Event}
use Rattle.sipl_failover.specs.FailoverRun.Event.{Received, TransportFailed, Ticked}
use Rattle.sipl_failover.specs.Runs.{step, is_exhausted, is_final_or_exhausted, failure_code, IsFailure}
use Rattle.sipl_failover.proofs.EventLemmas.{exhausted_code, exhausted_running, exhausted_broken, exhausted_unanswered, exhausted_in_order, exhausted_late, exhausted_has_none_left, code_exhausts, broken_exhausts, unanswered_exhausts}
use Rattle.sipl_failover.proofs.RunLemmas.{exhausted_once_over, none_past}
use Rattle.sipl_failover.proofs.laws.exhausted_is_reported_once_after_the_last_target.Goals as goal

fails : (run : FailoverRun) (event : Event) → filter is_exhausted (step run event).steps ≢ [] → IsFailure run event
fails run (Received attempt code retry_after) some = (exhausted_running run attempt code retry_after some, exhausted_code run attempt code retry_after some)
fails run TransportFailed some = exhausted_broken run some
fails run (Ticked moment) some =
    record {
      no_response = exhausted_unanswered run moment some;
      in_order = exhausted_in_order run moment some;
      late = exhausted_late run moment some;
    }

ends : (run : FailoverRun) (event : Event) → 1 ≤ run.attempt → IsFailure run event → length run.targets ≤ run.attempt → filter is_final_or_exhausted (step run event).steps ≡ Deliver (failure_code event) ∷ Exhausted ∷ []
ends run (Received attempt code retry_after) sent fails none = code_exhausts run attempt code retry_after sent fails.0 fails.1 (slice_get_past run.targets run.attempt none)
ends run TransportFailed sent fails none = broken_exhausts run fails (slice_get_past run.targets run.attempt none)
ends run (Ticked moment) sent fails none = unanswered_exhausts run moment fails.no_response fails.in_order fails.late (slice_get_past run.targets run.attempt none)

pub returns-clause-once : goal.returns-clause-once
returns-clause-once c = exhausted_once_over

pub returns-clause-only : goal.returns-clause-only
returns-clause-only c = λ run event some. (fails run event some, none_past run.targets run.attempt (exhausted_has_none_left run event some))

pub returns-clause-always : goal.returns-clause-always
returns-clause-always c = ends
