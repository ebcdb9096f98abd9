use Rattle.std.proofs.Common.{◌∙◌}
use Rattle.sipl_failover.specs.FailoverRun.{new_run}
use Rattle.sipl_failover.specs.Runs.{steps_of}
use Rattle.sipl_failover.proofs.RunLemmas.{contacts_first, contacts_prefix}
use Rattle.sipl_failover.proofs.laws.contacted_targets_are_a_prefix.Goals as goal

pub returns : goal.returns
returns c =
    λ targets kind base start events.
    contacts_first targets (steps_of (new_run targets kind base start) events)
    ∙ contacts_prefix (new_run targets kind base start) events
