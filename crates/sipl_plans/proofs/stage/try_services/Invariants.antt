use Rattle.std.proofs.Common.{◌≡◌, drop}
use Rattle.sipl_plans.proofs.ServiceWalks.{services_left}
use Rattle.sipl_plans.proofs.stage.try_services.Given as goal

abbrev pub invariant-loop-place : goal.invariant-loop-place
invariant-loop-place l =
    services_left l.domain.abilities.now l.domain.name.now l.secure l.is_closed (drop l.place l.preference)
    ≡ services_left l.domain.abilities.now l.domain.name.now l.secure l.is_closed (drop l.next l.preference)
