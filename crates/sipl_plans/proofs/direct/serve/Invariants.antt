use Rattle.std.proofs.Common.{◌≡◌, drop}
use Rattle.sipl_choice.specs.FamilyKinds.{address_kinds}
use Rattle.sipl_plans.specs.Readings.{AddsLooks, outcome}
use Rattle.sipl_plans.specs.Route.{asking_sources}
use Rattle.sipl_plans.proofs.RoutesRead.{after_servers}
use Rattle.sipl_plans.proofs.direct.serve.Given as goal

-- the servers of the picks before this one and those of the picks left are all servers
abbrev pub invariant-loop-pick : goal.invariant-loop-pick
invariant-loop-pick g l =
    let source = g.S.Sets.source in
    let kinds = address_kinds l.abilities.families in
    record {
      leads : after_servers l.servers.items (outcome source (asking_sources kinds (drop l.pick-index l.picks)) l.evidence l.sets)
          ≡ outcome source (asking_sources kinds l.picks) l.fn.evidence l.fn.sets;
      looked : AddsLooks source l.fn.sets l.sets;
    }
