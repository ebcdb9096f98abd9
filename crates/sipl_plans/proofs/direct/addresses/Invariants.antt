use Rattle.std.proofs.Common.{◌≡◌, drop}
use Rattle.sipl_choice.specs.FamilyKinds.{address_kinds}
use Rattle.sipl_plans.specs.Readings.{AddsLooks, outcome}
use Rattle.sipl_plans.specs.Route.{asking_addresses}
use Rattle.sipl_plans.proofs.RoutesRead.{after_found}
use Rattle.sipl_plans.proofs.direct.addresses.Given as goal

-- the addresses that are found and those of the kinds left are all of them
abbrev pub invariant-loop-kind : goal.invariant-loop-kind
invariant-loop-kind g l =
    let source = g.S.Sets.source in
    record {
      leads : after_found l.found.items (outcome source (asking_addresses (drop l.kind-index l.kind-items) l.name) l.evidence l.sets)
          ≡ outcome source (asking_addresses (address_kinds l.abilities.families) l.name) l.fn.evidence l.fn.sets;
      looked : AddsLooks source l.fn.sets l.sets;
    }
