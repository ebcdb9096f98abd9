use Rattle.std.proofs.Common.{◌≡◌, ◌++◌, drop}
use Rattle.sipl_records.specs.Sets.{set_of}
use Rattle.sipl_choice.specs.FamilyKinds.{address_kinds}
use Rattle.sipl_plans.specs.Route.{addresses}
use Rattle.sipl_plans.proofs.look.addresses.Given as goal

-- the addresses that are found and those of the kinds left are all of them
abbrev pub invariant-loop-kind : goal.invariant-loop-kind
invariant-loop-kind l =
    l.found.items ++ addresses (set_of l.records) (drop l.kind-index l.kind-items) l.name ≡ addresses (set_of l.records) (address_kinds l.fn.families) l.name
