use Rattle.std.proofs.Common.{◌≡◌, filter, take}
use Rattle.sipl_outages.specs.Holds.{is_held}
use Rattle.sipl_plans.specs.Plan.{without_held}
use Rattle.sipl_plans.proofs.layout.with_held_last.Given as goal

-- of the endpoints before this one those that are not held, and those that are
abbrev pub invariant-loop-endpoint : goal.invariant-loop-endpoint
invariant-loop-endpoint l = record {
  targets : l.targets.items ≡ without_held l.board.holds (take l.endpoint-index l.fn.endpoints.items);
  held : l.held.items ≡ filter (λ e. is_held l.board.holds e) (take l.endpoint-index l.fn.endpoints.items);
}
