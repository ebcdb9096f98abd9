use Rattle.std.proofs.Common.{◌≡◌, [], ◌∷◌, ◌++◌, ap, ◌∙◌}
use Rattle.sipl_names.specs.Labels.{wildcard_beside}
use Rattle.sipl_names.specs.Wire.{IsNameWire, labels_of_wire}
use Rattle.sipl_names.proofs.Wildcards.{wildcard_wire}
use Rattle.sipl_names.proofs.name.Name.wildcard_beside.Goals as goal
use Rattle.sipl_names.proofs.name.Name.wildcard_beside.Goals.{In_ok-wire-2}

made : (c : In_ok-wire-2) → IsNameWire c.in_ok-wire-2.wire × (labels_of_wire c.in_ok-wire-2.wire ≡ wildcard_beside c.args.self.now)
made c =
    let wildcard =
    wildcard_wire _ _ _ _ _ c.as_slice.ensures.value c.self.invariant c.in-Some.ensures.labels c.in-Some.ensures.rest
    (c.in_ok-wire-2.ensures ∙ c.as_slice-2.ensures ∙ c.in_ok-extend_from_slice-2.ensures.ok ∙ ap (λ w. w ++ c.in-Some.rest.now) (c.in_ok-extend_from_slice.ensures.ok ∙ ap (λ w. w ++ 1 ∷ 42 ∷ []) c.in_ok-wire.ensures.items)) in
    (wildcard.0, wildcard.1 ∙ ap wildcard_beside c.self.view_is)

pub invariant_of-result : goal.invariant_of-result
invariant_of-result c = (made (goal.at.invariant_of-result c).In_ok-wire-2).0

pub returns-clause-value : goal.returns-clause-value
returns-clause-value c = (made (goal.at.returns-clause-value c).In_ok-wire-2).1

pub returns-clause-limits : goal.returns-clause-limits
returns-clause-limits c = (made (goal.at.returns-clause-limits c).In_ok-wire-2).0.name
