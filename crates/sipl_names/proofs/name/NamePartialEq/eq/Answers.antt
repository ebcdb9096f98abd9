use Rattle.std.proofs.Common.{◌∙◌, nat_eq}
use lib.Pointwise.{pointwise}
use Rattle.sipl_names.specs.Labels.{same_name}
use Rattle.sipl_names.proofs.Wires.{compared_wires}
use Rattle.sipl_names.proofs.name.NamePartialEq.eq.Goals as goal

pub returns : goal.returns
returns c =
    c.eq.ensures ∙ (λ i. pointwise nat_eq (c.as_slice.ensures.value i) (c.as_slice-2.ensures.value i)) ∙ compared_wires _ _ c.self.invariant.exact c.other.invariant.exact ∙ (λ i. same_name (c.self.view_is i) (c.other.view_is i))
