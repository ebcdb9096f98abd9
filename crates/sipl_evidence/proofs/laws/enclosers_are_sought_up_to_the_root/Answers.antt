use Rattle.sipl_evidence.proofs.FewSets.{at_encloser-root, max_ancestors-is}
use Rattle.sipl_evidence.proofs.laws.enclosers_are_sought_up_to_the_root.Goals as goal

pub returns : goal.returns
returns c = record { root = at_encloser-root; constant = max_ancestors-is }
