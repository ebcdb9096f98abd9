use Rattle.sipl_names.proofs.Wires.{split_parts}
use Rattle.sipl_names.proofs.wire.split_label.Goals as goal

pub returns-clause-rest : goal.returns-clause-rest
returns-clause-rest c =
    (split_parts _ _ _ _ _ c.in_ok-len.ensures.cases.0 c.split_at.ensures.front c.split_at.ensures.back c.requires).0

pub returns-clause-labels : goal.returns-clause-labels
returns-clause-labels c =
    (split_parts _ _ _ _ _ c.in_ok-len.ensures.cases.0 c.split_at.ensures.front c.split_at.ensures.back c.requires).1
