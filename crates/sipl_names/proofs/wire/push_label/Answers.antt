use Rattle.sipl_names.proofs.Lowercase.{lowered_slice}
use Rattle.sipl_names.proofs.wire.push_label.Goals as goal

pub returns-clause-label : goal.returns-clause-label
returns-clause-label c = lowered_slice _ c.requires.faultless c.type_inv.label
