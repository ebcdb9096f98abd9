use Rattle.sipl_names.proofs.Counts.{labels-at_most_127}
use Rattle.sipl_names.proofs.laws.names_have_at_most_127_labels.Goals as goal

pub returns : goal.returns
returns c = labels-at_most_127
