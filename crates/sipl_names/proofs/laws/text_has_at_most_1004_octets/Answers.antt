use Rattle.sipl_names.proofs.TextLength.{length-text_of}
use Rattle.sipl_names.proofs.laws.text_has_at_most_1004_octets.Goals as goal

pub returns-clause-bound : goal.returns-clause-bound
returns-clause-bound c = length-text_of
