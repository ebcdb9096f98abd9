use Rattle.sipl_evidence.proofs.FewSets.{length-asking, max_aliases-is}
use Rattle.sipl_evidence.proofs.laws.answers_ask_for_at_most_1186_sets.Goals as goal

pub returns : goal.returns
returns c = record { bound = length-asking; constant = max_aliases-is }
