use Rattle.sipl_names.proofs.RoundTrip.{name_of-text_of}
use Rattle.sipl_names.proofs.laws.printing_reads_back.Goals as goal

pub returns : goal.returns
returns c = name_of-text_of
