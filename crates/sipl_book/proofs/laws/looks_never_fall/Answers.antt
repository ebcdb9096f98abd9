use Rattle.sipl_book.proofs.Staleness.{looks_risen}
use Rattle.sipl_book.proofs.laws.looks_never_fall.Goals as goal

pub returns : goal.returns
returns c = λ old new small counted. looks_risen old new small counted
