use Rattle.std.proofs.Common.{refl}
use Rattle.sipl_evidence.proofs.Placing.{empty-place_at}
use Rattle.sipl_evidence.proofs.places.Places.empty.Goals as goal

pub returns : goal.returns
returns c = empty-place_at _ 6 refl
