use Rattle.std.proofs.Common.{refl}
use Rattle.sipl_book.proofs.outdating.mark_all.Goals as goal

pub loop-id-init : goal.loop-id-init
loop-id-init c = (c.requires, refl)
