use Rattle.std.proofs.Common.{◌∙◌}
use Rattle.sipl_repair.proofs.Live.{live-none_stale}
use Rattle.sipl_repair.proofs.stale_places.compact_if_full.Goals as goal

pub returns-then-free-additional-clause-live : goal.returns-then-free-additional-clause-live
returns-then-free-additional-clause-live c = live-none_stale _ _ c.compact.ensures.none_stale ∙ c.compact.ensures.live
