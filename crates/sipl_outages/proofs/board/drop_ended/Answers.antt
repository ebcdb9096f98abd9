use Rattle.std.proofs.Common.{rules}
use Rattle.indexmap.proofs.CallerLemmas.{filter-RetainsPairs}
use Rattle.sipl_outages.proofs.board.drop_ended.Goals as goal

pub returns-clause-ends : goal.returns-clause-ends
returns-clause-ends c = filter-RetainsPairs _ _ _ (λ k v b w g call. search rules) _ _ c.retain.ensures.filtered
