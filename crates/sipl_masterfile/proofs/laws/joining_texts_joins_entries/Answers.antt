use Rattle.std.proofs.Common.{◌++◌}
use Rattle.sipl_masterfile.specs.Tokens.{tokens}
use Rattle.sipl_masterfile.proofs.Cutting.{tokens-joined}
use Rattle.sipl_masterfile.proofs.Joining.{entries-split}
use Rattle.sipl_masterfile.proofs.laws.joining_texts_joins_entries.Goals as goal

pub returns : goal.returns
returns c = λ first second complete.
    entries-split (tokens 0 (first ++ second)) (tokens 0 first) (tokens 0 second) (tokens-joined first second 0 complete.ended) complete.ended complete.closed
