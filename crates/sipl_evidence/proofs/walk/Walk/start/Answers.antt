use Rattle.std.proofs.Common.{sym, ap, ◌∙◌}
use Rattle.sipl_evidence.specs.Answers.{asking_within, max_ancestors}
use Rattle.sipl_evidence.proofs.AliasAnswers.{asking_within-is}
use Rattle.sipl_evidence.proofs.FewSets.{max_aliases-is}
use Rattle.sipl_evidence.proofs.walk.Walk.start.Goals as goal

pub returns : goal.returns
returns c =
    sym (asking_within-is max_ancestors 8 c.args.name c.args.kind)
    ∙ ap (λ left. asking_within max_ancestors left c.args.name c.args.kind) (sym max_aliases-is)
