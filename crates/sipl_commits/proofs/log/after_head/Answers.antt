use Rattle.std.proofs.Common.{Some, ◌++◌, ap, ◌∙◌}
use Rattle.std.proofs.lemmas.Bool.Decides.{Decides-eqb}
use Rattle.std.proofs.lemmas.Slice.Eq.{strip_prefix_is}
use Rattle.sipl_commits.specs.Seals.{Octets}
use Rattle.sipl_commits.proofs.log.after_head.Goals as goal

pub returns-in-Some-clause-head : goal.returns-in-Some-clause-head
returns-in-Some-clause-head c =
    strip_prefix_is Decides-eqb c.args.octets.now c.as_slice.result.now (Some c.in-Some.rest) c.in-Some.ensures.cases
    ∙ ap (λ (head : Octets). head ++ c.in-Some.rest.now) (c.as_slice.ensures.value ∙ c.in_ok-head.ensures)
