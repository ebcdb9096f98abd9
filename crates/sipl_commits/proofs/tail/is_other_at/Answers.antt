use Rattle.std.proofs.Common.{arith, ap, ◌∙◌}
use Rattle.std.proofs.lemmas.List.{take_rest}
use Rattle.sipl_commits.specs.Commits.{line_start}
use Rattle.sipl_commits.proofs.Others.{other_decides}
use Rattle.sipl_commits.proofs.Texts.{starts_decides}
use Rattle.sipl_commits.proofs.tail.is_other_at.Goals as goal

pub returns : goal.returns
returns c =
    let text = c.args.text.now in
    let next = c.deref.result.now in
    other_decides c.args.number text c.args.place next c.starts_with.result ((rw (take_rest text c.args.place) at c.in_ok-has_line.ensures).0 c.if-not-branch.false) (omega arith)
    (c.deref.ensures.value ∙ c.in_ok-next.ensures ∙ ap line_start c.saturating_add.ensures)
    (starts_decides text next c.starts_with.result c.starts_with.ensures.value)
