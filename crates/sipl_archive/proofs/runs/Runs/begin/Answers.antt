use Rattle.std.proofs.Common.{sym, ◌∙◌, refl}
use Rattle.sipl_archive.proofs.Following.{begins_anew, begins_none}
use Rattle.sipl_archive.proofs.runs.Runs.begin.Goals as goal

pub returns-in_ok-end_last-clause-last : goal.returns-in_ok-end_last-clause-last
returns-in_ok-end_last-clause-last c =
    begins_anew _ _ _ _ _ c.in_ok-run.run' (sym c.begins.ensures ∙ c.if-begins.true) c.replace.ensures.after c.in_ok-run.ensures

pub returns-else-begins-clause-last : goal.returns-else-begins-clause-last
returns-else-begins-clause-last c = begins_none _ _ _ _ _ (sym c.begins.ensures ∙ c.if-begins.false) refl
