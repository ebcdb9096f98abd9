use Rattle.sipl_interleave.proofs.Right.{all-journal, all-right, asked-knows}
use Rattle.sipl_interleave.specs.Plays.{asked_by}
use Rattle.sipl_interleave.proofs.laws.answers_in_plays_are_right.Goals as goal

pub returns-clause-answers : goal.returns-clause-answers
returns-clause-answers c = λ steps old new replies plays. all-right (asked_by old.workers) steps old new replies (asked-knows old.workers) plays

pub returns-clause-journal : goal.returns-clause-journal
returns-clause-journal c = λ steps old new replies plays. all-journal (asked_by old.workers) steps old new replies (asked-knows old.workers) plays
