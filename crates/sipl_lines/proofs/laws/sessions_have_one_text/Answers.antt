use Rattle.sipl_lines.specs.Lines.{lines_of}
use Rattle.sipl_lines.specs.Session.{new_session}
use Rattle.sipl_lines.proofs.OneText.{one_text}
use Rattle.sipl_lines.proofs.laws.sessions_have_one_text.Goals as goal

pub returns-clause-text : goal.returns-clause-text
returns-clause-text c = λ input t u before a b served served' well well'. (one_text (lines_of input) (new_session before) t u a b served served' well well').0

pub returns-clause-state : goal.returns-clause-state
returns-clause-state c = λ input t u before a b served served' well well'. (one_text (lines_of input) (new_session before) t u a b served served' well well').1
