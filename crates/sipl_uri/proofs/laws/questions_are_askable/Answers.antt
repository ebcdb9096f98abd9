use Rattle.sipl_uri.proofs.Askable.{question_of-askable}
use Rattle.sipl_uri.proofs.laws.questions_are_askable.Goals as goal

pub returns : goal.returns
returns c = question_of-askable
