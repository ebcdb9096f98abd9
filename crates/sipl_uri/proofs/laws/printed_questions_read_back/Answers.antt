use Rattle.sipl_uri.proofs.Printing.{question_of-text}
use Rattle.sipl_uri.proofs.laws.printed_questions_read_back.Goals as goal

pub returns : goal.returns
returns c = question_of-text
