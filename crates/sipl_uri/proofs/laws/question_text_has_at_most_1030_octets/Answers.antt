use Rattle.sipl_uri.proofs.Printing.{length-question_text}
use Rattle.sipl_uri.proofs.laws.question_text_has_at_most_1030_octets.Goals as goal

pub returns-clause-most : goal.returns-clause-most
returns-clause-most c = length-question_text
