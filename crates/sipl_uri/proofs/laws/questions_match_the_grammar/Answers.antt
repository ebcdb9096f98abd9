use Rattle.sipl_uri.proofs.Grammar.{question_of-is, question_of-Ok}
use Rattle.sipl_uri.proofs.laws.questions_match_the_grammar.Goals as goal

pub returns : goal.returns
returns c = λ text question. (question_of-is text question, question_of-Ok text question)
