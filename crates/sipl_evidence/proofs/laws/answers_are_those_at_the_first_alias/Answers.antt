use Rattle.sipl_evidence.proofs.AliasAnswers.{own-answer, alias-answer, present-answer, nowhere-answer}
use Rattle.sipl_evidence.proofs.laws.answers_are_those_at_the_first_alias.Goals as goal

pub returns : goal.returns
returns c = record {
  own = own-answer;
  alias = alias-answer;
  exists = present-answer;
  nowhere = nowhere-answer;
}
