use Rattle.sipl_evidence.proofs.AliasAnswers.{wildcard-own, wildcard-alias, wildcard-none}
use Rattle.sipl_evidence.proofs.laws.absent_names_are_answered_at_the_wildcard.Goals as goal

pub returns : goal.returns
returns c = record {
  own = wildcard-own;
  alias = wildcard-alias;
  none = wildcard-none;
}
