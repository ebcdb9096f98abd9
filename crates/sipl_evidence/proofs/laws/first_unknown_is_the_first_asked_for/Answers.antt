use Rattle.std.proofs.Common.{sym, ◌∙◌}
use Rattle.sipl_evidence.specs.Looks.{asked}
use Rattle.sipl_evidence.specs.Known.{is_unknown}
use Rattle.sipl_evidence.proofs.Knowing.{first_unknown-find, known_result-is, All-find_none}
use Rattle.sipl_evidence.proofs.laws.first_unknown_is_the_first_asked_for.Goals as goal

pub returns : goal.returns
returns g c = record {
  first = λ computation items look agrees. first_unknown-find look items agrees computation;
  all = λ computation items look agrees none. All-find_none (is_unknown items) (asked look computation) (sym (first_unknown-find look items agrees computation) ∙ none);
  result = λ computation items look agrees. known_result-is look items agrees computation;
}
