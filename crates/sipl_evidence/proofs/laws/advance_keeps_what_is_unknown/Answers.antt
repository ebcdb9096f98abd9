use Rattle.sipl_evidence.proofs.Knowing.{first_unknown-advance, known_result-advance, advance-advance, result_of-advance}
use Rattle.sipl_evidence.proofs.laws.advance_keeps_what_is_unknown.Goals as goal

pub returns : goal.returns
returns g c = record {
  first_unknown = λ computation items more. first_unknown-advance items more computation;
  known_result = λ computation items more. known_result-advance items more computation;
  advance = λ computation items more. advance-advance items more computation;
  result = λ computation items look agrees. result_of-advance look items agrees computation;
}
