use Rattle.sipl_evidence.proofs.Alike.{result_of-alike, asked-alike}
use Rattle.sipl_evidence.proofs.laws.results_depend_on_asked_sets_only.Goals as goal

pub returns : goal.returns
returns g c = record {
  result = λ computation one other. result_of-alike one other computation;
  asked = λ computation one other. asked-alike one other computation;
}
