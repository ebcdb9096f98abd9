use Rattle.sipl_evidence.proofs.Traces.{unique-trace, unique-whole_trace}
use Rattle.sipl_evidence.proofs.laws.traces_have_the_keys_asked_for.Goals as goal

pub returns : goal.returns
returns g c = record {
  prefix = λ computation items look. unique-trace look computation items;
  whole = λ computation items look. unique-whole_trace look computation items;
}
