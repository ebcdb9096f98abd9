use Rattle.sipl_evidence.proofs.Traces.{trace-push}
use Rattle.sipl_evidence.proofs.laws.traces_go_on_with_the_first_unknown.Goals as goal

pub returns : goal.returns
returns g c = record { start = λ computation. tt; next = trace-push }
