use Rattle.sipl_tx.proofs.Steps.{end_leads_there, end_comes_from_elsewhere, leads_there_ends}
use Rattle.sipl_tx.proofs.RunLaws as run_laws
use Rattle.sipl_tx.proofs.laws.end_is_reported_once.Goals as goal

pub returns-clause-once : goal.returns-clause-once
returns-clause-once c = run_laws.end_is_reported_once

pub returns-clause-there : goal.returns-clause-there
returns-clause-there c =
    λ t event.
    (λ ends. (end_comes_from_elsewhere t event ends, end_leads_there t event ends), λ both. leads_there_ends t event both.0 both.1)
