use Rattle.std.proofs.Common.{◌≡◌, ap}
use Rattle.std.proofs.lemmas.List.Elements.{All-from_recursion}
use Rattle.sipl_tx.specs.Table.{no_acts}
use Rattle.sipl_tx.specs.Machine.{is_terminated}
use Rattle.sipl_tx.specs.Runs.{acts_of}
use Rattle.sipl_tx.proofs.RunLaws.{terminated_stays, terminated_has_no_acts}
use Rattle.sipl_tx.proofs.laws.terminated_is_final.Goals as goal

pub returns-clause-no_acts : goal.returns-clause-no_acts
returns-clause-no_acts c =
    λ t events at_end. All-from_recursion (λ acts. acts ≡ no_acts) (acts_of t events) (terminated_has_no_acts t events (ap is_terminated at_end))

pub returns-clause-stays : goal.returns-clause-stays
returns-clause-stays c = λ t events at_end. terminated_stays t events (ap is_terminated at_end)
