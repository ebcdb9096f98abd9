use Rattle.sipl_zonestore.proofs.Runs.{numbers-differ, taken-in, next-le}
use Rattle.sipl_zonestore.proofs.laws.no_number_is_taken_twice.Goals as goal

pub returns-clause-different : goal.returns-clause-different
returns-clause-different c = numbers-differ

pub returns-clause-fresh : goal.returns-clause-fresh
returns-clause-fresh c = λ edit state key there. (taken-in edit state key there).from

pub returns-clause-taken : goal.returns-clause-taken
returns-clause-taken c = λ edit state key there. (taken-in edit state key there).below

pub returns-clause-forward : goal.returns-clause-forward
returns-clause-forward c = next-le
