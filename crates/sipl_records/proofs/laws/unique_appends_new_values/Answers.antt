use Rattle.sipl_records.proofs.Unique.{unique-append, transitive_from_equivalence}
use Rattle.sipl_records.proofs.laws.unique_appends_new_values.Goals as goal

pub returns : goal.returns
returns g c = λ same laws. unique-append same (transitive_from_equivalence same laws)
