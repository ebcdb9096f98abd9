use Rattle.sipl_records.proofs.Unique.{list_any-unique, transitive_from_equivalence, IsDistinct-unique, find-unique, ordered-unique}
use Rattle.sipl_records.proofs.laws.unique_keeps_first_values.Goals as goal

pub returns : goal.returns
returns g c = record { every = λ same laws. list_any-unique same (transitive_from_equivalence same laws); once = IsDistinct-unique; first = find-unique; ordered = ordered-unique }
