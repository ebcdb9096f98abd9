-- Records by the zones that they are within.
use Rattle.std.specs.Prelude.{Bool, List, [], ◌∷◌, ◌++◌, fold, map, if◌then◌else◌}
use Rattle.sipl_names.specs.Labels.{Labels}
use Rattle.sipl_records.specs.declared.record.Record.{Record}
use Rattle.sipl_zonestore.specs.Store.{apexes_after_load, records_within}

-- the apexes, each once, at its first place
abbrev pub listed : List Labels → List Labels
listed apexes = fold (λ done apex. apexes_after_load apex done) [] apexes

-- each zone with the records that are within its apex, in their order
abbrev pub zones_of : List Labels → List Record → List (Labels × List Record)
zones_of apexes records = map (λ apex. (apex, records_within apex records)) apexes

-- lists that are those of apexes, with a record appended to those whose apexes pass a test
abbrev pub with_record : List Labels → (Labels → Bool) → Record → List (List Record) → List (List Record)
with_record [] test r lists = lists
with_record (apex ∷ apexes) test r [] = []
with_record (apex ∷ apexes) test r (list ∷ lists) =
    (if test apex then list ++ r ∷ [] else list) ∷ with_record apexes test r lists

-- apexes and lists that are theirs, as zones
abbrev pub paired : List Labels → List (List Record) → List (Labels × List Record)
paired [] lists = []
paired (apex ∷ apexes) [] = []
paired (apex ∷ apexes) (list ∷ lists) = (apex, list) ∷ paired apexes lists
