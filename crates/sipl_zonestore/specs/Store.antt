-- The store: which zones are loaded, and the records in the order of their addition.
use Rattle.std.specs.Prelude.{ℕ, Bool, ◌&&◌, ◌||◌, not, List, [], ◌∷◌, ◌++◌, filter, if◌then◌else◌}
use Rattle.std.specs.List.{list_any}
use Rattle.sipl_names.specs.Labels.{Labels, same_name, is_within}
use Rattle.sipl_records.specs.declared.record.Record.{Record}
use Rattle.sipl_records.specs.declared.record.Key.{Key}
use Rattle.sipl_masterfile.specs.Zones.{Zone}
use Rattle.sipl_zonestore.specs.Numbers.{SetNumber, number_by}

-- the apexes of the loaded zones, and all records, each in the order of addition
pub record Zones : Type 0 where
  pub apexes : List Labels
  pub records : List Record

-- what callers see of a store: its zones, the maximum of its records, the numbers of its record
-- sets, the next number, and how many looks at its data were counted
pub record Store : Type 0 where
  pub zones : Zones
  pub max_records : ℕ
  pub numbers : List SetNumber
  pub next : ℕ
  pub looks : ℕ

-- the number of a key's set in a store; that of existence says whether the name exists
abbrev pub number_in : Store → Key → ℕ
number_in store key = number_by store.zones.records store.numbers key

-- nothing is loaded
abbrev pub no_zones : Zones
no_zones = record { apexes = []; records = [] }

-- whether one of the two names is strictly below the other
abbrev pub overlaps : Labels → Labels → Bool
overlaps a b = (is_within a b || is_within b a) && not (same_name a b)

-- whether the owner is within a loaded zone
abbrev pub is_covered : List Labels → Labels → Bool
is_covered apexes owner = list_any (λ apex. is_within owner apex) apexes

-- the records whose owners are outside the zone
abbrev pub records_outside : Labels → List Record → List Record
records_outside apex records = filter (λ r. not (is_within r.owner apex)) records

-- the records whose owners are within the zone
abbrev pub records_within : Labels → List Record → List Record
records_within apex records = filter (λ r. is_within r.owner apex) records

-- the records once a zone is loaded: those of its text replace those within its apex, and are last
abbrev pub records_after_load : Zone → List Record → List Record
records_after_load zone records = records_outside zone.apex records ++ zone.records

-- the apexes once a zone is loaded: a new one is last
abbrev pub apexes_after_load : Labels → List Labels → List Labels
apexes_after_load apex apexes =
    if list_any (same_name apex) apexes then apexes else apexes ++ apex ∷ []

-- the apexes without this one
abbrev pub apexes_without : Labels → List Labels → List Labels
apexes_without apex apexes = filter (λ other. not (same_name apex other)) apexes
