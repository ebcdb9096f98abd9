-- A list of records, some of which were removed and not moved.
use Rattle.std.specs.Prelude.{◌≡◌, ℕ, Bool, ◌&&◌, false, List, [], ◌∷◌, length, map, nat_eq, if◌then◌else◌}
use Rattle.sipl_records.specs.Codes.{code_of_name}
use Rattle.sipl_records.specs.Sets.{same_record}
use Rattle.sipl_records.specs.declared.record.Record.{Record}

-- the codes of the records' owners
abbrev pub codes_of : List Record → List ℕ
codes_of records = map (λ r. code_of_name r.owner) records

-- the records that were not removed: those beside the code of their owner
abbrev pub live : List Record → List ℕ → List Record
live [] codes = []
live (r ∷ records) [] = []
live (r ∷ records) (code ∷ codes) =
    if nat_eq code (code_of_name r.owner) then r ∷ live records codes else live records codes

-- the records, and for how many more there is space
pub record ListState : Type 0 where
  pub records : List Record
  pub room : ℕ

-- what always holds: each record has a code, and `len` counts those that were not removed
pub record IsRecordList (records : List Record) (codes : List ℕ) (len : ℕ) : Type 0 where
  pub long : length codes ≡ length records
  pub counted : len ≡ length (live records codes)

-- whether the first is equal to this record, and was not removed
abbrev pub is_first : Record → List Record → List ℕ → Bool
is_first sought [] codes = false
is_first sought (r ∷ records) [] = false
is_first sought (r ∷ records) (code ∷ codes) =
    nat_eq code (code_of_name sought.owner) && same_record sought r
