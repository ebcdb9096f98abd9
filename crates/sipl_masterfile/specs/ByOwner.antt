-- Records with a table by which those of one owner are found, by its code.
use Rattle.std.specs.Prelude.{◌≡◌, ℕ, zero, suc, ◌<◌, List, [], ◌∷◌, Option, length, take, nat_eq, if◌then◌else◌}
use Rattle.std.specs.List.{slice_index_or}
use Rattle.std.specs.Option.{unwrap_or}
use Rattle.sipl_records.specs.Codes.{code_of_name}
use Rattle.sipl_records.specs.declared.record.Record.{Record}

-- how many records there are up to the last one whose owner has the code, 0 if there is none
abbrev pub end_of : ℕ → List Record → ℕ
end_of code [] = 0
end_of code (r ∷ records) = elim (end_of code records) [
  | zero ↦ if nat_eq code (code_of_name r.owner) then 1 else 0
  | suc n ↦ suc (suc n)
]

-- the table has the end of the records of each code, and beside each record is the end of those of
-- the code of its owner before it
pub record IsIndexed (records : List Record) (earlier : List ℕ) (ends : ℕ → Option ℕ) : Type 0 where
  pub table : (code : ℕ) → unwrap_or (ends code) 0 ≡ end_of code records
  pub len : length earlier ≡ length records
  pub beside : (i : ℕ) (d : Record) → i < length records
      → slice_index_or earlier i 0 ≡ end_of (code_of_name (slice_index_or records i d).owner) (take i records)
