-- The numbers of record sets: a set takes a new number whenever it changes, so that equal numbers
-- mean equal sets. Existence takes none: its number says whether the name exists.
use Rattle.std.specs.Prelude.{◌≡◌, ◌≢◌, ◌↔◌, ℕ, ◌+◌, ◌^◌, ◌<◌, ◌≤◌, Bool, true, false, not, List, [], ◌∷◌, length, filter, Option, None, Some, nat_lt, if◌then◌else◌}
use Rattle.std.specs.List.{position_from}
use Rattle.std.specs.Option.{unwrap_or}
use Rattle.sipl_records.specs.Sets.{data_of, exists_in, is_existence, same_key, set_of}
use Rattle.sipl_records.specs.declared.data.Data.{Data}
use Rattle.sipl_records.specs.declared.record.Record.{Record}
use Rattle.sipl_records.specs.declared.record.Key.{Key}
use Rattle.sipl_zonestore.specs.Changes.{changed_sets}
use Rattle.sipl_zonestore.specs.declared.fault.StoreFault.{StoreFault}
use Rattle.sipl_zonestore.specs.declared.fault.StoreFault.TheVariants.{NumberSpent}

-- a key, and the number of its set
pub record SetNumber : Type 0 where
  pub key : Key
  pub number : ℕ

-- the number of a key's set, 0 where it has none
abbrev pub number_of : List SetNumber → Key → ℕ
number_of [] key = 0
number_of (n ∷ numbers) key = if same_key n.key key then n.number else number_of numbers key

-- whether a set has no data
abbrev pub is_empty : List Data → Bool
is_empty [] = true
is_empty (value ∷ set) = false

-- the keys that take a number: those of the record sets that have changed and are not empty, in the
-- order of the changed keys
abbrev pub numbered_keys : List Record → List Record → List Key
numbered_keys old new = filter (λ key. not (is_empty (data_of new key))) (changed_sets old new)

-- the number of a name's existence: 1 where the name exists, else 0
abbrev pub existence_number : Bool → ℕ
existence_number exists = if exists then 1 else 0

-- the number of a key's set by the records and the numbers of their sets
abbrev pub number_by : List Record → List SetNumber → Key → ℕ
number_by records numbers key =
    if is_existence key then existence_number (exists_in records key.name)
    else number_of numbers key

-- the number of a record set once the records have changed, where `next` is the first number that is
-- taken: an empty set has the number 0, and a set that stays as it is keeps its number
abbrev pub set_number_after : List Record → List Record → ℕ → (Key → ℕ) → Key → ℕ
set_number_after old new next numbers key =
    unwrap_or (position_from (λ other. same_key other key) next (numbered_keys old new))
    (if is_empty (data_of new key) then 0 else numbers key)

-- the number of a key's set once the records have changed
abbrev pub number_after : List Record → List Record → ℕ → (Key → ℕ) → Key → ℕ
number_after old new next numbers key =
    if is_existence key then existence_number (exists_in new key.name)
    else set_number_after old new next numbers key

-- the next number once the records have changed
abbrev pub next_after : List Record → List Record → ℕ → ℕ
next_after old new next = next + length (numbered_keys old new)

-- the greatest number is 2^52: the fault where fewer numbers are left than are taken
abbrev pub number_refusal : List Record → List Record → ℕ → Option StoreFault
number_refusal old new next =
    if nat_lt (2 ^ 52 + 1) (next_after old new next) then Some NumberSpent else None

-- what always holds of numbers: 0 is that of the empty sets, those of record sets were all taken
-- before the next one, no two record sets have one number but 0, and no number is above 2^52
pub record IsNumbered (records : List Record) (numbers : Key → ℕ) (next : ℕ) : Type 0 where
  pub empty : (key : Key) → (numbers key ≡ 0) ↔ (set_of records key ≡ [])
  pub below : (key : Key) → is_existence key ≡ false → numbers key < next
  pub one_key : (a b : Key) → is_existence a ≡ false → is_existence b ≡ false
      → numbers a ≡ numbers b → numbers a ≢ 0 → same_key a b ≡ true
  pub last : next ≤ 2 ^ 52 + 1
