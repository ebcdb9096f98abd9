-- What the tables tell of a key's set.
use Rattle.std.proofs.Common.{◌≡◌, ◌≢◌, ℕ, Bool, true, false, not, List, nat_eq, refl, ap, sym, ◌∙◌, inl, inr, arith}
use Rattle.std.proofs.lemmas.Bool.{cases_Bool}
use Rattle.std.proofs.lemmas.Bool.Decides.{nat_tests}
use mir.Val.{bool_byte}
use Rattle.sipl_records.specs.Sets.{exists_in, existence_of, is_existence, set_of}
use Rattle.sipl_records.specs.declared.record.Record.{Record}
use Rattle.sipl_records.specs.declared.record.Key.{Key}
use Rattle.sipl_records.proofs.Public.{set_of-existence}
use Rattle.sipl_zonestore.specs.NameTable.{NameTable, HasNames, count_at}
use Rattle.sipl_zonestore.specs.Numbers.{SetNumber, existence_number, number_by}
use Rattle.sipl_zonestore.specs.SetTable.{OwnerTable, content_of, numbers_of}
use Rattle.sipl_zonestore.proofs.AncestorCounts.{count-exists}
use Rattle.sipl_zonestore.proofs.SetTables.{number_of-numbers_of}

-- the number of a record set
pub number-of_set : (records : List Record) (sets : OwnerTable) (key : Key) → is_existence key ≡ false → number_by records (numbers_of sets) key ≡ (content_of sets key).number
number-of_set records sets key other = rw other (number_of-numbers_of sets key)

not_not : (b : Bool) → not (not b) ≡ b
not_not true = refl
not_not false = refl

counted : (records : List Record) (names : NameTable) (key : Key) (none : Bool) → HasNames names records → nat_eq (count_at names key.name) 0 ≡ none → exists_in records key.name ≡ not none
counted records names key none has count =
    sym (not_not (exists_in records key.name)) ∙ ap not (sym (count-exists records key.name) ∙ ap (λ n. nat_eq n 0) (sym (has key.name)) ∙ count)

-- the number of a name's existence, by whether no record is within it
pub number-existence : (records : List Record) (numbers : List SetNumber) (names : NameTable) (key : Key) (none : Bool) → HasNames names records → is_existence key ≡ true → nat_eq (count_at names key.name) 0 ≡ none → number_by records numbers key ≡ existence_number (not none)
number-existence records numbers names key none has of count = rw of (ap existence_number (counted records names key none has count))

-- and its set
pub set-existence : (records : List Record) (names : NameTable) (key : Key) (none : Bool) → HasNames names records → is_existence key ≡ true → nat_eq (count_at names key.name) 0 ≡ none → set_of records key ≡ existence_of (not none)
set-existence records names key none has of count = set_of-existence records key of ∙ ap existence_of (counted records names key none has count)

pub byte-number : (b : Bool) → bool_byte b ≡ existence_number b
byte-number true = refl
byte-number false = refl

pub zero-count : (n : ℕ) → n ≡ 0 → nat_eq n 0 ≡ true
zero-count n none = grind (arith, nat_tests)

pub some-count : (n : ℕ) → n ≢ 0 → nat_eq n 0 ≡ false
some-count n some = elim (cases_Bool (nat_eq n 0)) [
  | inr other ↦ other
  | inl none ↦ absurd (some (is-zero n none))
] where
  is-zero : (n : ℕ) → nat_eq n 0 ≡ true → n ≡ 0
  is-zero n none = grind (arith, nat_tests)
