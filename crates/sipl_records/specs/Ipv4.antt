-- IPv4 addresses in text (RFC 1123, 2.1).
use Rattle.std.specs.Prelude.{ℕ, ◌+◌, ◌*◌, ◌/◌, ◌%◌, ◌&&◌, List, [], ◌∷◌, ◌++◌, length, map, Option, None, Some, nat_le, if◌then◌else◌, decimal}
use Rattle.std.specs.Str.{all_ascii_digits}
use Rattle.std.specs.Str.Parse.{digits_value}
use Rattle.sipl_records.specs.Parts.{parts}

-- the value of a group: one to three digits, at most 255
abbrev pub group_of : List ℕ → Option ℕ
group_of digits =
    if nat_le 1 (length digits) && nat_le (length digits) 3 && all_ascii_digits digits && nat_le (digits_value 10 digits) 255
    then Some (digits_value 10 digits) else None

-- the number of four octets, the first one the highest
abbrev pub number_of_four : ℕ → ℕ → ℕ → ℕ → ℕ
number_of_four a b c d = a * 16777216 + b * 65536 + c * 256 + d

-- the number of four groups, and of no other count
abbrev pub four_groups : List (Option ℕ) → Option ℕ
four_groups (Some a ∷ Some b ∷ Some c ∷ Some d ∷ []) = Some (number_of_four a b c d)
four_groups _ = None

-- the first part is not a group, or it is the last part, so no dot follows it
abbrev pub HasNoGroupBeforeDot : List (Option ℕ) → Type 0
HasNoGroupBeforeDot (Some a ∷ b ∷ groups) = ⊥
HasNoGroupBeforeDot _ = Unit {0}

-- the number of a text: four groups separated by dots
abbrev pub number_of_text : List ℕ → Option ℕ
number_of_text text = four_groups (map group_of (parts 46 text))

-- the text of an IPv4 address: four groups separated by dots, without leading zeros
abbrev pub text_of_number : ℕ → List ℕ
text_of_number n =
    decimal (n / 16777216) ++ 46 ∷ decimal (n / 65536 % 256) ++ 46 ∷ decimal (n / 256 % 256) ++ 46 ∷ decimal (n % 256)
