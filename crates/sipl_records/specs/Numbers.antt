-- Decimal numbers in text.
use Rattle.std.specs.Prelude.{ℕ, ◌&&◌, List, length, Option, None, Some, nat_le, if◌then◌else◌}
use Rattle.std.specs.Str.{all_ascii_digits}
use Rattle.std.specs.Str.Parse.{digits_value}

-- the number of one or more digits, leading zeros allowed, if it is at most this
abbrev pub number_of : List ℕ → ℕ → Option ℕ
number_of digits max =
    if nat_le 1 (length digits) && all_ascii_digits digits && nat_le (digits_value 10 digits) max
    then Some (digits_value 10 digits) else None
