-- Groups of IPv6 addresses as they are counted from the left.
use Rattle.std.specs.Prelude.{◌≡◌, ℕ, ◌+◌, ◌*◌, ◌^◌, ◌<◌, ◌≤◌, List, length, Option, None, Some, nat_le, if◌then◌else◌}
use Rattle.std.specs.Int.Digits.{number_from_digits_after}

-- at most eight groups, and a number that they can have
pub record IsBounded (number len : ℕ) : Type 0 where
  pub below : number < 65536 ^ len
  pub few : len ≤ 8

-- one group more
pub record IsPushed (number len group number' len' : ℕ) : Type 0 where
  pub value : number' ≡ number * 65536 + group
  pub count : len' ≡ len + 1
  pub bounded : IsBounded number' len'

-- the number and the count of at most eight groups that follow others
abbrev pub counted_after : ℕ → ℕ → Option (List ℕ) → Option (ℕ × ℕ)
counted_after number len None = None
counted_after number len (Some groups) =
    if nat_le (len + length groups) 8
    then Some (number_from_digits_after 65536 number groups, len + length groups) else None
