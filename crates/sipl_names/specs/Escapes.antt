-- The escapes of master files (RFC 1035, 5.1), in names and in strings.
use Rattle.std.specs.Prelude.{ℕ, ◌+◌, ◌-◌, ◌*◌, ◌&&◌, [], ◌∷◌, Option, None, Some, nat_le, if◌then◌else◌}
use Rattle.std.specs.Char.{is_ascii_digit}
use Rattle.sipl_names.specs.Labels.{Octets}

-- the octets of `\` and of `.`
abbrev pub backslash : ℕ
backslash = 92

abbrev pub full_stop : ℕ
full_stop = 46

-- the number of three digits; 48 is the octet of `0`
abbrev pub decimal_of_three : ℕ → ℕ → ℕ → ℕ
decimal_of_three a b c = (a - 48) * 100 + (b - 48) * 10 + (c - 48)

-- the octet that three digits denote, up to 255
abbrev pub decimal_escape : Octets → Option (ℕ × ℕ)
decimal_escape (a ∷ b ∷ c ∷ rest) =
    if is_ascii_digit a && is_ascii_digit b && is_ascii_digit c && nat_le (decimal_of_three a b c) 255
    then Some (decimal_of_three a b c, 3) else None
decimal_escape _ = None

-- what follows a backslash: the octet that the escape denotes, and how many octets of the text it takes
abbrev pub escape_of : Octets → Option (ℕ × ℕ)
escape_of [] = None
escape_of (c ∷ rest) = if is_ascii_digit c then decimal_escape (c ∷ rest) else Some (c, 1)
