-- IPv6 addresses in text (RFC 4291, 2.2).
use Rattle.std.specs.Prelude.{ℕ, ◌+◌, ◌-◌, ◌/◌, ◌%◌, ◌^◌, Bool, true, false, ◌&&◌, List, [], ◌∷◌, ◌++◌, length, drop, replicate, Option, None, Some, option_map, option_and_then, nat_le, nat_eq, if◌then◌else◌, ◌==◌, codes}
use Rattle.std.specs.Char.{is_digit}
use Rattle.std.specs.Int.Digits.{number_from_digits}
use Rattle.std.specs.List.{list_all, starts_with}
use Rattle.std.specs.Net.Text.{groups_text}
use Rattle.std.specs.Option.{option_or}
use Rattle.std.specs.Str.Parse.{digits_value}
use Rattle.sipl_records.specs.Ipv4.{number_of_text}
use Rattle.sipl_records.specs.Parts.{parts}

-- one to four hexadecimal digits, in either case
abbrev pub hex_group_of : List ℕ → Option ℕ
hex_group_of digits =
    if nat_le 1 (length digits) && nat_le (length digits) 4
    && list_all (λ c. is_digit c 16) digits
    then Some (digits_value 16 digits) else None

-- an IPv4 text, as two groups
abbrev pub ipv4_groups_of : List ℕ → Option (List ℕ)
ipv4_groups_of text =
    option_map (λ n. (n / 65536) ∷ (n % 65536) ∷ []) (number_of_text text)

-- the last part of a list of groups: a hexadecimal group or, where it is allowed, an IPv4 text
abbrev pub last_groups_of : Bool → List ℕ → Option (List ℕ)
last_groups_of ipv4 part =
    option_or (option_map (λ group. group ∷ []) (hex_group_of part))
    (if ipv4 then ipv4_groups_of part else None)

-- this group before others
abbrev pub with_group : Option ℕ → Option (List ℕ) → Option (List ℕ)
with_group None groups = None
with_group (Some group) groups = option_map (λ gs. group ∷ gs) groups

-- the groups of the parts between colons
abbrev pub groups_of : Bool → List (List ℕ) → Option (List ℕ)
groups_of ipv4 [] = Some []
groups_of ipv4 (part ∷ []) = last_groups_of ipv4 part
groups_of ipv4 (part ∷ next ∷ others) =
    with_group (hex_group_of part) (groups_of ipv4 (next ∷ others))

-- the groups of a text, separated by colons: none where it is empty
abbrev pub groups_of_text : Bool → List ℕ → Option (List ℕ)
groups_of_text ipv4 [] = Some []
groups_of_text ipv4 (c ∷ text) = groups_of ipv4 (parts 58 (c ∷ text))

-- the text before the first `::`, and the text after it, if there is one
abbrev pub split_at_zeros : List ℕ → List ℕ × Option (List ℕ)
split_at_zeros [] = ([], None)
split_at_zeros (c ∷ text) =
    if starts_with nat_eq (c ∷ text) (codes "::") then ([], Some (drop 1 text))
    else (c ∷ (split_at_zeros text).0, (split_at_zeros text).1)

-- eight groups, and no others
abbrev pub eight_groups : List ℕ → Option (List ℕ)
eight_groups groups = if length groups == 8 then Some groups else None

-- `::` stands for the groups of zero that are missing, of which there is at least one
abbrev pub with_zeros : List ℕ → List ℕ → Option (List ℕ)
with_zeros left right =
    if nat_le (length left + length right) 7
    then Some (left ++ replicate (8 - (length left + length right)) 0 ++ right) else None

-- the eight groups of a text without `::`, or of the texts before and after it
abbrev pub groups_around : List ℕ → Option (List ℕ) → Option (List ℕ)
groups_around text None = option_and_then eight_groups (groups_of_text true text)
groups_around text (Some after) =
    option_and_then
    (λ left. option_and_then (with_zeros left) (groups_of_text true after))
    (groups_of_text false text)

-- the eight groups that a text gives
abbrev pub groups6_of_text : List ℕ → Option (List ℕ)
groups6_of_text text = groups_around (split_at_zeros text).0 (split_at_zeros text).1

-- the number of groups of 16 bits, the first one the highest
abbrev pub number_of_groups : List ℕ → ℕ
number_of_groups groups = number_from_digits 65536 groups

-- the number that a text gives
abbrev pub address6_of_text : List ℕ → Option ℕ
address6_of_text text = option_map number_of_groups (groups6_of_text text)

-- the eight groups of 16 bits of a number, the highest first
abbrev pub groups_of_number : ℕ → List ℕ
groups_of_number n =
    (n / 2 ^ 112) ∷ (n / 2 ^ 96 % 2 ^ 16) ∷ (n / 2 ^ 80 % 2 ^ 16) ∷ (n / 2 ^ 64 % 2 ^ 16)
    ∷ (n / 2 ^ 48 % 2 ^ 16) ∷ (n / 2 ^ 32 % 2 ^ 16) ∷ (n / 2 ^ 16 % 2 ^ 16) ∷ (n % 2 ^ 16) ∷ []

-- how an IPv6 address is printed: eight lower-case groups without leading zeros, with colons
-- between them
abbrev pub text_of_address6 : ℕ → List ℕ
text_of_address6 n = groups_text (groups_of_number n)
