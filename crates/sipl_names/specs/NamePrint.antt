-- How a name is printed (RFC 1035, 5.1).
use Rattle.std.specs.Prelude.{ℕ, ◌+◌, ◌/◌, ◌%◌, Bool, ◌&&◌, [], ◌∷◌, ◌++◌, nat_le, if◌then◌else◌, ◌==◌, codes}
use Rattle.std.specs.List.{flat_map, list_any}
use Rattle.sipl_names.specs.Labels.{Octets, Labels}

-- the octets that have a meaning of their own in a master file
abbrev pub is_special : ℕ → Bool
is_special c = list_any (λ special. c == special) (codes ".\\\";()@$")

-- an octet of a label: as it is where it can be seen (33 to 126), after a backslash where it has a meaning of
-- its own, else as a backslash and three digits; 48 is the octet of `0`
abbrev pub printed_octet : ℕ → Octets
printed_octet c =
    if nat_le 33 c && nat_le c 126
    then (if is_special c then codes "\\" ++ c ∷ [] else c ∷ [])
    else codes "\\" ++ (48 + c / 100) ∷ (48 + c / 10 % 10) ∷ (48 + c % 10) ∷ []

-- a label, and a dot after it
abbrev pub printed_label : Octets → Octets
printed_label label = flat_map printed_octet label ++ codes "."

-- each label with its dot; the root is a dot
abbrev pub text_of : Labels → Octets
text_of [] = codes "."
text_of (label ∷ labels) = flat_map printed_label (label ∷ labels)
