-- Hostnames (RFC 1123, 2.1; RFC 3261, 25.1): the name that a text gives, if it is one.
use Rattle.std.specs.Prelude.{ℕ, Bool, false, ◌||◌, [], ◌∷◌, Option, None, Some, Ok, Err, codes, if◌then◌else◌, ◌==◌}
use Rattle.std.specs.Char.{is_ascii_alphabetic, is_ascii_alphanumeric}
use Rattle.std.specs.List.{list_all, list_any}
use Rattle.sipl_names.specs.Labels.{Octets, Labels, top_label_of}
use Rattle.sipl_names.specs.NameText.{name_of}

-- whether the octet is one of these
abbrev pub is_one_of : Octets → ℕ → Bool
is_one_of octets c = list_any (λ octet. c == octet) octets

-- an octet of a label is a letter, a digit or a hyphen; an underscore is allowed too
abbrev pub is_label_octet : ℕ → Bool
is_label_octet c = is_ascii_alphanumeric c || is_one_of (codes "-_") c

-- dots separate the labels of a hostname
abbrev pub is_hostname_octet : ℕ → Bool
is_hostname_octet c = is_label_octet c || is_one_of (codes ".") c

-- RFC 5234, B.1: whether the first octet is an ALPHA
abbrev pub begins_with_letter : Octets → Bool
begins_with_letter [] = false
begins_with_letter (c ∷ text) = is_ascii_alphabetic c

-- whether the label next to the root begins with a letter, as a hostname's does
abbrev pub has_alphabetic_top : Labels → Bool
has_alphabetic_top labels =
    elim (top_label_of labels) [ Some label ↦ begins_with_letter label | None ↦ false ]

-- the name of a hostname, which is absolute
abbrev pub hostname_of : Octets → Option Labels
hostname_of text =
    if list_all is_hostname_octet text
    then elim (name_of text []) [
      | Ok labels ↦ if has_alphabetic_top labels then Some labels else None
      | Err fault ↦ None
    ] else None
