-- Names as lists of labels, the one next to the root last (RFC 1034, 3.1), and their wire form.
use Rattle.std.specs.Prelude.{◌≡◌, ℕ, ◌+◌, ◌<◌, ◌≤◌, Bool, false, ◌||◌, List, [], ◌∷◌, ◌++◌, length, map, Option, None, Some, Result, Ok, Err, nat_eq, nat_lt, if◌then◌else◌, ◌==◌, codes}
use Rattle.std.specs.List.{AllByRecursion, flat_map}
use Rattle.std.specs.Str.{str_to_ascii_lowercase}
use lib.Pointwise.{pointwise}
use Rattle.sipl_names.specs.declared.fault.InvalidName.{InvalidName}
use Rattle.sipl_names.specs.declared.fault.InvalidName.TheVariants.{EmptyLabel, LabelTooLong, NameTooLong}

-- octets of a label, a text or a wire form
abbrev pub Octets : Type 0
Octets = List ℕ

-- a name: its labels, the one next to the root last
abbrev pub Labels : Type 0
Labels = List Octets

-- RFC 1035, 3.1: a label on the wire is its length and then its octets
abbrev pub length_prefixed : Octets → Octets
length_prefixed label = length label ∷ label

-- the labels on the wire, without the octet of the root that ends them
abbrev pub wire_of : Labels → Octets
wire_of labels = flat_map length_prefixed labels

-- how many octets the wire form has, with that of the root
abbrev pub wire_length : Labels → ℕ
wire_length labels = length (wire_of labels) + 1

-- RFC 1035, 2.3.4: a label has 1 to 63 octets, which are kept in lower case (RFC 4343, 3)
pub record IsLabel (label : Octets) : Type 0 where
  pub nonempty : 0 < length label
  pub short : length label ≤ 63
  pub octets : AllByRecursion (λ octet. octet < 256) label
  pub lower : str_to_ascii_lowercase label ≡ label

-- RFC 1035, 2.3.4: each label is one, and the wire form has at most 255 octets
pub record IsName (labels : Labels) : Type 0 where
  pub each : AllByRecursion IsLabel labels
  pub short : wire_length labels ≤ 255

-- whether two names have the same labels
abbrev pub same_name : Labels → Labels → Bool
same_name = pointwise (pointwise nat_eq)

-- RFC 1034, 3.1: whether the name is the apex or below it: its last labels are those of the apex
abbrev pub is_within : Labels → Labels → Bool
is_within [] apex = same_name [] apex
is_within (label ∷ labels) apex = same_name (label ∷ labels) apex || is_within labels apex

-- the name without its first label; the root has none
abbrev pub parent_of : Labels → Option Labels
parent_of [] = None
parent_of (label ∷ labels) = Some labels

-- RFC 4592, 2.1.1: the wildcard domain name next below a name
abbrev pub wildcard_at : Labels → Labels
wildcard_at name = codes "*" ∷ name

-- RFC 4592, 2.1.1: whether the name is a wildcard domain name: its first label is an asterisk
abbrev pub is_wildcard : Labels → Bool
is_wildcard [] = false
is_wildcard (label ∷ labels) = pointwise nat_eq label (codes "*")

-- the wildcard domain name next below the parent of a name; the root is its own
abbrev pub wildcard_beside : Labels → Labels
wildcard_beside name = elim (parent_of name) [ Some parent ↦ wildcard_at parent | None ↦ [] ]

-- the fault of octets that are not a label: none, or more than 63
abbrev pub label_fault : Octets → Option InvalidName
label_fault label =
    if length label == 0 then Some EmptyLabel
    else (if nat_lt 63 (length label) then Some LabelTooLong else None)

-- the fault of the first of the lists that is not a label
abbrev pub first_label_fault : Labels → Option InvalidName
first_label_fault [] = None
first_label_fault (label ∷ labels) = elim (label_fault label) [ Some fault ↦ Some fault | None ↦ first_label_fault labels ]

-- these labels, where their wire form has at most 255 octets
abbrev pub name_within_limit : Labels → Result Labels InvalidName
name_within_limit labels = if nat_lt 255 (wire_length labels) then Err NameTooLong else Ok labels

-- the name with these labels prepended, in lower case; faults of labels come before that of the length
abbrev pub prefixed_of : Labels → Labels → Result Labels InvalidName
prefixed_of labels name =
    elim (first_label_fault labels) [
      | Some fault ↦ Err fault
      | None ↦ name_within_limit (map str_to_ascii_lowercase labels ++ name)
    ]

-- the label next to the root; the root has none
abbrev pub top_label_of : Labels → Option Octets
top_label_of [] = None
top_label_of (label ∷ []) = Some label
top_label_of (label ∷ next ∷ labels) = top_label_of (next ∷ labels)
