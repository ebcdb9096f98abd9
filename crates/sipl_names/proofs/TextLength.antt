-- The length of a name's text.
use Rattle.std.proofs.Common.{ℕ, ◌*◌, ◌+◌, ◌≤◌, Bool, true, false, [], ◌∷◌, length, arith, length-append, nat_le, ◌&&◌, if◌then◌else◌, ◌/◌, ◌%◌}
use Rattle.std.specs.List.{AllByRecursion, flat_map}
use Rattle.sipl_names.specs.Labels.{Octets, Labels, wire_of, IsLabel, IsName}
use Rattle.sipl_names.specs.NamePrint.{is_special, printed_octet, printed_label, text_of}

chosen_short : (printable special : Bool) (c : ℕ) → length (if printable then (if special then 92 ∷ c ∷ [] else c ∷ []) else 92 ∷ (48 + c / 100) ∷ (48 + c / 10 % 10) ∷ (48 + c % 10) ∷ []) ≤ 4
chosen_short true true c = omega arith
chosen_short true false c = omega arith
chosen_short false special c = omega arith

length-printed_octet : (c : ℕ) → length (printed_octet c) ≤ 4
length-printed_octet c = chosen_short (nat_le 33 c && nat_le c 126) (is_special c) c

length-printed_octets : (label : Octets) → length (flat_map printed_octet label) ≤ 4 * length label
length-printed_octets [] = omega arith
length-printed_octets (c ∷ label) =
    omega (arith, length-append (printed_octet c) (flat_map printed_octet label), length-printed_octet c, length-printed_octets label)

-- a label of n octets is printed in at most 4n + 1 octets
pub length-printed_label : (label : Octets) → length (printed_label label) ≤ 4 * length label + 1
length-printed_label label =
    omega (arith, length-append (flat_map printed_octet label) (46 ∷ []), length-printed_octets label)

-- 64 octets of text need at least 253 / 64 as many on the wire
length-printed_labels : (labels : Labels) → AllByRecursion IsLabel labels → 64 * length (flat_map printed_label labels) ≤ 253 * length (wire_of labels)
length-printed_labels [] all = omega arith
length-printed_labels (label ∷ labels) all =
    let short = all.0.short in
    omega (arith, length-append (printed_label label) (flat_map printed_label labels), length-append label (wire_of labels), length-printed_label label, length-printed_labels labels all.1)

-- the text of a name has at most 1004 octets
pub length-text_of : (labels : Labels) → IsName labels → length (text_of labels) ≤ 1004
length-text_of [] is = omega arith
length-text_of (label ∷ labels) is =
    let short = is.short in
    omega (arith, length-printed_labels (label ∷ labels) is.each)
