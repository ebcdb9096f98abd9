-- How many labels a name has, and the names beside and above it.
use Rattle.std.proofs.Common.{◌*◌, ◌≤◌, [], ◌∷◌, length, refl, arith, length-append}
use Rattle.std.specs.List.{AllByRecursion}
use Rattle.sipl_names.specs.Labels.{Octets, Labels, wire_of, IsLabel, IsName, wildcard_at}

-- a label takes at least two octets of the wire form
length-wire_of : (labels : Labels) → AllByRecursion IsLabel labels → 2 * length labels ≤ length (wire_of labels)
length-wire_of [] all = omega arith
length-wire_of (label ∷ labels) all =
    let nonempty = all.0.nonempty in
    omega (arith, length-append label (wire_of labels), length-wire_of labels all.1)

-- a name has at most 127 labels
pub labels-at_most_127 : (name : Labels) → IsName name → length name ≤ 127
labels-at_most_127 name is =
    let short = is.short in
    omega (arith, length-wire_of name is.each)

-- the name above a name is one
pub parent-IsName : (label : Octets) (name : Labels) → IsName (label ∷ name) → IsName name
parent-IsName label name is =
    let short = is.short in
    record { each = is.each.1; short = omega (arith, length-append label (wire_of name)) }

asterisk : IsLabel (42 ∷ [])
asterisk = record { nonempty = omega arith; short = omega arith; octets = (omega arith, tt); lower = refl }

-- the wildcard domain name beside a name is one
pub wildcard_at-IsName : (label : Octets) (name : Labels) → IsName (label ∷ name) → IsName (wildcard_at name)
wildcard_at-IsName label name is =
    let short = is.short in
    let nonempty = is.each.0.nonempty in
    record { each = (asterisk, is.each.1); short = omega (arith, length-append label (wire_of name)) }
