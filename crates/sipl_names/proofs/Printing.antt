-- The printed text of labels, and the space that it takes.
use Rattle.std.proofs.Common.{◌≡◌, ◌+◌, ◌≤◌, [], ◌∷◌, ◌++◌, length, ap, ◌∙◌, arith, length-append}
use Rattle.std.specs.List.{flat_map}
use Rattle.sipl_names.specs.Labels.{Octets, Labels}
use Rattle.sipl_names.specs.NamePrint.{printed_label, text_of}

-- the labels take no more than the text of the name
pub length-printed-le : (labels : Labels) → length (flat_map printed_label labels) ≤ length (text_of labels)
length-printed-le [] = omega arith
length-printed-le (label ∷ labels) = omega arith

-- the first label, and then the others
pub length-printed-cons : (labels tail : Labels) (label : Octets) → labels ≡ label ∷ tail → length (flat_map printed_label labels) ≡ length (printed_label label) + length (flat_map printed_label tail)
length-printed-cons labels tail label is =
    ap (λ ls. length (flat_map printed_label ls)) is ∙ length-append (printed_label label) (flat_map printed_label tail)

-- the space that is left has a place for the next label
pub space_for_label : (old out : Octets) (labels rest tail : Labels) (label : Octets) → out ++ flat_map printed_label rest ≡ old ++ flat_map printed_label labels → rest ≡ label ∷ tail → length out + length (printed_label label) ≤ length old + length (text_of labels)
space_for_label old out labels rest tail label printed is =
    omega (arith, ap length printed, length-append out (flat_map printed_label rest), length-append old (flat_map printed_label labels), length-printed-cons rest tail label is, length-printed-le labels)
