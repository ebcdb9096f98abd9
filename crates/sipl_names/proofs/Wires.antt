-- A wire form and its labels determine one another.
use Rattle.std.proofs.Common.{◌≡◌, ℕ, suc, zero, ◌≤◌, List, [], ◌∷◌, ◌++◌, length, take, drop, refl, sym, ap, ◌∙◌, subst, arith, length-append, nat_eq, ◌+◌, ◌<◌, get_or}
use Rattle.std.proofs.lemmas.List.{take_at, drop_at, length-take, at_drop_more}
use Rattle.std.specs.Borrow.{Bor}
use Rattle.sipl_names.specs.LabelSlices.{octets_of}
use Rattle.std.proofs.lemmas.Bool.Decides.{same_from_decides}
use lib.Pointwise.{pointwise, bytes_decides}
use Rattle.sipl_names.specs.Labels.{Octets, Labels, wire_of, IsName, same_name}
use Rattle.sipl_names.proofs.SameName.{same_name_decides}
use Rattle.sipl_names.specs.Wire.{first_labels, labels_of_wire, IsWire, IsNameWire}

first_labels-wire_of : (left : ℕ) (labels : Labels) → length (wire_of labels) ≤ left → first_labels left (wire_of labels) ≡ labels
first_labels-wire_of zero [] fits = refl
first_labels-wire_of (suc left) [] fits = refl
first_labels-wire_of zero (label ∷ labels) fits = absurd (omega arith)
first_labels-wire_of (suc left) (label ∷ labels) fits =
    let rest : length (wire_of labels) ≤ left = omega (arith, length-append label (wire_of labels)) in
    rw (take_at label (wire_of labels) (length label) refl, drop_at label (wire_of labels) (length label) refl, first_labels-wire_of left labels rest)

-- the labels of their own wire form
pub labels_of_wire-wire_of : (labels : Labels) → labels_of_wire (wire_of labels) ≡ labels
labels_of_wire-wire_of labels = first_labels-wire_of (length (wire_of labels)) labels (omega arith)

-- what a wire form spells, where it is known to be that of labels
pub labels_at : (wire : Octets) (labels : Labels) → wire ≡ wire_of labels → labels_of_wire wire ≡ labels
labels_at wire labels is = ap labels_of_wire is ∙ labels_of_wire-wire_of labels

pub wire_at : (wire : Octets) (labels : Labels) → wire ≡ wire_of labels → IsWire wire
wire_at wire labels is = is ∙ ap wire_of (sym (labels_at wire labels is))

pub name_at : (wire : Octets) (labels : Labels) → wire ≡ wire_of labels → IsName labels → IsNameWire wire
name_at wire labels is name = record { exact = wire_at wire labels is; name = rw (labels_at wire labels is) name }

-- names with the same wire form are the same
pub same_from_wires : (a b : Labels) → wire_of a ≡ wire_of b → a ≡ b
same_from_wires a b e = sym (labels_of_wire-wire_of a) ∙ ap labels_of_wire e ∙ labels_of_wire-wire_of b

-- two names are the same where their wire forms are
pub same_name-wires : (a b : Labels) → pointwise nat_eq (wire_of a) (wire_of b) ≡ same_name a b
same_name-wires a b =
    let wires = bytes_decides (wire_of a) (wire_of b) in
    same_from_decides _ _ (λ e. same_from_wires a b (wires.0 e), λ e. wires.1 (ap wire_of e)) (same_name_decides a b)

pub compared_wires : (u w : Octets) → IsWire u → IsWire w → pointwise nat_eq u w ≡ same_name (labels_of_wire u) (labels_of_wire w)
compared_wires u w e f = (λ i. pointwise nat_eq (e i) (f i)) ∙ same_name-wires (labels_of_wire u) (labels_of_wire w)

-- the first label of a wire form, and the others
pub split_wire : (count : ℕ) (rest : Octets) → IsWire (count ∷ rest) → (count ≤ length rest) × IsWire (drop count rest) × (labels_of_wire (count ∷ rest) ≡ take count rest ∷ labels_of_wire (drop count rest))
split_wire count rest exact =
    let label : Octets = take count rest in
    let tail : Labels = first_labels (length rest) (drop count rest) in
    let spelled : count ∷ rest ≡ length label ∷ (label ++ wire_of tail) = exact in
    let counts : count ≡ length label = cc in
    let splits : rest ≡ label ++ wire_of tail = cc in
    let is : drop count rest ≡ wire_of tail = ap (drop count) splits ∙ drop_at label (wire_of tail) count (sym counts) in
    (omega (arith, length-take count rest), wire_at (drop count rest) tail is, ap (λ ls. label ∷ ls) (sym (labels_at (drop count rest) tail is)))

pub split_parts : (wire : Octets) (count : ℕ) (rest label tail : Octets) → wire ≡ count ∷ rest → label ≡ take count rest → tail ≡ drop count rest → IsWire wire → IsWire tail × (labels_of_wire wire ≡ label ∷ labels_of_wire tail)
split_parts wire count rest label tail splits first others exact =
    let parts = split_wire count rest (subst IsWire splits exact) in
    (subst IsWire (sym others) parts.1, ap labels_of_wire splits ∙ parts.2 ∙ (λ i. sym first i ∷ labels_of_wire (sym others i)))

-- the wire form of the labels from a place on: that of the label there, and that of the others
pub length-wire_from : (slices : List (Bor Octets)) (i : ℕ) (d : Bor Octets) → i < length slices → length (wire_of (octets_of (drop i slices))) ≡ length (get_or slices i d).now + 1 + length (wire_of (octets_of (drop (i + 1) slices)))
length-wire_from slices i d inside =
    at_drop_more (λ ss. length (wire_of (octets_of ss))) slices i d inside ∙ omega (arith, length-append (get_or slices i d).now (wire_of (octets_of (drop (i + 1) slices))))
