-- The wildcard domain name beside a name, made of its wire form.
use Rattle.std.proofs.Common.{◌≡◌, ◌∷◌, sym, ap, ◌∙◌, subst}
use Rattle.sipl_names.specs.Labels.{Octets, wire_of, IsName, wildcard_at, wildcard_beside}
use Rattle.sipl_names.specs.Wire.{labels_of_wire, IsWire, IsNameWire}
use Rattle.sipl_names.proofs.Wires.{labels_at, name_at}
use Rattle.sipl_names.proofs.Counts.{wildcard_at-IsName}

-- the wire form of the wildcard domain name: that of an asterisk, and then the octets after the first label
pub wildcard_wire : (wire octets label tail made : Octets) → octets ≡ wire → IsNameWire wire → labels_of_wire octets ≡ label ∷ labels_of_wire tail → IsWire tail → made ≡ 1 ∷ 42 ∷ tail → IsNameWire made × (labels_of_wire made ≡ wildcard_beside (labels_of_wire wire))
wildcard_wire wire octets label tail made same is seen exact written =
    let labels : labels_of_wire wire ≡ label ∷ labels_of_wire tail = ap labels_of_wire (sym same) ∙ seen in
    let name : IsName (label ∷ labels_of_wire tail) = subst IsName labels is.name in
    let spelled : made ≡ wire_of (wildcard_at (labels_of_wire tail)) = written ∙ ap (λ rest. 1 ∷ 42 ∷ rest) exact in
    (name_at _ (wildcard_at (labels_of_wire tail)) spelled (wildcard_at-IsName label (labels_of_wire tail) name), labels_at _ _ spelled ∙ ap wildcard_beside (sym labels))
