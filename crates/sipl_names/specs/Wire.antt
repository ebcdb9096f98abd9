-- The labels that a wire form spells (RFC 1035, 3.1).
use Rattle.std.specs.Prelude.{◌≡◌, ℕ, suc, zero, List, [], ◌∷◌, length, take, drop}
use Rattle.sipl_names.specs.Labels.{Octets, Labels, wire_of, IsName}

-- the first labels of a wire form, at most this many: the octet before each is its length
abbrev pub first_labels : ℕ → Octets → Labels
first_labels zero wire = []
first_labels (suc left) [] = []
first_labels (suc left) (len ∷ rest) = take len rest ∷ first_labels left (drop len rest)

-- all the labels of a wire form
abbrev pub labels_of_wire : Octets → Labels
labels_of_wire wire = first_labels (length wire) wire

-- the octets are the wire form of labels
abbrev pub IsWire : Octets → Type 0
IsWire wire = wire ≡ wire_of (labels_of_wire wire)

-- the octets are the wire form of a name
pub record IsNameWire (wire : Octets) : Type 0 where
  pub exact : IsWire wire
  pub name : IsName (labels_of_wire wire)

-- what a name writes into a hasher: its wire form, and then the octet of the root
abbrev pub hash_writes : Labels → List Octets
hash_writes labels = wire_of labels ∷ (0 ∷ []) ∷ []
