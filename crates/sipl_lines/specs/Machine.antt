-- The machine that the code follows: what is pending of a line, and the items of each octet.
use Rattle.std.specs.Prelude.{◌≡◌, List, [], ◌∷◌, ◌++◌, if◌then◌else◌, ◌==◌, take}
use Rattle.sipl_names.specs.Labels.{Octets}
use Rattle.sipl_lines.specs.Lines.{without_cr}
use Rattle.sipl_lines.specs.Items.{Item, line, end_of_input}

-- the lines that the octets end, where so much of a line is pending
abbrev pub items_from : Octets → Octets → List Item
items_from pending [] = []
items_from pending (c ∷ octets) =
    if c == 10 then line (without_cr pending) ∷ items_from [] octets
    else items_from (pending ++ c ∷ []) octets

-- what is pending after the octets
abbrev pub pending_after : Octets → Octets → Octets
pending_after pending [] = pending
pending_after pending (c ∷ octets) =
    if c == 10 then pending_after [] octets else pending_after (pending ++ c ∷ []) octets

-- what is kept of a pending line: of 65,538 octets it is too long whatever follows
abbrev pub kept_prefix : Octets → Octets
kept_prefix pending = take 65538 pending

-- the items at the end of the input: what is pending is a line if it has octets
abbrev pub last_items : Octets → List Item
last_items [] = end_of_input ∷ []
last_items (c ∷ pending) = line (c ∷ pending) ∷ end_of_input ∷ []

-- the items of a read, where one without octets is the end of the input
abbrev pub read_items : Octets → Octets → List Item
read_items pending [] = last_items pending
read_items pending (c ∷ octets) = items_from pending (c ∷ octets)

-- no line ends in the octets
abbrev pub EndsNoLine : Octets → Type 0
EndsNoLine octets =
    (pending : Octets) → (items_from pending octets ≡ [])
    × (pending_after pending octets ≡ pending ++ octets)

-- the first line that ends in the octets ends after this piece, and this is the rest
abbrev pub EndsLine : Octets → Octets → Octets → Type 0
EndsLine octets piece rest = (octets ≡ piece ++ 10 ∷ rest) × EndsNoLine piece
