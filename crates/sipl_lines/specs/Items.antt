-- What a session is given, one item after another: the lines of its input, and then the end of it.
use Rattle.std.specs.Prelude.{List, [], ◌∷◌, ◌++◌}
use Rattle.sipl_names.specs.Labels.{Octets}
use Rattle.sipl_lines.specs.Lines.{lines_of, complete_lines}

-- a line, without its line end, or the end of the input
pub data Item : Type 0 where
  line : Octets → Item
  end_of_input : Item

-- each line as an item
abbrev pub line_items : List Octets → List Item
line_items [] = []
line_items (octets ∷ lines) = line octets ∷ line_items lines

-- the items of an input
abbrev pub items_of : Octets → List Item
items_of input = line_items (lines_of input) ++ end_of_input ∷ []

-- the items of an input, whatever follows it
abbrev pub complete_items : Octets → List Item
complete_items input = line_items (complete_lines input)
