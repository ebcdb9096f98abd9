-- A session's input, cut into lines.
use Rattle.std.specs.Prelude.{List, [], ◌∷◌, if◌then◌else◌, ◌==◌}
use Rattle.sipl_names.specs.Labels.{Octets}
use Rattle.sipl_records.specs.Parts.{parts}

-- a line that an LF ends, without the CR before the LF
abbrev pub without_cr : Octets → Octets
without_cr [] = []
without_cr (c ∷ []) = if c == 13 then [] else c ∷ []
without_cr (c ∷ next ∷ line) = c ∷ without_cr (next ∷ line)

-- the lines among the parts that LFs separate: the last part is one if it has octets
abbrev pub lines_among : List Octets → List Octets
lines_among [] = []
lines_among ([] ∷ []) = []
lines_among ((c ∷ part) ∷ []) = (c ∷ part) ∷ []
lines_among (part ∷ next ∷ parts) = without_cr part ∷ lines_among (next ∷ parts)

-- the lines of an input: those that LFs end, and the octets after the last LF, if there are any
abbrev pub lines_of : Octets → List Octets
lines_of input = lines_among (parts 10 input)

-- the complete lines among the parts that LFs separate: the last part is none
abbrev pub complete_among : List Octets → List Octets
complete_among [] = []
complete_among (part ∷ []) = []
complete_among (part ∷ next ∷ parts) = without_cr part ∷ complete_among (next ∷ parts)

-- the lines of an input that LFs end, which are its lines whatever comes after it
abbrev pub complete_lines : Octets → List Octets
complete_lines input = complete_among (parts 10 input)
