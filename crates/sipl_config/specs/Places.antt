-- What is said of a fault in the text of settings, and where it is.
use Rattle.std.specs.Prelude.{◌≡◌, ◌==◌, ◌+◌, ◌-◌, ◌^◌, ◌⊎◌, ℕ, List, [], ◌++◌, Option, Some, None, IsSome, codes, count_by, decimal, min, take}
use Rattle.toml.specs.Parse.{parse_document}
use Rattle.sipl_config.specs.Rows.{allowed_words}
use Rattle.sipl_config.specs.declared.rows.Row.{Row}

-- the number of the line with the octet at a place, in 64 bits: lines end with LF
abbrev pub line_number : List ℕ → ℕ → ℕ
line_number text place = min (count_by (λ octet. octet == 10) (take place text) + 1) (2 ^ 64 - 1)

-- a colon and the number of a line, if it is known
abbrev pub line_words : Option ℕ → List ℕ
line_words (Some line) = codes ":" ++ decimal line
line_words None = []

-- what is said of a place: a path, the line, and the rest
abbrev pub at_line : List ℕ → Option ℕ → List ℕ → List ℕ
at_line path line rest = path ++ (line_words line ++ (codes ": " ++ rest))

-- what is said of a text that is not a document, with the line of its fault; of a document no more than the
-- code
abbrev pub IsTextFault : List ℕ → List ℕ → List ℕ → Type 0
IsTextFault path text told =
    ((place : ℕ) × (cause : List ℕ)
    × (told ≡ at_line path (Some (line_number text place)) (codes "G1: " ++ cause)))
    ⊎ (IsSome (parse_document text) × (told ≡ at_line path None (codes "G1")))

-- what is said of a key that is refused: its line, if that is found, its code, and what is allowed
abbrev pub IsKeyFault : List ℕ → List ℕ → List ℕ → List ℕ → List ℕ → Type 0
IsKeyFault path key code allowed told = (line : Option ℕ)
    × (told ≡ at_line path line (key ++ (codes ": " ++ (code ++ (codes ": " ++ allowed)))))

-- what is allowed in place of a key that is none of these, which are in words
abbrev pub no_such_key : List ℕ → List ℕ
no_such_key keys = codes "no such key; there are " ++ keys

-- what the value of a setting may be, if there is one
abbrev pub allowed_of : Option Row → List ℕ
allowed_of (Some row) = allowed_words row.values
allowed_of None = []
