-- Texts that are joined, and where one may be cut.
use Rattle.std.specs.Prelude.{◌≡◌, ℕ, ◌+◌, ◌-◌, Bool, true, false, List, [], ◌∷◌, ◌++◌, Option, None, Some, codes, count_by, if◌then◌else◌, ◌==◌}
use Rattle.std.specs.List.{last_or}
use Rattle.sipl_names.specs.Labels.{Octets}
use Rattle.sipl_masterfile.specs.Tokens.{Token, line_end, opening, closing, comment, open_quote, tokens}
use Rattle.sipl_masterfile.specs.Entries.{Entry}

-- a `;` after the text begins a comment: the text ends outside quotes and comments, and not with a
-- backslash that takes the next octet
abbrev pub AllowsComment : Octets → Type 0
AllowsComment text = tokens 0 (text ++ codes ";") ≡ tokens 0 text ++ comment ∷ []

-- whether the line ends before this text: it is empty or begins with LF
abbrev pub follows_line : Octets → Bool
follows_line [] = true
follows_line (c ∷ text) = c == 10

-- how many parentheses are open after the tokens, of so many before them; None after a fault
abbrev pub open_after : ℕ → List Token → Option ℕ
open_after depth [] = Some depth
open_after depth (opening ∷ rest) = open_after (depth + 1) rest
open_after depth (closing ∷ rest) = if depth == 0 then None else open_after (depth - 1) rest
open_after depth (open_quote ∷ rest) = None
open_after depth (other ∷ rest) = open_after depth rest

-- the text has no fault of quotes or parentheses, and ends with a line end outside parentheses
pub record IsComplete (text : Octets) : Type 0 where
  pub ended : last_or None (tokens 0 text) ≡ Some line_end
  pub closed : open_after 0 (tokens 0 text) ≡ Some 0

abbrev pub is_line_end : Token → Bool
is_line_end line_end = true
is_line_end _ = false

-- how many line ends a text has
abbrev pub line_ends : Octets → ℕ
line_ends text = count_by is_line_end (tokens 0 text)

-- the entry, so many lines further on
abbrev pub further : ℕ → Entry → Entry
further lines entry = record entry { line = lines + entry.line }
