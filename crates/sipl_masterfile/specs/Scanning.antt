-- A master file's text, token by token.
use Rattle.std.specs.Prelude.{◌≡◌, ℕ, ◌<◌, Bool, List, [], ◌∷◌, Err, length}
use Rattle.std.specs.Borrow.{Bor}
use Rattle.sipl_names.specs.Labels.{Octets}
use Rattle.sipl_names.specs.LabelSlices.{octets_of}
use Rattle.sipl_masterfile.specs.declared.fault.ZoneFault.{ZoneFault}
use Rattle.sipl_masterfile.specs.declared.tokens.Token.{Token as Scanned}
use Rattle.sipl_masterfile.specs.declared.tokens.Token.TheVariants.{Blank, LineEnd, Opening, Closing, Comment, Field, OpenQuote}
use Rattle.sipl_masterfile.specs.Tokens.{Token, blank, line_end, opening, closing, comment, field, open_quote, tokens}
use Rattle.sipl_masterfile.specs.Entries.{Entry, Begun, begin}

-- the token that is scanned
abbrev pub token_of : Scanned → Token
token_of Blank = blank
token_of LineEnd = line_end
token_of Opening = opening
token_of Closing = closing
token_of Comment = comment
token_of (Field octets) = field octets.now
token_of OpenQuote = open_quote

-- the text begins with the token, and the rest follows
pub record BeginsWith (text : Octets) (token : Scanned) (rest : Octets) : Type 0 where
  pub spells : tokens 0 text ≡ token_of token ∷ tokens 0 rest
  pub shorter : length rest < length text

-- the first entry of a text whose first line has this number, with these fields up to here
abbrev pub begun_at : ℕ → Octets → List (Bor Octets) → Begun
begun_at line text fields = record (begin line (tokens 0 text)) { fields = octets_of fields }

-- the next entry has this fault, and nothing follows it
pub record IsFaulty (entries : List Entry) (fault : ZoneFault) : Type 0 where
  pub is_indented : Bool
  pub only : entries
      ≡ record { line = fault.line; is_indented = is_indented; content = Err fault.cause } ∷ []
