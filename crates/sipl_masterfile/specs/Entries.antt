-- The entries of a master file's text (RFC 1035, 5.1).
use Rattle.std.specs.Prelude.{ℕ, ◌+◌, ◌-◌, Bool, true, false, List, [], ◌∷◌, ◌++◌, Result, Ok, Err, if◌then◌else◌, ◌==◌}
use Rattle.sipl_names.specs.Labels.{Octets}
use Rattle.sipl_masterfile.specs.Tokens.{Token, blank, line_end, opening, closing, comment, field, open_quote, tokens}
use Rattle.sipl_masterfile.specs.declared.fault.ZoneCause.{ZoneCause}
use Rattle.sipl_masterfile.specs.declared.fault.ZoneCause.TheVariants.{Parenthesis, OpenQuote}

-- an entry: the number of its first line, whether that line begins with a blank, and its fields,
-- whose escapes are not read, or why they are not well formed
pub record Entry : Type 0 where
  pub line : ℕ
  pub is_indented : Bool
  pub content : Result (List Octets) ZoneCause

-- an entry that has begun, with its fields up to here
pub record Begun : Type 0 where
  pub line : ℕ
  pub is_indented : Bool
  pub fields : List Octets

-- whether the first token is a blank
abbrev pub begins_blank : List Token → Bool
begins_blank (blank ∷ rest) = true
begins_blank _ = false

-- the entry that begins with these tokens, in this line
abbrev pub begin : ℕ → List Token → Begun
begin line rest = record { line = line; is_indented = begins_blank rest; fields = [] }

-- the entry with one more field
abbrev pub with_field : Begun → Octets → Begun
with_field begun octets = record begun { fields = begun.fields ++ octets ∷ [] }

-- the entry that ends here, prepended to those that follow; without fields it is left out
abbrev pub prepend_entry : Begun → List Entry → List Entry
prepend_entry begun others = elim begun.fields [
  | [] ↦ others
  | octets ∷ fields ↦ record {
    line = begun.line;
    is_indented = begun.is_indented;
    content = Ok (octets ∷ fields);
  } ∷ others
]

-- the entry that is faulty here, after which nothing is read
abbrev pub faulty_entry : Begun → ZoneCause → List Entry
faulty_entry begun cause =
    record { line = begun.line; is_indented = begun.is_indented; content = Err cause } ∷ []

-- the entries that the tokens spell, the first of which has begun; this many parentheses are open
-- in it, which join lines, and the tokens are in this line
abbrev pub entries_from : Begun → ℕ → ℕ → List Token → List Entry
entries_from begun depth line [] =
    if depth == 0 then prepend_entry begun [] else faulty_entry begun Parenthesis
entries_from begun depth line (blank ∷ rest) = entries_from begun depth line rest
entries_from begun depth line (line_end ∷ rest) =
    if depth == 0 then prepend_entry begun (entries_from (begin (line + 1) rest) 0 (line + 1) rest)
    else entries_from begun depth (line + 1) rest
entries_from begun depth line (opening ∷ rest) = entries_from begun (depth + 1) line rest
entries_from begun depth line (closing ∷ rest) =
    if depth == 0 then faulty_entry begun Parenthesis else entries_from begun (depth - 1) line rest
entries_from begun depth line (comment ∷ rest) = entries_from begun depth line rest
entries_from begun depth line (field octets ∷ rest) = entries_from (with_field begun octets) depth line rest
entries_from begun depth line (open_quote ∷ rest) = faulty_entry begun OpenQuote

-- the entries of a text whose first line has this number
abbrev pub entries_at : ℕ → Octets → List Entry
entries_at line text = entries_from (begin line (tokens 0 text)) 0 line (tokens 0 text)

-- the entries of a text
abbrev pub entries_of : Octets → List Entry
entries_of text = entries_at 1 text
