-- The text of a line of the log: its level, and then keys and values (logfmt).
use Rattle.std.specs.Prelude.{◌≡◌, ◌==◌, ◌||◌, ◌++◌, ◌+◌, ◌/◌, ◌%◌, ℕ, Bool, List, [], ◌∷◌, Option, Some, None, IfSome, IsSomeAnd, codes, decimal, encode_utf8, flat_map, length, nat_le, nat_lt, string_bytes, if◌then◌else◌}
use Rattle.std.specs.List.{list_any}
use Rattle.std.specs.Str.{chars}
use Rattle.sipl_log.specs.declared.level.Level.{Level}
use Rattle.sipl_log.specs.declared.line.Line.{Line}
use Rattle.sipl_log.specs.Levels.{level_name}

-- how much a line matters
abbrev pub level_of : Line → Level
level_of line = line.level

-- its text, unless an allocation failed
abbrev pub line_text : Line → Option (List ℕ)
line_text line = if line.is_cut then None else Some (string_bytes line.text)

-- a space or a control character, a quote, an equals sign, or a backslash
abbrev pub is_special : ℕ → Bool
is_special c = nat_le c 32 || (c == 34 || (c == 61 || (c == 92 || c == 127)))

-- whether a value is quoted
abbrev pub needs_quotes : List ℕ → Bool
needs_quotes value = (length value == 0) || list_any is_special (chars value)

-- a character within quotes: one of control is `?`, but for the end of a line and a tab
abbrev pub glyph : ℕ → List ℕ
glyph c =
    if c == 34 then codes "\\\""
    else (if c == 92 then codes "\\\\"
    else (if c == 10 then codes "\\n"
    else (if c == 9 then codes "\\t"
    else (if nat_lt c 32 || c == 127 then codes "?" else encode_utf8 c))))

-- the text of a value
abbrev pub value_text : List ℕ → List ℕ
value_text value =
    if needs_quotes value then 34 ∷ flat_map glyph (chars value) ++ 34 ∷ [] else value

-- a space, a key, an equals sign, and what is after it
abbrev pub pair_text : List ℕ → List ℕ → List ℕ
pair_text key text = 32 ∷ key ++ 61 ∷ text

-- the beginning of a line of an event
abbrev pub event_text : Level → List ℕ → List ℕ
event_text level event = level_name level ++ pair_text (codes "event") (value_text event)

-- three digits of a number below 1,000
abbrev pub three_digits : ℕ → List ℕ
three_digits n = (48 + n / 100) ∷ (48 + n / 10 % 10) ∷ (48 + n % 10) ∷ []

-- so many microseconds as milliseconds
abbrev pub millis_text : ℕ → List ℕ
millis_text micros = decimal (micros / 1000) ++ 46 ∷ three_digits (micros % 1000)

-- a text, if it is whole, is another one with this after it
abbrev pub IsLonger : Option (List ℕ) → List ℕ → Option (List ℕ) → Type 0
IsLonger before added after = IfSome after (λ text. IsSomeAnd before (λ front. text ≡ front ++ added))
