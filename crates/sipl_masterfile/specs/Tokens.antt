-- The tokens of a master file's text (RFC 1035, 5.1).
use Rattle.std.specs.Prelude.{ℕ, zero, suc, ◌+◌, Bool, true, false, not, ◌&&◌, ◌||◌, List, [], ◌∷◌, Option, None, Some, length, take, if◌then◌else◌, ◌==◌}
use Rattle.std.specs.List.{position_or_len}
use Rattle.std.specs.Option.{option_map}
use Rattle.sipl_names.specs.Labels.{Octets}

-- what a text is made of: fields, what separates and joins them, and a quote that nothing closes
pub data Token : Type 0 where
  blank : Token
  line_end : Token
  opening : Token
  closing : Token
  comment : Token
  field : Octets → Token
  open_quote : Token

-- a space, a tab or a CR
abbrev pub is_blank : ℕ → Bool
is_blank c = c == 32 || c == 9 || c == 13

-- an octet that ends a field: a blank, LF ( ) ; "
abbrev pub ends_field : ℕ → Bool
ends_field c = is_blank c || c == 10 || c == 40 || c == 41 || c == 59 || c == 34

-- an octet that a field has as it is only within quotes, or after a backslash: one that ends a
-- field, or a backslash
abbrev pub needs_quotes : ℕ → Bool
needs_quotes c = ends_field c || c == 92

-- whether a field may end before this text: it is empty or begins with an octet that ends a field
abbrev pub may_end_field : Octets → Bool
may_end_field [] = true
may_end_field (c ∷ text) = ends_field c

-- how many octets more a field has that has begun, maybe with a backslash at last: a backslash
-- takes the next octet into the field, unless that is LF
abbrev pub field_len : Bool → Octets → ℕ
field_len is_escaped [] = 0
field_len is_escaped (c ∷ text) =
    if c == 10 || not is_escaped && ends_field c then 0
    else 1 + field_len (not is_escaped && c == 92) text

-- how many octets come before the quote that closes a quoted field, which no backslash takes; LF is
-- not allowed before it
abbrev pub quoted_len : Bool → Octets → Option ℕ
quoted_len is_escaped [] = None
quoted_len is_escaped (c ∷ text) =
    if c == 10 then None
    else (if not is_escaped && c == 34 then Some 0
    else option_map (λ len. 1 + len) (quoted_len (not is_escaped && c == 92) text))

-- how many octets a comment has: all those before LF
abbrev pub comment_len : Octets → ℕ
comment_len text = position_or_len (λ c. c == 10) text

-- the token that this octet begins, and how many of the octets after it belong to the token
abbrev pub first_token : ℕ → Octets → Token × ℕ
first_token c text =
    if is_blank c then (blank, 0)
    else (if c == 10 then (line_end, 0)
    else (if c == 40 then (opening, 0)
    else (if c == 41 then (closing, 0)
    else (if c == 59 then (comment, comment_len text)
    else (if c == 34
    then elim (quoted_len false text) [
      | Some len ↦ (field (take len text), len + 1)
      | None ↦ (open_quote, length text)
    ]
    else (field (c ∷ take (field_len (c == 92) text) text), field_len (c == 92) text))))))

-- the tokens of a text, where this many octets at its beginning belong to a token before it
abbrev pub tokens : ℕ → Octets → List Token
tokens taken [] = []
tokens (suc taken) (c ∷ text) = tokens taken text
tokens zero (c ∷ text) = (first_token c text).0 ∷ tokens (first_token c text).1 text
