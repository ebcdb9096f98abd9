-- The tokens of a text, octet by octet.
use Rattle.std.proofs.Common.{◌≡◌, ℕ, suc, zero, ◌+◌, ◌≤◌, ◌<◌, List, [], ◌∷◌, Option, None, Some, length, take, drop, refl, sym, ap, nat_eq, Bool, true, false, Ok, if◌then◌else◌, arith, length-drop, one-add, ◌∙◌}
use Rattle.std.specs.Option.{unwrap_or}
use Rattle.std.specs.List.{slice_get}
use Rattle.std.specs.Borrow.{Bor}
use Rattle.std.proofs.lemmas.Bool.{false_from_ne_true, or_parts}
use Rattle.std.proofs.lemmas.List.Sums.{position_or_len_is}
use Rattle.memchr.specs.Find.{IsFirstByte, is_byte}
use Rattle.sipl_masterfile.specs.Tokens.{is_blank, ends_field, field_len, quoted_len, comment_len, Token, blank, line_end, opening, closing, comment, field, open_quote, first_token, tokens}
use Rattle.sipl_names.specs.Labels.{Octets}
use Rattle.sipl_names.specs.LabelSlices.{octets_of}
use Rattle.sipl_masterfile.specs.Entries.{Entry, Begun, begin, begins_blank, prepend_entry, entries_at}
use Rattle.sipl_masterfile.specs.Scanning.{begun_at}

-- the octets that belong to a token before the rest
pub tokens-taken : (n : ℕ) (text : List ℕ) → tokens n text ≡ tokens 0 (drop n text)
tokens-taken zero text = refl
tokens-taken (suc n) [] = refl
tokens-taken (suc n) (c ∷ text) = tokens-taken n text

-- a comment ends at the first LF, or with the text
pub comment_len-found : (text : List ℕ) (found : Option ℕ) → IsFirstByte (is_byte 10) text found → unwrap_or found (length text) ≡ comment_len text
comment_len-found text None nowhere =
    sym (position_or_len_is (λ c. nat_eq c 10) text (length text) 0 (omega arith) (λ k below. false_from_ne_true _ (nowhere k (omega arith) below)) (λ past. absurd (omega arith)))
comment_len-found text (Some k) found =
    sym (position_or_len_is (λ c. nat_eq c 10) text k 0 (omega (arith, found.0.high)) (λ j below. false_from_ne_true _ (found.0.before j (omega arith) below)) (λ inside. found.1))

pub comment_len-within : (text : List ℕ) (found : Option ℕ) → IsFirstByte (is_byte 10) text found → unwrap_or found (length text) ≤ length text
comment_len-within text None nowhere = omega arith
comment_len-within text (Some k) found = omega (arith, found.0.high)

-- the text begins with the token, and the rest follows
pub record BeginsWithToken (text : List ℕ) (token : Token) (rest : List ℕ) : Type 0 where
  pub spells : tokens 0 text ≡ token ∷ tokens 0 rest
  pub shorter : length rest < length text

-- a quoted field, and what follows its quotes
pub begins-quoted : (text rest : List ℕ) (len : ℕ) → quoted_len false text ≡ Some len → len < length text → rest ≡ drop (len + 1) text → BeginsWithToken (34 ∷ text) (field (take len text)) rest
begins-quoted text rest len is inside rest_is = record {
  spells = rw (is, rest_is) (ap (λ others. field (take len text) ∷ others) (tokens-taken (len + 1) text));
  shorter = rw rest_is (omega (arith, length-drop (len + 1) text));
}

-- no token follows where all octets belong to one before them
pub tokens-all : (text : List ℕ) → tokens (length text) text ≡ []
tokens-all [] = refl
tokens-all (c ∷ text) = tokens-all text

-- a quote that nothing closes
pub begins-open : (text : List ℕ) → quoted_len false text ≡ None → BeginsWithToken (34 ∷ text) open_quote []
begins-open text is = record {
  spells = rw is (ap (λ others. open_quote ∷ others) (tokens-all text));
  shorter = omega arith;
}

-- a comment, and what follows it
pub begins-comment : (text tail rest : List ℕ) (len : ℕ) → text ≡ 59 ∷ tail → len ≡ comment_len tail → rest ≡ drop len tail → BeginsWithToken text comment rest
begins-comment text tail rest len whole is rest_is = record {
  spells = rw (whole, rest_is, is) (ap (λ others. comment ∷ others) (tokens-taken (comment_len tail) tail));
  shorter = rw (whole, rest_is) (omega (arith, length-drop len tail));
}

-- an octet that ends no field begins one
field-spells : (c : ℕ) (tail : List ℕ) → ends_field c ≡ false → first_token c tail ≡ (field (c ∷ take (field_len (nat_eq c 92) tail) tail), field_len (nat_eq c 92) tail)
field-spells c tail other =
    let quote = or_parts _ (nat_eq c 34) other in
    let semicolon = or_parts _ (nat_eq c 59) quote.0 in
    let closed = or_parts _ (nat_eq c 41) semicolon.0 in
    let opened = or_parts _ (nat_eq c 40) closed.0 in
    let ended = or_parts (is_blank c) (nat_eq c 10) opened.0 in
    rw (ended.0, ended.1, opened.1, closed.1, semicolon.1, quote.1) refl

-- a field without quotes, and what follows it
pub begins-field : (text tail octets rest : List ℕ) (c len : ℕ) → text ≡ c ∷ tail → ends_field c ≡ false → len ≡ field_len (nat_eq c 92) tail → octets ≡ take (1 + len) text → rest ≡ drop (1 + len) text → BeginsWithToken text (field octets) rest
begins-field text tail octets rest c len whole other is octets_is rest_is =
    let octets_are : octets ≡ c ∷ take len tail = rw (octets_is, whole, one-add) refl in
    let rest_are : rest ≡ drop len tail = rw (rest_is, whole, one-add) refl in
    record {
      spells = rw (whole, octets_are, rest_are, is) (ap (λ first. first.0 ∷ tokens first.1 tail) (field-spells c tail other) ∙ ap (λ others. field (c ∷ take (field_len (nat_eq c 92) tail) tail) ∷ others) (tokens-taken (field_len (nat_eq c 92) tail) tail));
      shorter = rw (whole, rest_are) (omega (arith, length-drop len tail));
    }

-- whether tokens begin with a blank depends on the first one only
pub begins_blank-any : (t : Token) (xs ys : List Token) → begins_blank (t ∷ xs) ≡ begins_blank (t ∷ ys)
begins_blank-any blank xs ys = refl
begins_blank-any line_end xs ys = refl
begins_blank-any opening xs ys = refl
begins_blank-any closing xs ys = refl
begins_blank-any comment xs ys = refl
begins_blank-any (field octets) xs ys = refl
begins_blank-any open_quote xs ys = refl

-- whether a first token is a blank
IsBlank : Token × ℕ → Bool → Type 0
IsBlank first b = begins_blank (first.0 ∷ []) ≡ b

by_blank : (b : Bool) (others : Token × ℕ) → IsBlank others false → IsBlank (if b then (blank, 0) else others) b
unfolding IsBlank
by_blank true others other = refl
by_blank false others other = other

neither : (b : Bool) (first others : Token × ℕ) → IsBlank first false → IsBlank others false → IsBlank (if b then first else others) false
unfolding IsBlank
neither true first others p q = p
neither false first others p q = q

quoted_is_other : (found : Option ℕ) (tail : List ℕ) → IsBlank (elim found as (λ _. Token × ℕ) [ Some len ↦ (field (take len tail), len + 1) | None ↦ (open_quote, length tail) ]) false
unfolding IsBlank
quoted_is_other None tail = refl
quoted_is_other (Some len) tail = refl

is_blank-first : (c : ℕ) (tail : List ℕ) → IsBlank (first_token c tail) (is_blank c)
unfolding IsBlank
is_blank-first c tail =
    by_blank (is_blank c) _ (neither (nat_eq c 10) (line_end, 0) _ refl (neither (nat_eq c 40) (opening, 0) _ refl (neither (nat_eq c 41) (closing, 0) _ refl (neither (nat_eq c 59) (comment, comment_len tail) _ refl (neither (nat_eq c 34) _ _ (quoted_is_other (quoted_len false tail) tail) refl)))))

-- the tokens of a text begin with a blank exactly where its first octet is one
pub begins_blank-first : (c : ℕ) (tail : List ℕ) → begins_blank (tokens 0 (c ∷ tail)) ≡ is_blank c
unfolding IsBlank
begins_blank-first c tail = begins_blank-any (first_token c tail).0 (tokens (first_token c tail).1 tail) [] ∙ is_blank-first c tail

begins_blank-get : (text : List ℕ) (first : ℕ) → Some first ≡ slice_get text 0 → begins_blank (tokens 0 text) ≡ is_blank first
begins_blank-get [] first is = absurd (cc is)
begins_blank-get (c ∷ tail) first is = let same : first ≡ c = cc is in rw same (begins_blank-first c tail)

filled : (begun : Begun) (slices : List (Bor Octets)) (others : List Entry) → 0 < length slices → prepend_entry (record begun { fields = octets_of slices }) others ≡ record { line = begun.line; is_indented = begun.is_indented; content = Ok (octets_of slices) } ∷ others
filled begun [] others some = absurd (omega arith)
filled begun (slice ∷ slices) others some = refl

-- the next entry of a text, with its fields and the entries after it
pub next-read : (entries others next : List Entry) (text : List ℕ) (line first : ℕ) (is_indented : Bool) (slices : List (Bor Octets)) → entries ≡ entries_at line text → entries_at line text ≡ prepend_entry (begun_at line text slices) others → others ≡ next → Some first ≡ slice_get text 0 → is_indented ≡ is_blank first → 0 < length slices → entries ≡ record { line = line; is_indented = is_indented; content = Ok (octets_of slices) } ∷ next
next-read entries others next text line first is_indented slices left read follows at is some =
    left ∙ read ∙ ap (prepend_entry (begun_at line text slices)) follows ∙ filled (begin line (tokens 0 text)) slices next some ∙ ap (λ b. record { line = line; is_indented = b; content = Ok (octets_of slices) } ∷ next) (begins_blank-get text first at ∙ sym is)
