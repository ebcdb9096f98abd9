-- The tokens of a text that a line's end follows.
use Rattle.std.proofs.Common.{◌≡◌, ℕ, zero, suc, ◌+◌, ◌<◌, ◌≤◌, Bool, true, false, not, ◌&&◌, ◌||◌, List, [], ◌∷◌, ◌++◌, Option, None, Some, length, take, refl, ap, ◌∙◌, arith}
use Rattle.std.specs.Prelude.{◌==◌, if◌then◌else◌}
use Rattle.std.specs.List.{AllByRecursion}
use Rattle.std.specs.Option.{option_map}
use Rattle.std.proofs.lemmas.List.{take-append-le}
use Rattle.std.proofs.lemmas.List.Sums.{prefix_len-le-length}
use Rattle.sipl_names.specs.Labels.{Octets}
use Rattle.sipl_masterfile.specs.Tokens.{Token, blank, line_end, opening, closing, comment, field, open_quote, is_blank, ends_field, field_len, quoted_len, comment_len, first_token, tokens}

-- no quote is open
abbrev pub IsClosed : Token → Type 0
IsClosed open_quote = ⊥
IsClosed _ = Unit {0}

-- the token of an octet, by tests of it
abbrev chain : Bool → Bool → Bool → Bool → Bool → Bool → Token × ℕ → Token × ℕ → Token × ℕ → Token × ℕ
chain b0 b1 b2 b3 b4 b5 remark quoted plain =
    if b0 then (blank, 0)
    else (if b1 then (line_end, 0)
    else (if b2 then (opening, 0)
    else (if b3 then (closing, 0)
    else (if b4 then remark
    else (if b5 then quoted else plain)))))

-- the same token, where it is no open quote
chain-same : (b0 b1 b2 b3 b4 b5 : Bool) (remark remark' quoted quoted' plain plain' : Token × ℕ) → IsClosed (chain b0 b1 b2 b3 b4 b5 remark quoted plain).0 → remark' ≡ remark → (IsClosed quoted.0 → quoted' ≡ quoted) → plain' ≡ plain → chain b0 b1 b2 b3 b4 b5 remark' quoted' plain' ≡ chain b0 b1 b2 b3 b4 b5 remark quoted plain
chain-same true b1 b2 b3 b4 b5 remark remark' quoted quoted' plain plain' h p q r = refl
chain-same false true b2 b3 b4 b5 remark remark' quoted quoted' plain plain' h p q r = refl
chain-same false false true b3 b4 b5 remark remark' quoted quoted' plain plain' h p q r = refl
chain-same false false false true b4 b5 remark remark' quoted quoted' plain plain' h p q r = refl
chain-same false false false false true b5 remark remark' quoted quoted' plain plain' h p q r = p
chain-same false false false false false true remark remark' quoted quoted' plain plain' h p q r = q h
chain-same false false false false false false remark remark' quoted quoted' plain plain' h p q r = r

-- a token has at most so many octets
chain-within : (n : ℕ) (b0 b1 b2 b3 b4 b5 : Bool) (remark quoted plain : Token × ℕ) → remark.1 ≤ n → quoted.1 ≤ n → plain.1 ≤ n → (chain b0 b1 b2 b3 b4 b5 remark quoted plain).1 ≤ n
chain-within n true b1 b2 b3 b4 b5 remark quoted plain p q r = omega arith
chain-within n false true b2 b3 b4 b5 remark quoted plain p q r = omega arith
chain-within n false false true b3 b4 b5 remark quoted plain p q r = omega arith
chain-within n false false false true b4 b5 remark quoted plain p q r = omega arith
chain-within n false false false false true b5 remark quoted plain p q r = p
chain-within n false false false false false true remark quoted plain p q r = q
chain-within n false false false false false false remark quoted plain p q r = r

-- a comment ends at LF
comment-line : (text rest : Octets) → comment_len (text ++ 10 ∷ rest) ≡ comment_len text
comment-line [] rest = refl
comment-line (c ∷ text) rest = ap (λ n. if not (c == 10) then 1 + n else 0) (comment-line text rest)

-- a field ends at LF, also after a backslash
field-line : (text rest : Octets) (is_escaped : Bool) → field_len is_escaped (text ++ 10 ∷ rest) ≡ field_len is_escaped text
field-line [] rest is_escaped = refl
field-line (c ∷ text) rest is_escaped =
    ap (λ n. if c == 10 || not is_escaped && ends_field c then 0 else 1 + n) (field-line text rest (not is_escaped && c == 92))

field-step : (b : Bool) (n k : ℕ) → n ≤ k → (if b then 0 else 1 + n) ≤ suc k
field-step true n k within = omega arith
field-step false n k within = omega (arith, within)

field-within : (text : Octets) (is_escaped : Bool) → field_len is_escaped text ≤ length text
field-within [] is_escaped = omega arith
field-within (c ∷ text) is_escaped =
    field-step (c == 10 || not is_escaped && ends_field c) (field_len (not is_escaped && c == 92) text) (length text) (field-within text (not is_escaped && c == 92))

-- a quote that closes in the text closes there whatever follows
quoted-step : (b q : Bool) (found found' : Option ℕ) (len k : ℕ) → (if b then None else (if q then Some 0 else option_map (λ n. 1 + n) found)) ≡ Some len → ((n : ℕ) → found ≡ Some n → (found' ≡ Some n) × (n < k)) → ((if b then None else (if q then Some 0 else option_map (λ n. 1 + n) found')) ≡ Some len) × (len < suc k)
quoted-step true q found found' len k is same = absurd (cc is)
quoted-step false true found found' len k is same = (is, let none : 0 ≡ len = cc is in omega (arith, none))
quoted-step false false None found' len k is same = absurd (cc is)
quoted-step false false (Some n) found' len k is same =
    let more = same n refl in
    let below = more.1 in
    let long : 1 + n ≡ len = cc is in
    (ap (option_map (λ m. 1 + m)) more.0 ∙ is, omega (arith, below, long))

quoted-more : (text more : Octets) (is_escaped : Bool) (len : ℕ) → quoted_len is_escaped text ≡ Some len → (quoted_len is_escaped (text ++ more) ≡ Some len) × (len < length text)
quoted-more [] more is_escaped len is = absurd (cc is)
quoted-more (c ∷ text) more is_escaped len is =
    quoted-step (c == 10) (not is_escaped && c == 34) (quoted_len (not is_escaped && c == 92) text) (quoted_len (not is_escaped && c == 92) (text ++ more)) len (length text) is (quoted-more text more (not is_escaped && c == 92))

-- the quoted field of this length, or the open quote
abbrev quoted_token : Octets → Option ℕ → Token × ℕ
quoted_token text found = elim found [ Some len ↦ (field (take len text), len + 1) | None ↦ (open_quote, length text) ]

quoted-same : (found : Option ℕ) (text more : Octets) → quoted_len false text ≡ found → IsClosed (quoted_token text found).0 → quoted_token (text ++ more) (quoted_len false (text ++ more)) ≡ quoted_token text found
quoted-same None text more is closed = absurd closed
quoted-same (Some len) text more is closed =
    let found = quoted-more text more false len is in
    let below = found.1 in
    ap (quoted_token (text ++ more)) found.0 ∙ ap (λ octets. (field octets, len + 1)) (take-append-le len text more (omega (arith, below)))

quoted-within : (found : Option ℕ) (text : Octets) → quoted_len false text ≡ found → (quoted_token text found).1 ≤ length text
quoted-within None text is = omega arith
quoted-within (Some len) text is = let below = (quoted-more text [] false len is).1 in omega (arith, below)

-- the field of this length, without quotes
abbrev plain_token : ℕ → Octets → ℕ → Token × ℕ
plain_token c text len = (field (c ∷ take len text), len)

first-within : (c : ℕ) (text : Octets) → (first_token c text).1 ≤ length text
first-within c text =
    chain-within (length text) (is_blank c) (c == 10) (c == 40) (c == 41) (c == 59) (c == 34) (comment, comment_len text) (quoted_token text (quoted_len false text)) (plain_token c text (field_len (c == 92) text))
    (prefix_len-le-length (λ d. not (d == 10)) text) (quoted-within (quoted_len false text) text refl) (field-within text (c == 92))

first-line : (c : ℕ) (text rest : Octets) → IsClosed (first_token c text).0 → first_token c (text ++ 10 ∷ rest) ≡ first_token c text
first-line c text rest closed =
    chain-same (is_blank c) (c == 10) (c == 40) (c == 41) (c == 59) (c == 34) (comment, comment_len text) (comment, comment_len (text ++ 10 ∷ rest)) (quoted_token text (quoted_len false text)) (quoted_token (text ++ 10 ∷ rest) (quoted_len false (text ++ 10 ∷ rest))) (plain_token c text (field_len (c == 92) text)) (plain_token c (text ++ 10 ∷ rest) (field_len (c == 92) (text ++ 10 ∷ rest))) closed
    (ap (λ len. (comment, len)) (comment-line text rest))
    (quoted-same (quoted_len false text) text (10 ∷ rest) refl)
    (ap (plain_token c (text ++ 10 ∷ rest)) (field-line text rest (c == 92))
    ∙ ap (λ octets. (field (c ∷ octets), field_len (c == 92) text)) (take-append-le (field_len (c == 92) text) text (10 ∷ rest) (field-within text (c == 92))))

-- the tokens of a text in which no quote is open, and then a line's end
pub tokens-line : (text rest : Octets) (n : ℕ) → n ≤ length text → AllByRecursion IsClosed (tokens n text) → tokens n (text ++ 10 ∷ rest) ≡ tokens n text ++ line_end ∷ tokens 0 rest
tokens-line [] rest zero within closed = refl
tokens-line [] rest (suc n) within closed = absurd (omega (arith, within))
tokens-line (c ∷ text) rest (suc n) within closed = tokens-line text rest n (omega (arith, within)) closed
tokens-line (c ∷ text) rest zero within closed =
    ap (λ (first : Token × ℕ). first.0 ∷ tokens first.1 (text ++ 10 ∷ rest)) (first-line c text rest closed.0)
    ∙ ap (λ (others : List Token). (first_token c text).0 ∷ others) (tokens-line text rest (first_token c text).1 (first-within c text) closed.1)
