-- The tokens of texts that are joined.
use Rattle.std.proofs.Common.{◌≡◌, ℕ, suc, zero, ◌+◌, ◌<◌, ◌≤◌, Bool, true, false, not, ◌&&◌, ◌||◌, List, [], ◌∷◌, ◌++◌, Option, None, Some, length, take, nat_eq, refl, sym, ap, ◌∙◌, arith, length-append, append-nil, if◌then◌else◌, ⊎_elim, false-eqb, one-add, subst}
use Rattle.std.specs.List.{last_or, list_any}
use Rattle.std.specs.Option.{option_map}
use Rattle.std.proofs.lemmas.List.{take-append-le}
use Rattle.std.proofs.lemmas.List.Folds.{prefix_len-append}
use Rattle.std.proofs.lemmas.List.Sums.{prefix_len-le-length}
use Rattle.std.proofs.lemmas.Bool.Decides.{nat_tests}
use Rattle.sipl_names.specs.Labels.{Octets}
use Rattle.std.proofs.str.Laws.{order}
use Rattle.std.proofs.lemmas.Bool.{eqb-true, or_parts}
use Rattle.sipl_masterfile.specs.Tokens.{Token, blank, line_end, opening, closing, comment, field, open_quote, is_blank, ends_field, field_len, quoted_len, comment_len, first_token, tokens}
use Rattle.sipl_masterfile.specs.Entries.{begins_blank}
use Rattle.sipl_masterfile.specs.JoinedTexts.{follows_line, is_line_end}

-- the tests of an octet's token
abbrev chain : Bool → Bool → Bool → Bool → Bool → Bool → Token × ℕ → Token × ℕ → Token × ℕ → Token × ℕ
chain b0 b1 b2 b3 b4 b5 remark quoted plain =
    if b0 then (blank, 0)
    else (if b1 then (line_end, 0)
    else (if b2 then (opening, 0)
    else (if b3 then (closing, 0)
    else (if b4 then remark
    else (if b5 then quoted else plain)))))

-- the same token, where each case that its length allows is the same
chain-same : (P : ℕ → Type 0) (b0 b1 b2 b3 b4 b5 : Bool) (remark remark' quoted quoted' plain plain' : Token × ℕ) → P (chain b0 b1 b2 b3 b4 b5 remark quoted plain).1 → (P remark.1 → remark' ≡ remark) → (P quoted.1 → quoted' ≡ quoted) → (P plain.1 → plain' ≡ plain) → chain b0 b1 b2 b3 b4 b5 remark' quoted' plain' ≡ chain b0 b1 b2 b3 b4 b5 remark quoted plain
chain-same P true b1 b2 b3 b4 b5 remark remark' quoted quoted' plain plain' h p q r = refl
chain-same P false true b2 b3 b4 b5 remark remark' quoted quoted' plain plain' h p q r = refl
chain-same P false false true b3 b4 b5 remark remark' quoted quoted' plain plain' h p q r = refl
chain-same P false false false true b4 b5 remark remark' quoted quoted' plain plain' h p q r = refl
chain-same P false false false false true b5 remark remark' quoted quoted' plain plain' h p q r = p h
chain-same P false false false false false true remark remark' quoted quoted' plain plain' h p q r = q h
chain-same P false false false false false false remark remark' quoted quoted' plain plain' h p q r = r h

-- a line end is the token of LF, whatever follows
chain-line_end : (b0 b1 b2 b3 b4 b5 : Bool) (remark quoted plain remark' quoted' plain' : Token × ℕ) → is_line_end (chain b0 b1 b2 b3 b4 b5 remark quoted plain).0 ≡ true → is_line_end remark.0 ≡ false → is_line_end quoted.0 ≡ false → is_line_end plain.0 ≡ false → chain b0 b1 b2 b3 b4 b5 remark' quoted' plain' ≡ (line_end, 0)
chain-line_end true b1 b2 b3 b4 b5 remark quoted plain remark' quoted' plain' h p q r = absurd (cc h)
chain-line_end false true b2 b3 b4 b5 remark quoted plain remark' quoted' plain' h p q r = refl
chain-line_end false false true b3 b4 b5 remark quoted plain remark' quoted' plain' h p q r = absurd (cc h)
chain-line_end false false false true b4 b5 remark quoted plain remark' quoted' plain' h p q r = absurd (cc h)
chain-line_end false false false false true b5 remark quoted plain remark' quoted' plain' h p q r = absurd (cc (h, p))
chain-line_end false false false false false true remark quoted plain remark' quoted' plain' h p q r = absurd (cc (h, q))
chain-line_end false false false false false false remark quoted plain remark' quoted' plain' h p q r = absurd (cc (h, r))

-- the quoted field of this length, or the open quote
abbrev quoted_token : Octets → Option ℕ → Token × ℕ
quoted_token text found = elim found [ Some len ↦ (field (take len text), len + 1) | None ↦ (open_quote, length text) ]

quoted_no_line_end : (text : List ℕ) (found : Option ℕ) → is_line_end (quoted_token text found).0 ≡ false
quoted_no_line_end text None = refl
quoted_no_line_end text (Some len) = refl

line_end-anywhere : (c : ℕ) (tail other : List ℕ) → is_line_end (first_token c tail).0 ≡ true → first_token c other ≡ (line_end, 0)
line_end-anywhere c tail other is =
    chain-line_end (is_blank c) (nat_eq c 10) (nat_eq c 40) (nat_eq c 41) (nat_eq c 59) (nat_eq c 34) (comment, comment_len tail) (quoted_token tail (quoted_len false tail)) (field (c ∷ take (field_len (nat_eq c 92) tail) tail), field_len (nat_eq c 92) tail) (comment, comment_len other) (quoted_token other (quoted_len false other)) (field (c ∷ take (field_len (nat_eq c 92) other) other), field_len (nat_eq c 92) other) is refl (quoted_no_line_end tail (quoted_len false tail)) refl

-- a comment that ends before the text does, ends there also with more after it
comment_len-more : (text more : List ℕ) → comment_len text < length text → comment_len (text ++ more) ≡ comment_len text
comment_len-more text more inside =
    let other : nat_eq (comment_len text) (length text) ≡ false = grind (arith, nat_tests) in
    prefix_len-append (λ c. not (nat_eq c 10)) text more ∙ rw other refl

before_semicolon : (b : Bool) (text : List ℕ) → nat_eq (comment_len text) (length text) ≡ b → comment_len (text ++ 59 ∷ []) ≤ length text → comment_len text < length text
before_semicolon true text is inside =
    let whole : comment_len (text ++ 59 ∷ []) ≡ length text + comment_len (59 ∷ []) = prefix_len-append (λ c. not (nat_eq c 10)) text (59 ∷ []) ∙ rw is refl in
    absurd (omega (arith, whole, inside))
before_semicolon false text is inside =
    let within : comment_len text ≤ length text = prefix_len-le-length (λ c. not (nat_eq c 10)) text in
    let other = false-eqb _ _ (sym is) in
    omega (arith, within, other)

comment_len-cut : (text more : List ℕ) → comment_len (text ++ 59 ∷ []) ≤ length text → comment_len (text ++ more) ≡ comment_len (text ++ 59 ∷ [])
comment_len-cut text more inside =
    let shorter : comment_len text < length text = before_semicolon (nat_eq (comment_len text) (length text)) text refl inside in
    comment_len-more text more shorter ∙ sym (comment_len-more text (59 ∷ []) shorter)

field-step : (b : Bool) (n m k : ℕ) → (if b then 0 else 1 + n) < suc k → (n < k → m ≡ n) → (if b then 0 else 1 + m) ≡ (if b then 0 else 1 + n)
field-step true n m k inside same = refl
field-step false n m k inside same = ap (λ i. 1 + i) (same (omega arith))

-- a field that ends before the text does, ends there also with more after it
field_len-more : (text more : List ℕ) (is_escaped : Bool) → field_len is_escaped text < length text → field_len is_escaped (text ++ more) ≡ field_len is_escaped text
field_len-more [] more is_escaped inside = absurd (omega arith)
field_len-more (c ∷ text) more is_escaped inside =
    field-step (nat_eq c 10 || not is_escaped && ends_field c) (field_len (not is_escaped && nat_eq c 92) text) (field_len (not is_escaped && nat_eq c 92) (text ++ more)) (length text) inside (field_len-more text more (not is_escaped && nat_eq c 92))

-- whether a text is empty, or begins with `;` or LF
abbrev pub ends_token : List ℕ → Bool
ends_token [] = true
ends_token (c ∷ text) = nat_eq c 59 || nat_eq c 10

no_field-first : (b : Bool) (c : ℕ) (more : List ℕ) → nat_eq c 59 ≡ b → (b || nat_eq c 10) ≡ true → field_len false (c ∷ more) ≡ 0
no_field-first true c more is stop = let same : c ≡ 59 = eqb-true c 59 is in rw same refl
no_field-first false c more is stop = let same : c ≡ 10 = eqb-true c 10 stop in rw same refl

no_field : (more : List ℕ) → ends_token more ≡ true → field_len false more ≡ 0
no_field [] stop = refl
no_field (c ∷ more) stop = no_field-first (nat_eq c 59) c more refl stop

field_len-cut : (text more : List ℕ) (is_escaped : Bool) → ends_token more ≡ true → field_len is_escaped (text ++ 59 ∷ []) ≤ length text → field_len is_escaped (text ++ more) ≡ field_len is_escaped (text ++ 59 ∷ [])
field_len-cut [] more true stop inside = absurd (omega arith)
field_len-cut [] more false stop inside = no_field more stop
field_len-cut (c ∷ text) more is_escaped stop inside =
    field-step (nat_eq c 10 || not is_escaped && ends_field c) (field_len (not is_escaped && nat_eq c 92) (text ++ 59 ∷ [])) (field_len (not is_escaped && nat_eq c 92) (text ++ more)) (suc (length text)) (omega (arith, inside)) (λ below. field_len-cut text more (not is_escaped && nat_eq c 92) stop (omega arith))

quoted-step : (b q : Bool) (found found' : Option ℕ) (len : ℕ) → (if b then None else (if q then Some 0 else option_map (λ n. 1 + n) found)) ≡ Some len → ((n : ℕ) → found ≡ Some n → found' ≡ Some n) → (if b then None else (if q then Some 0 else option_map (λ n. 1 + n) found')) ≡ Some len
quoted-step true q found found' len is same = absurd (cc is)
quoted-step false true found found' len is same = is
quoted-step false false None found' len is same = absurd (cc is)
quoted-step false false (Some n) found' len is same = ap (option_map (λ n. 1 + n)) (same n refl) ∙ is

-- a quote that closes in the text, closes there also with more after it
quoted_len-more : (text more : List ℕ) (is_escaped : Bool) (len : ℕ) → quoted_len is_escaped text ≡ Some len → quoted_len is_escaped (text ++ more) ≡ Some len
quoted_len-more [] more is_escaped len is = absurd (cc is)
quoted_len-more (c ∷ text) more is_escaped len is =
    quoted-step (nat_eq c 10) (not is_escaped && nat_eq c 34) (quoted_len (not is_escaped && nat_eq c 92) text) (quoted_len (not is_escaped && nat_eq c 92) (text ++ more)) len is (quoted_len-more text more (not is_escaped && nat_eq c 92))

quoted_len-cut : (text : List ℕ) (is_escaped : Bool) (len : ℕ) → quoted_len is_escaped (text ++ 59 ∷ []) ≡ Some len → quoted_len is_escaped text ≡ Some len
quoted_len-cut [] true len is = absurd (cc is)
quoted_len-cut [] false len is = absurd (cc is)
quoted_len-cut (c ∷ text) is_escaped len is =
    quoted-step (nat_eq c 10) (not is_escaped && nat_eq c 34) (quoted_len (not is_escaped && nat_eq c 92) (text ++ 59 ∷ [])) (quoted_len (not is_escaped && nat_eq c 92) text) len is (quoted_len-cut text (not is_escaped && nat_eq c 92))

quoted-more : (found : Option ℕ) (text more : List ℕ) → quoted_len false text ≡ found → (quoted_token text found).1 < length text → quoted_token (text ++ more) (quoted_len false (text ++ more)) ≡ quoted_token text found
quoted-more None text more is inside = absurd (omega arith)
quoted-more (Some len) text more is inside =
    rw (quoted_len-more text more false len is) (ap (λ octets. (field octets, len + 1)) (take-append-le len text more (omega arith)))

quoted-cut : (found : Option ℕ) (text more : List ℕ) → quoted_len false (text ++ 59 ∷ []) ≡ found → (quoted_token (text ++ 59 ∷ []) found).1 ≤ length text → quoted_token (text ++ more) (quoted_len false (text ++ more)) ≡ quoted_token (text ++ 59 ∷ []) found
quoted-cut None text more is inside = absurd (omega (arith, inside, length-append text (59 ∷ [])))
quoted-cut (Some len) text more is inside =
    rw (quoted_len-more text more false len (quoted_len-cut text false len is)) (ap (λ octets. (field octets, len + 1)) (take-append-le len text more (omega arith) ∙ sym (take-append-le len text (59 ∷ []) (omega arith))))

-- the field of this length, without quotes
abbrev plain_token : ℕ → Octets → ℕ → Token × ℕ
plain_token c text len = (field (c ∷ take len text), len)

-- a token that ends before the text does, is the same with more after it
first_token-more : (c : ℕ) (text more : List ℕ) → (first_token c text).1 < length text → first_token c (text ++ more) ≡ first_token c text
first_token-more c text more inside =
    chain-same (λ len. len < length text) (is_blank c) (nat_eq c 10) (nat_eq c 40) (nat_eq c 41) (nat_eq c 59) (nat_eq c 34) (comment, comment_len text) (comment, comment_len (text ++ more)) (quoted_token text (quoted_len false text)) (quoted_token (text ++ more) (quoted_len false (text ++ more))) (plain_token c text (field_len (nat_eq c 92) text)) (plain_token c (text ++ more) (field_len (nat_eq c 92) (text ++ more))) inside
    (λ h. ap (λ len. (comment, len)) (comment_len-more text more h))
    (λ h. quoted-more (quoted_len false text) text more refl h)
    (λ h. ap (plain_token c (text ++ more)) (field_len-more text more (nat_eq c 92) h) ∙ ap (λ octets. (field (c ∷ octets), field_len (nat_eq c 92) text)) (take-append-le (field_len (nat_eq c 92) text) text more (omega arith)))

-- a token before which a comment may begin, is the same before a comment, a line's end and the text's end
first_token-cut : (c : ℕ) (text more : List ℕ) → ends_token more ≡ true → (first_token c (text ++ 59 ∷ [])).1 ≤ length text → first_token c (text ++ more) ≡ first_token c (text ++ 59 ∷ [])
first_token-cut c text more stop inside =
    chain-same (λ len. len ≤ length text) (is_blank c) (nat_eq c 10) (nat_eq c 40) (nat_eq c 41) (nat_eq c 59) (nat_eq c 34) (comment, comment_len (text ++ 59 ∷ [])) (comment, comment_len (text ++ more)) (quoted_token (text ++ 59 ∷ []) (quoted_len false (text ++ 59 ∷ []))) (quoted_token (text ++ more) (quoted_len false (text ++ more))) (plain_token c (text ++ 59 ∷ []) (field_len (nat_eq c 92) (text ++ 59 ∷ []))) (plain_token c (text ++ more) (field_len (nat_eq c 92) (text ++ more))) inside
    (λ h. ap (λ len. (comment, len)) (comment_len-cut text more h))
    (λ h. quoted-cut (quoted_len false (text ++ 59 ∷ [])) text more refl h)
    (λ h. ap (plain_token c (text ++ more)) (field_len-cut text more (nat_eq c 92) stop h) ∙ ap (λ octets. (field (c ∷ octets), field_len (nat_eq c 92) (text ++ 59 ∷ []))) (take-append-le (field_len (nat_eq c 92) (text ++ 59 ∷ [])) text more h ∙ sym (take-append-le (field_len (nat_eq c 92) (text ++ 59 ∷ [])) text (59 ∷ []) h)))

-- no token is left after all octets of a text
tokens-past : (n : ℕ) (text : List ℕ) → length text ≤ n → tokens n text ≡ []
tokens-past n [] past = refl
tokens-past zero (c ∷ text) past = absurd (omega arith)
tokens-past (suc n) (c ∷ text) past = tokens-past n text (omega arith)

inside-text : (n : ℕ) (text : List ℕ) (t : Token) (ts : List Token) → tokens n text ≡ t ∷ ts → n < length text
inside-text n text t ts is =
    ⊎_elim (λ inside. inside) (λ past. absurd (cc (is, tokens-past n text past))) (order n (length text))

empty-text : (text : List ℕ) → tokens 0 text ≡ [] → text ≡ []
empty-text [] is = refl
empty-text (c ∷ text) is = absurd (cc is)

is_line_end-of : (t : Token) → Some t ≡ Some line_end → is_line_end t ≡ true
is_line_end-of t is = let same : t ≡ line_end = cc is in rw same refl

joined-first : (c : ℕ) (a b : List ℕ) (ts : List Token) → tokens (first_token c a).1 a ≡ ts → last_or None ((first_token c a).0 ∷ ts) ≡ Some line_end → (last_or None (tokens (first_token c a).1 a) ≡ Some line_end → tokens (first_token c a).1 (a ++ b) ≡ tokens (first_token c a).1 a ++ tokens 0 b) → tokens 0 (c ∷ a ++ b) ≡ tokens 0 (c ∷ a) ++ tokens 0 b
joined-first c a b [] is ended more =
    let here = line_end-anywhere c a a (is_line_end-of (first_token c a).0 ended) in
    let none : a ≡ [] = empty-text a (rw here at is) in
    let first = line_end-anywhere c a b (is_line_end-of (first_token c a).0 ended) in
    let alone = line_end-anywhere c a [] (is_line_end-of (first_token c a).0 ended) in
    subst (λ x. tokens 0 (c ∷ x ++ b) ≡ tokens 0 (c ∷ x) ++ tokens 0 b) (sym none) (ap (λ p. p.0 ∷ tokens p.1 b) first ∙ ap (λ p. (p.0 ∷ tokens p.1 []) ++ tokens 0 b) (sym alone))
joined-first c a b (t ∷ ts) is ended more =
    let same = first_token-more c a b (inside-text _ a t ts is) in
    ap (λ p. p.0 ∷ tokens p.1 (a ++ b)) same ∙ ap (λ rest. (first_token c a).0 ∷ rest) (more (rw is ended))

-- the tokens of a text that ends with a line end, and of one after it
pub tokens-joined : (a b : List ℕ) (n : ℕ) → last_or None (tokens n a) ≡ Some line_end → tokens n (a ++ b) ≡ tokens n a ++ tokens 0 b
tokens-joined [] b n ended = absurd (cc ended)
tokens-joined (c ∷ a) b (suc n) ended = tokens-joined a b n ended
tokens-joined (c ∷ a) b zero ended = joined-first c a b (tokens (first_token c a).1 a) refl ended (tokens-joined a b (first_token c a).1)

not_empty : (xs : List Token) (t : Token) → [] ≡ xs ++ t ∷ [] → ⊥
not_empty [] t is = absurd (cc is)
not_empty (x ∷ xs) t is = absurd (cc is)

-- the token before which `;` may begin a comment, or after which other tokens come
cut-first : (c : ℕ) (a : List ℕ) → tokens 0 ((c ∷ a) ++ 59 ∷ []) ≡ tokens 0 (c ∷ a) ++ comment ∷ [] → (first_token c (a ++ 59 ∷ [])).1 ≤ length a
cut-first c a allows =
    let rest : tokens (first_token c (a ++ 59 ∷ [])).1 (a ++ 59 ∷ []) ≡ tokens (first_token c a).1 a ++ comment ∷ [] = cc allows in
    ⊎_elim
    (λ inside. omega arith)
    (λ past. absurd (not_empty _ _ (sym (tokens-past _ (a ++ 59 ∷ []) (omega (arith, past, length-append a (59 ∷ [])))) ∙ rest)))
    (order (first_token c (a ++ 59 ∷ [])).1 (length a + 1))

-- the tokens of a text where a comment may begin, and of a comment, a line's end or nothing after it
pub tokens-cut : (a more : List ℕ) (n : ℕ) → tokens n (a ++ 59 ∷ []) ≡ tokens n a ++ comment ∷ [] → ends_token more ≡ true → tokens n (a ++ more) ≡ tokens n a ++ tokens 0 more
tokens-cut [] more zero allows stop = refl
tokens-cut [] more (suc n) allows stop = absurd (cc allows)
tokens-cut (c ∷ a) more (suc n) allows stop = tokens-cut a more n allows stop
tokens-cut (c ∷ a) more zero allows stop =
    let inside = cut-first c a allows in
    let same = first_token-cut c a more stop inside in
    let alone : first_token c a ≡ first_token c (a ++ 59 ∷ []) = ap (first_token c) (sym (append-nil a)) ∙ first_token-cut c a [] refl inside in
    let rest : tokens (first_token c (a ++ 59 ∷ [])).1 (a ++ 59 ∷ []) ≡ tokens (first_token c a).1 a ++ comment ∷ [] = cc allows in
    let rest_cut : tokens (first_token c (a ++ 59 ∷ [])).1 (a ++ 59 ∷ []) ≡ tokens (first_token c (a ++ 59 ∷ [])).1 a ++ comment ∷ [] = rest ∙ ap (λ p. tokens p.1 a ++ comment ∷ []) alone in
    ap (λ p. p.0 ∷ tokens p.1 (a ++ more)) same
    ∙ ap (λ others. (first_token c (a ++ 59 ∷ [])).0 ∷ others) (tokens-cut a more (first_token c (a ++ 59 ∷ [])).1 rest_cut stop)
    ∙ ap (λ p. (p.0 ∷ tokens p.1 a) ++ tokens 0 more) (sym alone)

-- the tokens after a comment
pub tokens-after_comment : (x after : List ℕ) → list_any (λ c. nat_eq c 10) x ≡ false → follows_line after ≡ true → tokens (comment_len (x ++ after)) (x ++ after) ≡ tokens 0 after
tokens-after_comment [] [] plain stop = refl
tokens-after_comment [] (c ∷ after) plain stop = let same : c ≡ 10 = eqb-true c 10 stop in rw same refl
tokens-after_comment (c ∷ x) after plain stop =
    let here = or_parts (nat_eq c 10) _ plain in
    rw (here.0, one-add) (tokens-after_comment x after here.1 stop)

pub ends_token-line : (after : List ℕ) → follows_line after ≡ true → ends_token after ≡ true
ends_token-line [] stop = refl
ends_token-line (c ∷ after) stop = let same : c ≡ 10 = eqb-true c 10 stop in rw same refl

-- no blank begins the text where a line has ended
pub after_blank : (after : List ℕ) → follows_line after ≡ true → begins_blank (tokens 0 after) ≡ false
after_blank [] stop = refl
after_blank (c ∷ after) stop = let same : c ≡ 10 = eqb-true c 10 stop in rw same refl
