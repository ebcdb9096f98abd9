-- A field with and without quotes.
use Rattle.std.proofs.Common.{◌≡◌, ℕ, suc, ◌+◌, Bool, true, false, ◌||◌, [], ◌∷◌, ◌++◌, Some, length, take, drop, nat_eq, refl, sym, ap, ◌∙◌, arith, length-append, one-add}
use Rattle.std.specs.List.{list_any}
use Rattle.std.proofs.lemmas.Bool.{or_parts}
use Rattle.sipl_names.specs.Labels.{Octets}
use Rattle.sipl_masterfile.specs.Tokens.{field, ends_field, field_len, quoted_len, may_end_field, needs_quotes, tokens}
use Rattle.sipl_masterfile.proofs.Scanning.{begins-quoted, begins-field}

-- an octet that needs no quotes
record IsPlain (c : ℕ) : Type 0 where
  pub no_end : ends_field c ≡ false
  pub no_line_end : nat_eq c 10 ≡ false
  pub no_quote : nat_eq c 34 ≡ false
  pub no_backslash : nat_eq c 92 ≡ false

is_plain : (c : ℕ) → needs_quotes c ≡ false → IsPlain c
is_plain c is =
    let backslash = or_parts (ends_field c) (nat_eq c 92) is in
    let quote = or_parts _ (nat_eq c 34) backslash.0 in
    let semicolon = or_parts _ (nat_eq c 59) quote.0 in
    let closed = or_parts _ (nat_eq c 41) semicolon.0 in
    let opened = or_parts _ (nat_eq c 40) closed.0 in
    let ended = or_parts _ (nat_eq c 10) opened.0 in
    record { no_end = backslash.0; no_line_end = ended.1; no_quote = quote.1; no_backslash = backslash.1 }

quoted_len-plain : (octets after : Octets) → list_any needs_quotes octets ≡ false → quoted_len false (octets ++ 34 ∷ after) ≡ Some (length octets)
quoted_len-plain [] after plain = refl
quoted_len-plain (c ∷ octets) after plain =
    let parts = or_parts (needs_quotes c) (list_any needs_quotes octets) plain in
    let first = is_plain c parts.0 in
    rw (first.no_line_end, first.no_quote, first.no_backslash, quoted_len-plain octets after parts.1) (ap Some (one-add (length octets)))

ended : (a b : Bool) → b ≡ true → (a || b) ≡ true
ended true b is = refl
ended false b is = is

field_len-plain : (octets after : Octets) → list_any needs_quotes octets ≡ false → may_end_field after ≡ true → field_len false (octets ++ after) ≡ length octets
field_len-plain [] [] plain stop = refl
field_len-plain [] (c ∷ after) plain stop = rw (ended (nat_eq c 10) (ends_field c) stop) refl
field_len-plain (c ∷ octets) after plain stop =
    let parts = or_parts (needs_quotes c) (list_any needs_quotes octets) plain in
    let first = is_plain c parts.0 in
    rw (first.no_end, first.no_line_end, first.no_backslash, field_len-plain octets after parts.1 stop) (one-add (length octets))

take-first : (octets after : Octets) → take (length octets) (octets ++ after) ≡ octets
take-first [] after = refl
take-first (c ∷ octets) after = ap (λ others. c ∷ others) (take-first octets after)

drop-first : (octets after : Octets) → drop (length octets) (octets ++ after) ≡ after
drop-first [] after = refl
drop-first (c ∷ octets) after = drop-first octets after

drop-suc : (octets after : Octets) → drop (suc (length octets)) (octets ++ 34 ∷ after) ≡ after
drop-suc [] after = refl
drop-suc (c ∷ octets) after = drop-suc octets after

drop-quoted : (octets after : Octets) → drop (length octets + 1) (octets ++ 34 ∷ after) ≡ after
drop-quoted octets after =
    let one_more : length octets + 1 ≡ suc (length octets) = omega arith in
    ap (λ n. drop n (octets ++ 34 ∷ after)) one_more ∙ drop-suc octets after

pub quoted-plain : (octet : ℕ) (octets after : Octets) → list_any needs_quotes (octet ∷ octets) ≡ false → tokens 0 (34 ∷ octet ∷ octets ++ 34 ∷ after) ≡ field (octet ∷ octets) ∷ tokens 0 after
quoted-plain octet octets after plain =
    let whole : Octets = octet ∷ octets in
    (begins-quoted (whole ++ 34 ∷ after) after (length whole) (quoted_len-plain whole after plain) (omega (arith, length-append whole (34 ∷ after))) (sym (drop-quoted whole after))).spells
    ∙ ap (λ octets. field octets ∷ tokens 0 after) (take-first whole (34 ∷ after))

pub unquoted-plain : (octet : ℕ) (octets after : Octets) → list_any needs_quotes (octet ∷ octets) ≡ false → may_end_field after ≡ true → tokens 0 (octet ∷ octets ++ after) ≡ field (octet ∷ octets) ∷ tokens 0 after
unquoted-plain octet octets after plain stop =
    let parts = or_parts (needs_quotes octet) (list_any needs_quotes octets) plain in
    let first = is_plain octet parts.0 in
    let len : length octets ≡ field_len (nat_eq octet 92) (octets ++ after) = rw first.no_backslash (sym (field_len-plain octets after parts.1 stop)) in
    (begins-field (octet ∷ octets ++ after) (octets ++ after) (octet ∷ octets) after octet (length octets) refl first.no_end len
    (rw one-add (ap (λ others. octet ∷ others) (sym (take-first octets after)))) (rw one-add (sym (drop-first octets after)))).spells
