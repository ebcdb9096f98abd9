-- Octets of labels, hosts and URIs, and texts of such octets.
use Rattle.std.proofs.Common.{◌≡◌, ℕ, Bool, true, false, not, ◌&&◌, ◌||◌, [], ◌∷◌, suc, zero, ◌<◌, refl, sym, ap, subst, ◌∙◌, arith, inl, inr, nat_eq}
use Rattle.std.specs.List.{list_all}
use Rattle.std.specs.Char.{to_ascii_lowercase, is_ascii_digit, is_ascii_alphabetic, is_ascii_alphanumeric, is_ascii_graphic}
use Rattle.std.specs.Str.{str_to_ascii_lowercase, all_ascii_digits}
use Rattle.std.proofs.lemmas.Bool.{cases_Bool, cases_lt, and_parts, and_from, or_left, eqb-true}
use Rattle.std.proofs.lemmas.Bool.Decides.{nat_tests}
use Rattle.sipl_names.specs.Labels.{Octets}
use Rattle.sipl_names.specs.Hostnames.{is_label_octet, is_hostname_octet, begins_with_letter}
use Rattle.sipl_uri.specs.UriOctets.{is_uri_octet, is_free_octet, is_param_octet}

-- what one test says of each octet of a text, a weaker one says too
pub list_all-weaker : (p q : ℕ → Bool) → ((c : ℕ) → p c ≡ true → q c ≡ true) → (text : Octets) → list_all p text ≡ true → list_all q text ≡ true
list_all-weaker p q weaker [] all = refl
list_all-weaker p q weaker (c ∷ text) all =
    let parts = and_parts (p c) (list_all p text) all in
    and_from (q c) (list_all q text) (weaker c parts.0) (list_all-weaker p q weaker text parts.1)

-- whether each number below this one that passes the first test passes the second
abbrev pub implies_below : ℕ → (ℕ → Bool) → (ℕ → Bool) → Bool
implies_below zero p q = true
implies_below (suc n) p q = (not (p n) || q n) && implies_below n p q

implied_here : (a b : Bool) → (not a || b) ≡ true → a ≡ true → b ≡ true
implied_here true b e a_true = e
implied_here false b e a_true = cc

pub implied : (n : ℕ) (p q : ℕ → Bool) → implies_below n p q ≡ true → (c : ℕ) → c < n → p c ≡ true → q c ≡ true
implied zero p q e c below = absurd (omega arith)
implied (suc n) p q e c below =
    let parts = and_parts (not (p n) || q n) (implies_below n p q) e in
    elim (cases_lt c n) [
      | inl under ↦ implied n p q parts.1 c under
      | inr past ↦
          let here : n ≡ c = omega arith in
          subst (λ (k : ℕ). p k ≡ true → q k ≡ true) here (implied_here (p n) (q n) parts.0)
    ]

-- an octet of a hostname is one of ASCII
pub small : (c : ℕ) → is_hostname_octet c ≡ true → c < 128
small c host = grind (arith, nat_tests)

pub hostname_param : (c : ℕ) → is_hostname_octet c ≡ true → is_param_octet c ≡ true
hostname_param c host = implied 128 is_hostname_octet is_param_octet refl c (small c host) host

pub no_colon : (c : ℕ) → is_hostname_octet c ≡ true → not (nat_eq c 58) ≡ true
no_colon c host = implied 128 is_hostname_octet (λ k. not (nat_eq k 58)) refl c (small c host) host

pub no_bracket : (c : ℕ) → is_hostname_octet c ≡ true → nat_eq c 91 ≡ false
no_bracket c host = elim (cases_Bool (nat_eq c 91)) [
  | inl is ↦ let absent : false ≡ true = sym (ap is_hostname_octet (eqb-true c 91 is)) ∙ host in cc
  | inr other ↦ other
]

-- an octet of a hostname begins no escape
pub no_backslash : (c : ℕ) → is_hostname_octet c ≡ true → nat_eq c 92 ≡ false
no_backslash c host = elim (cases_Bool (nat_eq c 92)) [
  | inl is ↦ let absent : false ≡ true = sym (ap is_hostname_octet (eqb-true c 92 is)) ∙ host in cc
  | inr other ↦ other
]

-- an octet of a label is one of a hostname, and is neither a dot nor `@`
pub of_hostname : (c : ℕ) → is_label_octet c ≡ true → is_hostname_octet c ≡ true
of_hostname c label = or_left (is_label_octet c) _ label

pub no_dot : (c : ℕ) → is_label_octet c ≡ true → nat_eq c 46 ≡ false
no_dot c label = elim (cases_Bool (nat_eq c 46)) [
  | inl is ↦ let absent : false ≡ true = sym (ap is_label_octet (eqb-true c 46 is)) ∙ label in cc
  | inr other ↦ other
]

pub no_at : (c : ℕ) → is_label_octet c ≡ true → nat_eq c 64 ≡ false
no_at c label = elim (cases_Bool (nat_eq c 64)) [
  | inl is ↦ let absent : false ≡ true = sym (ap is_label_octet (eqb-true c 64 is)) ∙ label in cc
  | inr other ↦ other
]

without_dot : (x y : Bool) → (x || (y || false)) ≡ true → y ≡ false → x ≡ true
without_dot true y e none = refl
without_dot false true e none = cc
without_dot false false e none = e

-- an octet of a hostname that is not a dot is one of a label
pub of_label : (c : ℕ) → is_hostname_octet c ≡ true → nat_eq c 46 ≡ false → is_label_octet c ≡ true
of_label c host other = without_dot (is_label_octet c) (nat_eq c 46) host other

-- digits are octets of labels, and no letters
pub digit_of_label : (c : ℕ) → is_ascii_digit c ≡ true → is_label_octet c ≡ true
digit_of_label c digit = or_left (is_ascii_alphanumeric c) _ (or_left _ _ (or_left _ _ digit))

pub digits_of_hostname : (text : Octets) → all_ascii_digits text ≡ true → list_all is_hostname_octet text ≡ true
digits_of_hostname [] all = refl
digits_of_hostname (c ∷ text) all =
    let parts = and_parts (is_ascii_digit c) (all_ascii_digits text) all in
    and_from _ _ (of_hostname c (digit_of_label c parts.0)) (digits_of_hostname text parts.1)

-- an octet of a URI is one of ASCII
small_uri : (c : ℕ) → is_uri_octet c ≡ true → c < 128
small_uri c uri =
    let graphic = (and_parts (is_ascii_graphic c) _ uri).0 in
    grind (arith, nat_tests)

small_free : (c : ℕ) → is_free_octet c ≡ true → c < 128
small_free c free = small_uri c (and_parts (is_uri_octet c) _ free).0

small_param : (c : ℕ) → is_param_octet c ≡ true → c < 128
small_param c param = small_uri c (and_parts (is_uri_octet c) _ param).0

-- an octet of user information or headers is one of a URI other than `@`
pub free_uri : (c : ℕ) → is_free_octet c ≡ true → is_uri_octet c ≡ true
free_uri c free = (and_parts (is_uri_octet c) _ free).0

pub free_no_at : (c : ℕ) → is_free_octet c ≡ true → not (nat_eq c 64) ≡ true
free_no_at c free = implied 128 is_free_octet (λ k. not (nat_eq k 64)) refl c (small_free c free) free

pub uri_free : (c : ℕ) → (is_uri_octet c && not (nat_eq c 64)) ≡ true → is_free_octet c ≡ true
uri_free c both = implied 128 (λ k. is_uri_octet k && not (nat_eq k 64)) is_free_octet refl c (small_uri c (and_parts (is_uri_octet c) _ both).0) both

-- an octet of a parameter is one of user information, and no other delimiter
pub param_free : (c : ℕ) → is_param_octet c ≡ true → is_free_octet c ≡ true
param_free c param = implied 128 is_param_octet is_free_octet refl c (small_param c param) param

pub param_no_semicolon : (c : ℕ) → is_param_octet c ≡ true → not (nat_eq c 59) ≡ true
param_no_semicolon c param = implied 128 is_param_octet (λ k. not (nat_eq k 59)) refl c (small_param c param) param

pub param_no_question : (c : ℕ) → is_param_octet c ≡ true → not (nat_eq c 63) ≡ true
param_no_question c param = implied 128 is_param_octet (λ k. not (nat_eq k 63)) refl c (small_param c param) param

pub free_param : (c : ℕ) → ((is_free_octet c && not (nat_eq c 63)) && not (nat_eq c 59)) ≡ true → is_param_octet c ≡ true
free_param c each =
    let free = (and_parts (is_free_octet c) _ (and_parts (is_free_octet c && not (nat_eq c 63)) _ each).0).0 in
    implied 128 (λ k. (is_free_octet k && not (nat_eq k 63)) && not (nat_eq k 59)) is_param_octet refl c (small_free c free) each

-- what two tests say of each octet of a text, their conjunction says
pub list_all-both : (p q : ℕ → Bool) (text : Octets) → list_all p text ≡ true → list_all q text ≡ true → list_all (λ c. p c && q c) text ≡ true
list_all-both p q [] all others = refl
list_all-both p q (c ∷ text) all others =
    let first = and_parts (p c) (list_all p text) all in
    let second = and_parts (q c) (list_all q text) others in
    and_from _ _ (and_from _ _ first.0 second.0) (list_all-both p q text first.1 second.1)

-- letters are letters in lower case
letter-lower : (c : ℕ) → is_ascii_alphabetic (to_ascii_lowercase c) ≡ is_ascii_alphabetic c
letter-lower c = grind (arith, nat_tests)

pub begins_with_letter-lower : (label : Octets) → begins_with_letter (str_to_ascii_lowercase label) ≡ begins_with_letter label
begins_with_letter-lower [] = refl
begins_with_letter-lower (c ∷ label) = letter-lower c

-- a text has no colon where it has none in lower case
colon-lower : (c : ℕ) → not (nat_eq (to_ascii_lowercase c) 58) ≡ true → not (nat_eq c 58) ≡ true
colon-lower c none = elim (cases_Bool (nat_eq c 58)) [
  | inl is ↦ let absent : false ≡ true = sym (ap (λ k. not (nat_eq (to_ascii_lowercase k) 58)) (eqb-true c 58 is)) ∙ none in cc
  | inr other ↦ ap not other
]

pub no_colons-lower : (text : Octets) → list_all (λ c. not (nat_eq c 58)) (str_to_ascii_lowercase text) ≡ true → list_all (λ c. not (nat_eq c 58)) text ≡ true
no_colons-lower [] all = refl
no_colons-lower (c ∷ text) all =
    let parts = and_parts (not (nat_eq (to_ascii_lowercase c) 58)) (list_all (λ c. not (nat_eq c 58)) (str_to_ascii_lowercase text)) all in
    and_from _ _ (colon-lower c parts.0) (no_colons-lower text parts.1)
