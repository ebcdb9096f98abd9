-- The parts of a text of a hostname's octets alone, or with a colon and digits.
use Rattle.std.proofs.Common.{◌≡◌, ℕ, Bool, true, false, ◌||◌, [], ◌∷◌, ◌++◌, Option, None, Some, refl, sym, ap, ◌∙◌, inl, inr, nat_eq, arith, eq-eqb, append-nil, length}
use Rattle.std.specs.Prelude.{count_by, nat_le}
use Rattle.std.specs.List.{list_all}
use Rattle.std.specs.Char.{is_ascii_digit}
use Rattle.std.proofs.lemmas.Bool.{cases_Bool, and_parts, and_from, or_left, eqb-true}
use Rattle.std.proofs.lemmas.Bool.Decides.{nat_tests}
use Rattle.std.proofs.lemmas.List.Folds.{list_all-append}
use Rattle.sipl_names.specs.Labels.{Octets}
use Rattle.sipl_names.specs.Hostnames.{is_hostname_octet}
use Rattle.sipl_records.specs.Parts.{split_once}
use Rattle.sipl_uri.specs.UriOctets.{is_uri_octet, is_free_octet}
use Rattle.sipl_uri.specs.UriParts.{Parts, parts_of, parts_of_hostport, split_port, after_userinfo, before_headers}
use Rattle.sipl_uri.specs.Uris.{has_allowed_octets}
use Rattle.sipl_uri.proofs.Octets.{hostname_param, param_free, of_hostname, digit_of_label}

-- an octet of a hostname, or a colon
abbrev pub is_plain_octet : ℕ → Bool
is_plain_octet c = is_hostname_octet c || nat_eq c 58

-- a number that fails a test is none that passes it
other_octet : (p : ℕ → Bool) (s c : ℕ) → p s ≡ false → p c ≡ true → nat_eq c s ≡ false
other_octet p s c fails passes = elim (cases_Bool (nat_eq c s)) [
  | inl same ↦ let never : false ≡ true = sym fails ∙ sym (ap p (eqb-true c s same)) ∙ passes in cc
  | inr other ↦ other
]

-- where no octet is the separator, all of the text is before it
split_once-absent : (p : ℕ → Bool) (s : ℕ) → p s ≡ false → (text : Octets) → list_all p text ≡ true → split_once s text ≡ (text, None)
split_once-absent p s fails [] all = refl
split_once-absent p s fails (c ∷ text) all =
    let both = and_parts (p c) (list_all p text) all in
    rw (other_octet p s c fails both.0, split_once-absent p s fails text both.1) refl

-- the text before the first separator
split_once-first : (p : ℕ → Bool) (s : ℕ) → p s ≡ false → (text after : Octets) → list_all p text ≡ true → split_once s (text ++ s ∷ after) ≡ (text, Some after)
split_once-first p s fails [] after all = rw (eq-eqb s s refl) refl
split_once-first p s fails (c ∷ text) after all =
    let both = and_parts (p c) (list_all p text) all in
    rw (other_octet p s c fails both.0, split_once-first p s fails text after both.1) refl

count_by-none : (p q : ℕ → Bool) → ((c : ℕ) → p c ≡ true → q c ≡ false) → (text : Octets) → list_all p text ≡ true → count_by q text ≡ 0
count_by-none p q none [] all = refl
count_by-none p q none (c ∷ text) all =
    let both = and_parts (p c) (list_all p text) all in
    rw (none c both.0, count_by-none p q none text both.1) refl

list_all-weaker : (p q : ℕ → Bool) → ((c : ℕ) → p c ≡ true → q c ≡ true) → (text : Octets) → list_all p text ≡ true → list_all q text ≡ true
list_all-weaker p q weaker [] all = refl
list_all-weaker p q weaker (c ∷ text) all =
    let both = and_parts (p c) (list_all p text) all in
    and_from (q c) (list_all q text) (weaker c both.0) (list_all-weaker p q weaker text both.1)

plain_is_allowed : (c : ℕ) → is_plain_octet c ≡ true → is_uri_octet c ≡ true
plain_is_allowed c is = grind (arith, nat_tests)

digit_is_plain : (c : ℕ) → is_ascii_digit c ≡ true → is_plain_octet c ≡ true
digit_is_plain c is = grind (arith, nat_tests)

hostname_is_plain : (c : ℕ) → is_hostname_octet c ≡ true → is_plain_octet c ≡ true
hostname_is_plain c is = or_left (is_hostname_octet c) (nat_eq c 58) is

-- such octets are allowed
pub has_allowed_octets-plain : (text : Octets) → list_all is_plain_octet text ≡ true → has_allowed_octets text ≡ true
has_allowed_octets-plain text all =
    and_from (list_all is_uri_octet text) (nat_le (count_by (λ c. nat_eq c 64) text) 1) (list_all-weaker is_plain_octet is_uri_octet plain_is_allowed text all)
    (rw (count_by-none is_plain_octet (λ c. nat_eq c 64) (λ c. other_octet is_plain_octet 64 c refl) text all) refl)

split_port-plain : (text : Octets) → list_all is_plain_octet text ≡ true → split_port text ≡ split_once 58 text
split_port-plain [] all = refl
split_port-plain (c ∷ text) all = rw (other_octet is_plain_octet 91 c refl (and_parts (is_plain_octet c) (list_all is_plain_octet text) all).0) refl

after_userinfo-plain : (text : Octets) → list_all is_plain_octet text ≡ true → after_userinfo text ≡ text
after_userinfo-plain text all = ap (λ (split : Octets × Option Octets). elim split.1 as (λ _. Octets) [ Some after ↦ after | None ↦ text ]) (split_once-absent is_plain_octet 64 refl text all)

abbrev without_params : Octets × Option Octets → Parts
without_params split = record { host = split.0; port = split.1; params = [] }

-- their host is before the first colon, and they have no parameters
parts_of-plain : (text : Octets) → list_all is_plain_octet text ≡ true → parts_of text ≡ without_params (split_once 58 text)
parts_of-plain text all =
    ap (λ (t : Octets). parts_of_hostport (split_once 59 (before_headers t))) (after_userinfo-plain text all)
    ∙ ap (λ (split : Octets × Option Octets). parts_of_hostport (split_once 59 split.0)) (split_once-absent is_plain_octet 63 refl text all)
    ∙ ap parts_of_hostport (split_once-absent is_plain_octet 59 refl text all)
    ∙ ap without_params (split_port-plain text all)

no_rest : (host rest : Octets) → nat_eq (length rest) 0 ≡ true → host ++ rest ≡ host
no_rest host [] e = append-nil host
no_rest host (c ∷ rest) e = absurd (omega (arith, eqb-true (length (c ∷ rest)) 0 e))

-- octets of a hostname alone
pub parts_of-hostname : (text host rest : Octets) → text ≡ host ++ rest → list_all is_hostname_octet host ≡ true → nat_eq (length rest) 0 ≡ true → (has_allowed_octets text ≡ true) × (parts_of text ≡ record { host = host; port = None; params = [] })
parts_of-hostname text host rest whole all empty =
    let same = whole ∙ no_rest host rest empty in
    let plain = list_all-weaker is_hostname_octet is_plain_octet hostname_is_plain host all in (
      ap has_allowed_octets same ∙ has_allowed_octets-plain host plain,
      ap parts_of same ∙ parts_of-plain host plain ∙ ap without_params (split_once-absent is_hostname_octet 58 refl host all),
    )

-- octets of a hostname with a colon and digits
pub parts_of-hostport : (text host rest digits : Octets) → text ≡ host ++ rest → rest ≡ 58 ∷ digits → list_all is_hostname_octet host ≡ true → list_all is_ascii_digit digits ≡ true → (has_allowed_octets text ≡ true) × (parts_of text ≡ record { host = host; port = Some digits; params = [] })
parts_of-hostport text host rest digits whole colon all all_digits =
    let same = whole ∙ ap (λ (r : Octets). host ++ r) colon in
    let plain : list_all is_plain_octet (host ++ 58 ∷ digits) ≡ true =
    list_all-append is_plain_octet host (58 ∷ digits)
    ∙ and_from _ _ (list_all-weaker is_hostname_octet is_plain_octet hostname_is_plain host all) (list_all-weaker is_ascii_digit is_plain_octet digit_is_plain digits all_digits) in (
      ap has_allowed_octets same ∙ has_allowed_octets-plain (host ++ 58 ∷ digits) plain,
      ap parts_of same ∙ parts_of-plain (host ++ 58 ∷ digits) plain ∙ ap without_params (split_once-first is_hostname_octet 58 refl host digits all),
    )

hostname_is_free : (c : ℕ) → is_hostname_octet c ≡ true → is_free_octet c ≡ true
hostname_is_free c is = param_free c (hostname_param c is)

digit_is_free : (c : ℕ) → is_ascii_digit c ≡ true → is_free_octet c ≡ true
digit_is_free c is = hostname_is_free c (of_hostname c (digit_of_label c is))

-- none of their octets is `@`
pub free-hostname : (text host rest : Octets) → text ≡ host ++ rest → list_all is_hostname_octet host ≡ true → nat_eq (length rest) 0 ≡ true → list_all is_free_octet text ≡ true
free-hostname text host rest whole all empty =
    ap (list_all is_free_octet) (whole ∙ no_rest host rest empty) ∙ list_all-weaker is_hostname_octet is_free_octet hostname_is_free host all

pub free-hostport : (text host rest digits : Octets) → text ≡ host ++ rest → rest ≡ 58 ∷ digits → list_all is_hostname_octet host ≡ true → list_all is_ascii_digit digits ≡ true → list_all is_free_octet text ≡ true
free-hostport text host rest digits whole colon all all_digits =
    ap (list_all is_free_octet) (whole ∙ ap (λ (r : Octets). host ++ r) colon) ∙ list_all-append is_free_octet host (58 ∷ digits)
    ∙ and_from _ _ (list_all-weaker is_hostname_octet is_free_octet hostname_is_free host all) (list_all-weaker is_ascii_digit is_free_octet digit_is_free digits all_digits)
