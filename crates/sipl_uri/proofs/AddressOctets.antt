-- The octets that addresses are written with.
use Rattle.std.proofs.Common.{◌≡◌, ℕ, ◌<◌, Bool, true, false, ◌&&◌, ◌||◌, List, [], ◌∷◌, ◌++◌, length, map, Option, Some, None, if◌then◌else◌, refl, sym, ap, ◌∙◌, arith, inl, inr, nat_eq, is_some}
use Rattle.std.specs.Prelude.{codes, not, nat_le}
use Rattle.std.specs.List.{list_all}
use Rattle.std.specs.Char.{is_ascii_digit, is_digit, digit_value}
use Rattle.std.specs.Str.{all_ascii_digits}
use Rattle.std.specs.Str.Parse.{AllDigits, digits_value}
use Rattle.std.proofs.lemmas.Bool.{cases_Bool, and_parts, and_from, and_left, and_right, or_left, or_right, cond-false, lt-ltb}
use Rattle.std.proofs.lemmas.Bool.Decides.{nat_tests}
use Rattle.std.proofs.lemmas.List.Folds.{list_all-append}
use Rattle.sipl_names.specs.Labels.{Octets}
use Rattle.sipl_records.specs.Ipv4.{group_of, four_groups, number_of_text}
use Rattle.sipl_records.specs.Ipv6.{address6_of_text}
use Rattle.sipl_records.specs.Ipv6Grammar.{IsIpv4Groups, IsGroupsAfter, IsAddress6Groups}
use Rattle.sipl_records.specs.Parts.{prepend_to_first, parts}
use Rattle.sipl_records.proofs.Public.{address6_of_text-sound}
use Rattle.sipl_uri.specs.UriOctets.{is_param_octet}
use Rattle.sipl_uri.proofs.Octets.{list_all-weaker, implied}

-- what an IPv4 address is written with
abbrev pub is_address_octet : ℕ → Bool
is_address_octet c = is_ascii_digit c || nat_eq c 46

group_digits : (text : Octets) → is_some (group_of text) ≡ true → all_ascii_digits text ≡ true
group_digits text read = elim (cases_Bool (all_ascii_digits text)) [
  | inl all ↦ all
  | inr other ↦
      let none : group_of text ≡ None = cond-false (nat_le 1 (length text) && nat_le (length text) 3 && all_ascii_digits text && nat_le (digits_value 10 text) 255) (Some (digits_value 10 text)) None (and_left _ _ (and_right _ _ other)) in
      let absent : false ≡ true = sym (ap is_some none) ∙ read in
      cc
]

groups_digits : (texts : List Octets) → list_all is_some (map group_of texts) ≡ true → list_all all_ascii_digits texts ≡ true
groups_digits [] all = refl
groups_digits (text ∷ texts) all =
    let both = and_parts (is_some (group_of text)) (list_all is_some (map group_of texts)) all in
    and_from _ _ (group_digits text both.0) (groups_digits texts both.1)

four : (groups : List (Option ℕ)) (n : ℕ) → four_groups groups ≡ Some n → list_all is_some groups ≡ true
four (Some a ∷ Some b ∷ Some c ∷ Some d ∷ []) n e = refl
four _ n e = cc

first_part : (c : ℕ) (texts : List Octets) → list_all all_ascii_digits (prepend_to_first c texts) ≡ true → (is_ascii_digit c ≡ true) × (list_all all_ascii_digits texts ≡ true)
first_part c [] all = let both = and_parts (is_ascii_digit c && true) true all in ((and_parts (is_ascii_digit c) true both.0).0, refl)
first_part c (text ∷ texts) all =
    let both = and_parts (is_ascii_digit c && all_ascii_digits text) (list_all all_ascii_digits texts) all in
    let first = and_parts (is_ascii_digit c) (all_ascii_digits text) both.0 in
    (first.0, and_from _ _ first.1 both.1)

next_octet : (c : ℕ) (here : Bool) (texts : List Octets) → nat_eq c 46 ≡ here → list_all all_ascii_digits (if here then [] ∷ texts else prepend_to_first c texts) ≡ true → (is_address_octet c ≡ true) × (list_all all_ascii_digits texts ≡ true)
next_octet c true texts e all = ((or_right (is_ascii_digit c) (nat_eq c 46) e), all)
next_octet c false texts e all = let both = first_part c texts all in (or_left (is_ascii_digit c) (nat_eq c 46) both.0, both.1)

parts_octets : (text : Octets) → list_all all_ascii_digits (parts 46 text) ≡ true → list_all is_address_octet text ≡ true
parts_octets [] all = refl
parts_octets (c ∷ text) all =
    let both = next_octet c (nat_eq c 46) (parts 46 text) refl all in
    and_from _ _ both.0 (parts_octets text both.1)

-- an IPv4 address is written with digits and dots
pub address_octets : (text : Octets) (n : ℕ) → number_of_text text ≡ Some n → list_all is_address_octet text ≡ true
address_octets text n e = parts_octets text (groups_digits (parts 46 text) (four (map group_of (parts 46 text)) n e))

-- what an IPv6 address is written with
abbrev pub is_address6_octet : ℕ → Bool
is_address6_octet c = is_digit c 16 || (is_ascii_digit c || (nat_eq c 46 || nat_eq c 58))

of_address : (c : ℕ) → is_address_octet c ≡ true → is_address6_octet c ≡ true
of_address c is = elim (cases_Bool (is_ascii_digit c)) [
  | inl digit ↦ or_right _ _ (or_left _ _ digit)
  | inr other ↦ or_right _ _ (or_right _ _ (or_left (nat_eq c 46) (nat_eq c 58) (sym (ap (λ (b : Bool). b || nat_eq c 46) other) ∙ is)))
]

hex_octets : (text : Octets) → AllDigits 16 text → list_all is_address6_octet text ≡ true
hex_octets [] all = refl
hex_octets (c ∷ text) all = and_from _ _ (or_left _ _ (lt-ltb (digit_value c) 16 all.0)) (hex_octets text all.1)

ipv4_groups_octets : (text : Octets) (groups : List ℕ) → IsIpv4Groups text groups → list_all is_address6_octet text ≡ true
ipv4_groups_octets text groups is = list_all-weaker is_address_octet is_address6_octet of_address text (address_octets text is.number is.is)

groups_octets : (lead : Octets) (ipv4 : Bool) (text : Octets) (groups : List ℕ) → list_all is_address6_octet lead ≡ true → IsGroupsAfter lead ipv4 text groups → list_all is_address6_octet text ≡ true
groups_octets lead ipv4 text [] all is = ap (list_all is_address6_octet) is
groups_octets lead ipv4 text (group ∷ groups) all (inl is) =
    ap (list_all is_address6_octet) is.2
    ∙ (list_all-append is_address6_octet lead (is.0 ++ is.1)
    ∙ and_from _ _ all (list_all-append is_address6_octet is.0 is.1 ∙ and_from _ _ (hex_octets is.0 is.3.digits.1) (groups_octets (codes ":") ipv4 is.1 groups refl is.4)))
groups_octets lead ipv4 text (group ∷ groups) all (inr is) =
    ap (list_all is_address6_octet) is.2 ∙ (list_all-append is_address6_octet lead is.0 ∙ and_from _ _ all (ipv4_groups_octets is.0 (group ∷ groups) is.3))

eight_octets : (text : Octets) (groups : List ℕ) → IsAddress6Groups text groups → list_all is_address6_octet text ≡ true
eight_octets text groups (inl full) = groups_octets [] true text groups refl full.written
eight_octets text groups (inr elided) =
    ap (list_all is_address6_octet) elided.written
    ∙ (list_all-append is_address6_octet elided.left_text (codes "::" ++ elided.right_text)
    ∙ and_from _ _ (groups_octets [] false elided.left_text elided.left refl elided.left_written) (groups_octets [] true elided.right_text elided.right refl elided.right_written))

-- an IPv6 address is written with hexadecimal digits, colons and dots
pub address6_octets : (text : Octets) (n : ℕ) → address6_of_text text ≡ Some n → list_all is_address6_octet text ≡ true
address6_octets text n e =
    let is = address6_of_text-sound text n e in
    eight_octets text is.groups is.written

small6 : (c : ℕ) → is_address6_octet c ≡ true → c < 128
small6 c is = grind (arith, nat_tests)

-- so it is written with octets of parameters, and has no `]`
pub address6_param : (c : ℕ) → is_address6_octet c ≡ true → is_param_octet c ≡ true
address6_param c is = implied 128 is_address6_octet is_param_octet refl c (small6 c is) is

pub address6_no_bracket : (c : ℕ) → is_address6_octet c ≡ true → not (nat_eq c 93) ≡ true
address6_no_bracket c is = implied 128 is_address6_octet (λ k. not (nat_eq k 93)) refl c (small6 c is) is
