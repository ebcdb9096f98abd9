-- A printed address reads back.
use Rattle.std.proofs.Common.{◌≡◌, ℕ, ◌/◌, ◌%◌, ◌^◌, ◌<◌, ◌≤◌, true, false, List, [], ◌∷◌, ◌++◌, length, map, Some, refl, arith, nat_eq, nat_le, decimal, append_assoc}
use native.Mathlib.Nat.{div-div-eq-div-mul}
use Rattle.std.specs.Str.{all_ascii_digits}
use Rattle.std.specs.Str.Parse.{digits_value}
use Rattle.std.specs.Char.{is_ascii_digit}
use Rattle.std.proofs.lemmas.Bool.Decides.{nat_tests}
use Rattle.std.proofs.lemmas.Fmt.{decimal_is_IsNumeral, digits_decimal, decimal_nonempty}
use Rattle.std.proofs.lemmas.Str.Parse.{numerals_by_value, tells_all_ascii_digits}
use Rattle.sipl_records.specs.Parts.{parts}
use Rattle.sipl_records.specs.Ipv4.{group_of, four_groups, number_of_four, number_of_text, text_of_number}
use Rattle.sipl_records.proofs.Groups.{digit_before, digit_no_dot}
use Rattle.sipl_records.proofs.Dotted.{octet_digits}

-- digits hold no dot, so they are a part of their own
parts-digits : (digits rest : List ℕ) → all_ascii_digits digits ≡ true → parts 46 (digits ++ 46 ∷ rest) ≡ digits ∷ parts 46 rest
parts-digits [] rest all = refl
parts-digits (c ∷ digits) rest all =
    let both = digit_before (is_ascii_digit c) (all_ascii_digits digits) all in
    let other : nat_eq c 46 ≡ false = digit_no_dot c both.0 in
    let more : parts 46 (digits ++ 46 ∷ rest) ≡ digits ∷ parts 46 rest = parts-digits digits rest both.1 in
    rw (other, more) refl

parts-last_digits : (digits : List ℕ) → all_ascii_digits digits ≡ true → parts 46 digits ≡ digits ∷ []
parts-last_digits [] all = refl
parts-last_digits (c ∷ digits) all =
    let both = digit_before (is_ascii_digit c) (all_ascii_digits digits) all in
    let other : nat_eq c 46 ≡ false = digit_no_dot c both.0 in
    let more : parts 46 digits ≡ digits ∷ [] = parts-last_digits digits both.1 in
    rw (other, more) refl

-- a printed number is digits
digits_of_decimal : (n : ℕ) → n < 256 → all_ascii_digits (decimal n) ≡ true
digits_of_decimal n small = digits_decimal (numerals_by_value (λ ds. all_ascii_digits ds ≡ true) tells_all_ascii_digits) n (omega arith)

-- a printed octet is its group
group_of-decimal : (n : ℕ) → n < 256 → group_of (decimal n) ≡ Some n
group_of-decimal n small =
    let value : digits_value 10 (decimal n) ≡ n = (decimal_is_IsNumeral n (omega arith)).1 in
    let all : all_ascii_digits (decimal n) ≡ true = digits_of_decimal n small in
    let some : 0 < length (decimal n) = decimal_nonempty n (omega arith) in
    let three : length (decimal n) ≤ 3 = octet_digits n small in
    let enough : nat_le 1 (length (decimal n)) ≡ true = grind (arith, nat_tests) in
    let few : nat_le (length (decimal n)) 3 ≡ true = grind (arith, nat_tests) in
    let low : nat_le n 255 ≡ true = grind (arith, nat_tests) in
    rw (all, value, enough, few, low) refl

-- the octets of a number are the number
number_of_four-octets : (n : ℕ) → number_of_four (n / 16777216) (n / 65536 % 256) (n / 256 % 256) (n % 256) ≡ n
number_of_four-octets n = omega (arith, div-div-eq-div-mul n 256 256, div-div-eq-div-mul n 65536 256)

-- four printed octets are four groups
four_groups-printed : (a b c d : ℕ) → a < 256 → b < 256 → c < 256 → d < 256 → four_groups (map group_of (parts 46 (decimal a ++ 46 ∷ decimal b ++ 46 ∷ decimal c ++ 46 ∷ decimal d))) ≡ Some (number_of_four a b c d)
four_groups-printed a b c d ha hb hc hd =
    let flat : decimal a ++ 46 ∷ decimal b ++ 46 ∷ decimal c ++ 46 ∷ decimal d ≡ decimal a ++ 46 ∷ (decimal b ++ 46 ∷ (decimal c ++ 46 ∷ decimal d)) = simp append_assoc in
    rw (flat, parts-digits (decimal a) (decimal b ++ 46 ∷ (decimal c ++ 46 ∷ decimal d)) (digits_of_decimal a ha), parts-digits (decimal b) (decimal c ++ 46 ∷ decimal d) (digits_of_decimal b hb), parts-digits (decimal c) (decimal d) (digits_of_decimal c hc), parts-last_digits (decimal d) (digits_of_decimal d hd), group_of-decimal a ha, group_of-decimal b hb, group_of-decimal c hc, group_of-decimal d hd) refl

-- a printed IPv4 address reads back to itself
pub number_of_text-text_of : (n : ℕ) → n < 2 ^ 32 → number_of_text (text_of_number n) ≡ Some n
number_of_text-text_of n small =
    rw (four_groups-printed (n / 16777216) (n / 65536 % 256) (n / 256 % 256) (n % 256) (omega arith) (omega arith) (omega arith) (omega arith), number_of_four-octets n) refl
