-- Groups of IPv4 addresses.
use Rattle.std.proofs.Common.{◌≡◌, ℕ, ◌+◌, ◌*◌, ◌-◌, ◌^◌, ◌<◌, ◌≤◌, suc, zero, Bool, true, false, ◌&&◌, List, [], ◌∷◌, ◌++◌, length, map, Option, None, Some, get_or, take, drop, refl, sym, ap, ◌∙◌, arith, add-one, nat_eq, nat_le}
use native.Mathlib.Nat.{pow-suc}
use Rattle.std.specs.Prelude.{option_map}
use Rattle.std.specs.Str.{all_ascii_digits}
use Rattle.std.specs.Str.Parse.{digits_value}
use Rattle.std.specs.Char.{is_ascii_digit, digit_value}
use Rattle.std.proofs.Math.Bool.{and-false}
use Rattle.std.proofs.lemmas.Bool.Decides.{nat_tests}
use Rattle.std.proofs.lemmas.Grind.{common_steps}
use Rattle.std.proofs.lemmas.Int.Digits.{digits_value_more}
use Rattle.std.proofs.lemmas.List.{length-map}
use Rattle.sipl_records.specs.Parts.{parts, split_once}
use Rattle.sipl_records.specs.Ipv4.{group_of, four_groups, number_of_four, HasNoGroupBeforeDot}
use Rattle.sipl_records.proofs.Parts.{parts-Some, parts-None, split_once-whole, length-parts}

-- a text with an octet that is not a digit
pub all_ascii_digits-other : (digits : List ℕ) (i : ℕ) → i < length digits → is_ascii_digit (get_or digits i 0) ≡ false → all_ascii_digits digits ≡ false
all_ascii_digits-other [] i within other = absurd (omega arith)
all_ascii_digits-other (c ∷ digits) zero within other = rw other refl
all_ascii_digits-other (c ∷ digits) (suc i) within other =
    let rest : all_ascii_digits digits ≡ false = all_ascii_digits-other digits i (omega arith) other in
    rw rest (and-false (is_ascii_digit c))

-- a digit, and digits after it
pub digit_before : (a b : Bool) → (a && b) ≡ true → (a ≡ true) × (b ≡ true)
digit_before true b e = (refl, e)
digit_before false b e = cc

-- one digit more
pub all_ascii_digits-take : (digits : List ℕ) (i : ℕ) → i < length digits → all_ascii_digits (take i digits) ≡ true → is_ascii_digit (get_or digits i 0) ≡ true → all_ascii_digits (take (suc i) digits) ≡ true
all_ascii_digits-take [] i within front here = absurd (omega arith)
all_ascii_digits-take (c ∷ digits) zero within front here = rw here refl
all_ascii_digits-take (c ∷ digits) (suc i) within front here =
    let both : (is_ascii_digit c ≡ true) × (all_ascii_digits (take i digits) ≡ true) = digit_before (is_ascii_digit c) (all_ascii_digits (take i digits)) front in
    rw (both.0, all_ascii_digits-take digits i (omega arith) both.1 here) refl

-- such a text is not a group
pub group_of-other : (digits : List ℕ) (i : ℕ) → i < length digits → is_ascii_digit (get_or digits i 0) ≡ false → group_of digits ≡ None
group_of-other digits i within other =
    let none : all_ascii_digits digits ≡ false = all_ascii_digits-other digits i within other in
    rw (none, and-false (nat_le 1 (length digits) && nat_le (length digits) 3)) refl

-- ten times as much for one digit more
pub pow_ten : (n : ℕ) → 10 ^ (n + 1) ≡ 10 ^ n * 10
pow_ten n = rw add-one (pow-suc 10 n)

-- what a digit is worth
digit_value-digit : (c : ℕ) → is_ascii_digit c ≡ true → digit_value c ≡ c - 48
digit_value-digit c digit = grind (arith, nat_tests)

-- one digit more, in the value
pub digits_value-digit : (digits : List ℕ) (i : ℕ) → i < length digits → is_ascii_digit (get_or digits i 0) ≡ true → digits_value 10 (take (i + 1) digits) ≡ digits_value 10 (take i digits) * 10 + (get_or digits i 0 - 48)
digits_value-digit digits i within here =
    digits_value_more 10 digits i within ∙ ap (λ d. digits_value 10 (take i digits) * 10 + d) (digit_value-digit (get_or digits i 0) here)

-- a dot is not a digit
pub digit_no_dot : (c : ℕ) → is_ascii_digit c ≡ true → nat_eq c 46 ≡ false
digit_no_dot c digit = grind (arith, nat_tests)

-- the last group, with no group after it
last_of_one : (a b c : ℕ) (last : Option ℕ) → four_groups (Some a ∷ Some b ∷ Some c ∷ last ∷ []) ≡ option_map (number_of_four a b c) last
last_of_one a b c (Some d) = refl
last_of_one a b c None = refl

-- five groups are too many
too_many : (a b c : ℕ) (next : Option ℕ) (more : List (Option ℕ)) → 1 ≤ length more → four_groups (Some a ∷ Some b ∷ Some c ∷ next ∷ more) ≡ None
too_many a b c None more some = refl
too_many a b c (Some d) [] some = absurd (omega arith)
too_many a b c (Some d) (e ∷ more) some = refl

-- a text with a dot is not a group
all_ascii_digits-dot : (before rest : List ℕ) → all_ascii_digits (before ++ 46 ∷ rest) ≡ false
all_ascii_digits-dot [] rest = refl
all_ascii_digits-dot (c ∷ before) rest = rw (all_ascii_digits-dot before rest) (and-false (is_ascii_digit c))

group_of-dot : (text before rest : List ℕ) → text ≡ before ++ 46 ∷ rest → group_of text ≡ None
group_of-dot text before rest whole =
    let other : all_ascii_digits text ≡ false = ap all_ascii_digits whole ∙ all_ascii_digits-dot before rest in
    rw (other, and-false (nat_le 1 (length text) && nat_le (length text) 3)) refl

last_by_rest : (a b c : ℕ) (text : List ℕ) (rest : Option (List ℕ)) → (split_once 46 text).1 ≡ rest → four_groups (Some a ∷ Some b ∷ Some c ∷ map group_of (parts 46 text)) ≡ option_map (number_of_four a b c) (group_of text)
last_by_rest a b c text None none = rw (parts-None 46 text none) (last_of_one a b c (group_of text))
last_by_rest a b c text (Some rest) found =
    let more : 1 ≤ length (map group_of (parts 46 rest)) = rw length-map (length-parts 46 rest) in
    rw (parts-Some 46 text rest found, group_of-dot text (split_once 46 text).0 rest (split_once-whole 46 text rest found)) (too_many a b c (group_of (split_once 46 text).0) (map group_of (parts 46 rest)) more)

-- three groups, and a text that has to be the last one
pub four_groups-last : (a b c : ℕ) (text : List ℕ) → four_groups (Some a ∷ Some b ∷ Some c ∷ map group_of (parts 46 text)) ≡ option_map (number_of_four a b c) (group_of text)
four_groups-last a b c text = last_by_rest a b c text (split_once 46 text).1 refl

one_part : (last : Option ℕ) → HasNoGroupBeforeDot (last ∷ [])
one_part (Some a) = tt
one_part None = tt

-- a text without a dot has no group before one
pub lacks_dot : (text : List ℕ) → (split_once 46 text).1 ≡ None → HasNoGroupBeforeDot (map group_of (parts 46 text))
lacks_dot text none = rw (parts-None 46 text none) (one_part (group_of text))

-- nor has one whose first part is not a group
pub lacks_group : (text rest : List ℕ) → (split_once 46 text).1 ≡ Some rest → group_of (split_once 46 text).0 ≡ None → HasNoGroupBeforeDot (map group_of (parts 46 text))
lacks_group text rest found bad = rw (parts-Some 46 text rest found, bad) tt

-- the group before the first dot, and those after it
pub groups-Some : (text rest : List ℕ) (octet : ℕ) → (split_once 46 text).1 ≡ Some rest → group_of (split_once 46 text).0 ≡ Some octet → map group_of (parts 46 text) ≡ Some octet ∷ map group_of (parts 46 rest)
groups-Some text rest octet found good = rw (parts-Some 46 text rest found, good) refl

-- the rest of a list, by its length
pub rest_whole : (s : List ℕ) (n : ℕ) → take (length s - n) (drop n s) ≡ drop n s
rest_whole s n = grind (arith, common_steps)

-- the number of three groups that were read, and of the text after them
pub four_groups_read : (a b c : ℕ) (s t u v : List ℕ) (last : Option ℕ) → map group_of (parts 46 s) ≡ Some a ∷ map group_of (parts 46 t) → map group_of (parts 46 t) ≡ Some b ∷ map group_of (parts 46 u) → map group_of (parts 46 u) ≡ Some c ∷ map group_of (parts 46 v) → last ≡ group_of v → option_map (number_of_four a b c) last ≡ four_groups (map group_of (parts 46 s))
four_groups_read a b c s t u v last first second third fourth =
    rw (fourth, first, second, third) (sym (four_groups-last a b c v))

-- what a loop over digits knows of the first ones
pub record HasRead (digits : List ℕ) (i value : ℕ) : Type 0 where
  pub is : value ≡ digits_value 10 (take i digits)
  pub all : all_ascii_digits (take i digits) ≡ true
  pub below : value < 10 ^ i

-- and of one more
pub read_more : (digits : List ℕ) (i value d : ℕ) → HasRead digits i value → i < length digits → is_ascii_digit (get_or digits i 0) ≡ true → d ≡ get_or digits i 0 - 48 → HasRead digits (i + 1) (value * 10 + d)
read_more digits i value d known within here worth =
    let low : d ≤ 9 = grind (arith, nat_tests) in
    record {
      is = ap (λ v. v * 10 + d) known.is ∙ ap (λ w. digits_value 10 (take i digits) * 10 + w) worth ∙ sym (digits_value-digit digits i within here);
      all = rw add-one (all_ascii_digits-take digits i within known.all here);
      below = rw pow_ten (omega (arith, known.below));
    }
