-- Durations, cut at the octets that are not digits.
use Rattle.std.proofs.Common.{◌≡◌, ℕ, zero, suc, ◌+◌, ◌-◌, ◌*◌, ◌<◌, ◌≤◌, Bool, true, false, not, ◌&&◌, [], ◌∷◌, Option, Some, None, length, take, drop, get_or, refl, sym, ap, ◌∙◌, arith, add-one, option_map, nat_le, nat_lt, if◌then◌else◌}
use Rattle.std.specs.Prelude.{IfSome}
use Rattle.std.specs.Char.{is_ascii_digit}
use Rattle.std.specs.List.{position, position_or_len}
use Rattle.std.specs.Option.{option_and_then}
use Rattle.std.specs.Str.{all_ascii_digits}
use Rattle.std.specs.Str.Parse.{digits_value}
use Rattle.std.proofs.lemmas.Bool.Decides.{nat_tests}
use Rattle.std.proofs.lemmas.List.Sums.{fails_before_first, passes_at_first}
use Rattle.std.proofs.lemmas.List.{take_rest}
use Rattle.std.proofs.Math.Nat.{mul-le-mul, mul-le-mul_left}
use Rattle.sipl_names.specs.Labels.{Octets}
use Rattle.sipl_records.specs.Numbers.{number_of}
use Rattle.sipl_masterfile.specs.Ttl.{unit_of, prepend_digit, durations, sum_of, BeginsWithDuration}

-- whether an octet is not a digit
abbrev pub is_other : ℕ → Bool
is_other c = not (is_ascii_digit c)

not_true : (b : Bool) → not b ≡ true → b ≡ false
not_true true h = absurd cc
not_true false h = refl

not_false : (b : Bool) → not b ≡ false → b ≡ true
not_false true h = refl
not_false false h = absurd cc

-- the first octet that is not a digit ends the first duration
durations_at : (text : Octets) (end : ℕ) → end < length text → ((k : ℕ) → k < end → is_ascii_digit (get_or text k 0) ≡ true) → is_ascii_digit (get_or text end 0) ≡ false → (durations text ≡ (take end text, Some (get_or text end 0)) ∷ durations (drop (suc end) text)) × (all_ascii_digits (take end text) ≡ true)
durations_at [] end within digits other = absurd (omega arith)
durations_at (c ∷ text) zero within digits other = (rw other refl, refl)
durations_at (c ∷ text) (suc end) within digits other =
    let here : is_ascii_digit c ≡ true = digits 0 (omega arith) in
    let rest = durations_at text end (omega arith) (λ k h. digits (suc k) (omega arith)) other in
    (rw here (ap (prepend_digit c) rest.0), rw here rest.1)

-- digits that no unit follows
durations_of_digits : (text : Octets) → 0 < length text → ((k : ℕ) → k < length text → is_ascii_digit (get_or text k 0) ≡ true) → durations text ≡ (text, None) ∷ []
durations_of_digits [] some digits = absurd (omega arith)
durations_of_digits (c ∷ []) some digits = rw (digits 0 (omega arith)) refl
durations_of_digits (c ∷ next ∷ text) some digits =
    let here : is_ascii_digit c ≡ true = digits 0 (omega arith) in
    rw here (ap (prepend_digit c) (durations_of_digits (next ∷ text) (omega arith) (λ k h. digits (suc k) (omega arith))))

-- the place of the first octet that passes
pub record IsFirst (p : ℕ → Bool) (text : Octets) (i : ℕ) : Type 0 where
  pub within : i < length text
  pub passes : p (get_or text i 0) ≡ true
  pub before : (k : ℕ) → k < i → p (get_or text k 0) ≡ false

first_at : (test : Bool) (p : ℕ → Bool) (text : Octets) (i : ℕ) → nat_lt (position_or_len p text) (length text) ≡ test → (if test then Some (position_or_len p text) else None) ≡ Some i → IsFirst p text i
first_at true p text i is same =
    let at : position_or_len p text ≡ i = cc in
    let inside : position_or_len p text < length text = grind (arith, nat_tests) in
    record {
      within = omega arith;
      passes = rw (← at) (passes_at_first p text 0 inside);
      before = λ k h. fails_before_first p text k 0 (omega arith);
    }
first_at false p text i is same = absurd cc

none_at : (test : Bool) (p : ℕ → Bool) (text : Octets) → nat_lt (position_or_len p text) (length text) ≡ test → (if test then Some (position_or_len p text) else None) ≡ None → (k : ℕ) → k < length text → p (get_or text k 0) ≡ false
none_at true p text is same k h = absurd cc
none_at false p text is same k h =
    let outside : length text ≤ position_or_len p text = grind (arith, nat_tests) in
    fails_before_first p text k 0 (omega arith)

pub split_at_unit : (text : Octets) (end : ℕ) → Some end ≡ position is_other text → durations text ≡ (take end text, Some (get_or text end 0)) ∷ durations (take (length text - (end + 1)) (drop (end + 1) text))
split_at_unit text end is =
    let at = first_at _ is_other text end refl (sym is) in
    let cut = durations_at text end at.within (λ k h. not_false (is_ascii_digit (get_or text k 0)) (at.before k h)) (not_true (is_ascii_digit (get_or text end 0)) at.passes) in
    rw (take_rest, add-one) cut.0

pub digits_before_unit : (text : Octets) (end : ℕ) → Some end ≡ position is_other text → all_ascii_digits (take end text) ≡ true
digits_before_unit text end is =
    let at = first_at _ is_other text end refl (sym is) in
    (durations_at text end at.within (λ k h. not_false (is_ascii_digit (get_or text k 0)) (at.before k h)) (not_true (is_ascii_digit (get_or text end 0)) at.passes)).1

pub no_unit : (text : Octets) → 0 < length text → None ≡ position is_other text → durations text ≡ (text, None) ∷ []
no_unit text some is =
    durations_of_digits text some (λ k h. not_false (is_ascii_digit (get_or text k 0)) (none_at _ is_other text refl (sym is) k h))

chosen_unit : (s m h d w : Bool) → IfSome (if s then Some 1 else (if m then Some 60 else (if h then Some 3600 else (if d then Some 86400 else (if w then Some 604800 else None))))) (λ seconds. 1 ≤ seconds)
chosen_unit true m h d w = omega arith
chosen_unit false true h d w = omega arith
chosen_unit false false true d w = omega arith
chosen_unit false false false true w = omega arith
chosen_unit false false false false true = omega arith
chosen_unit false false false false false = tt

unit_some : (c : ℕ) → IfSome (unit_of c) (λ seconds. 1 ≤ seconds)
unit_some c = chosen_unit _ _ _ _ _

over : (some fits : Bool) (value : ℕ) (unit more : Option ℕ) → (if some && true && fits then Some value else None) ≡ None → nat_le value 2147483647 ≡ fits → IfSome unit (λ seconds. 1 ≤ seconds) → IfSome (option_and_then (λ seconds. option_map (λ others. seconds + others) more) (if some then option_map (λ seconds. value * seconds) unit else None)) (λ sum. 2147483647 < sum)
over false fits value unit more none is least = tt
over true true value unit more none is least = absurd cc
over true false value None more none is least = tt
over true false value (Some u) None none is least = tt
over true false value (Some u) (Some m) none is least =
    let large : 2147483647 < value = grind (arith, nat_tests) in
    let more_than : value * 1 ≤ value * u = mul-le-mul_left value least in
    omega arith

-- digits before a unit that are not a number of at most 2^31 - 1
pub sum_over_limit : (text digits rest : Octets) (c : ℕ) → durations text ≡ (digits, Some c) ∷ durations rest → all_ascii_digits digits ≡ true → number_of digits 2147483647 ≡ None → IfSome (sum_of (durations text)) (λ sum. 2147483647 < sum)
sum_over_limit text digits rest c split all none =
    let missing : (if nat_le 1 (length digits) && true && nat_le (digits_value 10 digits) 2147483647 then Some (digits_value 10 digits) else None) ≡ None = rw all at none in
    rw split (over (nat_le 1 (length digits)) (nat_le (digits_value 10 digits) 2147483647) (digits_value 10 digits) (unit_of c) (sum_of (durations rest)) missing refl (unit_some c))

-- what a number that is read says of its digits
record IsNumber (some : Bool) (value number : ℕ) : Type 0 where
  nonempty : some ≡ true
  same : value ≡ number
  small : number ≤ 2147483647

number_read : (some all fits : Bool) (value number : ℕ) → (if some && all && fits then Some value else None) ≡ Some number → nat_le value 2147483647 ≡ fits → IsNumber some value number
number_read true true true value number is fits =
    let same : value ≡ number = cc in
    record { nonempty = refl; same = same; small = grind (arith, nat_tests) }
number_read true true false value number is fits = absurd cc
number_read true false fits value number is test = absurd cc
number_read false all fits value number is test = absurd cc

pub begins_with_duration : (text digits rest : Octets) (c number seconds : ℕ) → durations text ≡ (digits, Some c) ∷ durations rest → length rest < length text → number_of digits 2147483647 ≡ Some number → unit_of c ≡ Some seconds → seconds ≤ 604800 → BeginsWithDuration text (number * seconds) rest
begins_with_duration text digits rest c number seconds split shorter read unit few =
    let n = number_read (nat_le 1 (length digits)) (all_ascii_digits digits) (nat_le (digits_value 10 digits) 2147483647) (digits_value 10 digits) number read refl in
    let small : number * seconds ≤ 2147483647 * 604800 = mul-le-mul n.small few in
    let nonempty = n.nonempty in
    let same = n.same in
    record {
      sum = ap sum_of split ∙ rw (nonempty, same, unit) refl;
      bounded = small;
      shorter = shorter;
    }
