-- Numbers read from the left, digit by digit.
use Rattle.std.proofs.Common.{◌≡◌, ℕ, ◌+◌, ◌*◌, ◌<◌, true, false, None, List, length, get_or, take, refl, ap, ◌∙◌, arith}
use Rattle.std.specs.Char.{is_ascii_digit, digit_value}
use Rattle.std.specs.Str.{all_ascii_digits}
use Rattle.std.specs.Str.Parse.{digits_value}
use Rattle.std.proofs.lemmas.Bool.{and_from, and_left, and_right, cond-false, lt-leb}
use Rattle.std.proofs.lemmas.Int.Digits.{digits_value_more}
use Rattle.std.proofs.lemmas.List.{take_more}
use Rattle.std.proofs.lemmas.List.Recursion.{and_fails_at, and_push}
use Rattle.std.proofs.lemmas.Str.Parse.{digits_value-take-le}
use Rattle.sipl_records.specs.Numbers.{number_of}

-- digits and one more digit are digits
pub all_ascii_digits_more : (text : List ℕ) (i : ℕ) → i < length text → all_ascii_digits (take i text) ≡ true → is_ascii_digit (get_or text i 0) ≡ true → all_ascii_digits (take (i + 1) text) ≡ true
all_ascii_digits_more text i inside before digit =
    ap all_ascii_digits (take_more text i 0 inside) ∙ (and_push all_ascii_digits is_ascii_digit refl (λ _ _. refl) (take i text) (get_or text i 0) ∙ and_from _ _ before digit)

-- a text with an octet that is no digit says no number
pub number_of-no_digit : (text : List ℕ) (i max : ℕ) → i < length text → is_ascii_digit (get_or text i 0) ≡ false → number_of text max ≡ None
number_of-no_digit text i max inside no_digit =
    let some_none : all_ascii_digits text ≡ false = and_fails_at all_ascii_digits is_ascii_digit refl (λ _ _. refl) text i 0 inside no_digit in
    cond-false _ _ _ (and_left _ _ (and_right _ _ some_none))

-- nor does one whose first digits say more than `max`
pub number_of-too_great : (text : List ℕ) (i value max : ℕ) → i < length text → value ≡ digits_value 10 (take i text) → max < value * 10 + digit_value (get_or text i 0) → number_of text max ≡ None
number_of-too_great text i value max inside so_far great =
    let more = digits_value_more 10 text i inside in
    let below = digits_value-take-le 10 text (i + 1) (omega arith) in
    let past : max < digits_value 10 text = omega arith in
    cond-false _ _ _ (and_right _ _ (lt-leb _ _ past))
