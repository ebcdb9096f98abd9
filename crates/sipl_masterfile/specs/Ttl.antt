-- A time to live in text: seconds (RFC 1035, 5.1), or durations with units, as BIND has them.
use Rattle.std.specs.Prelude.{◌≡◌, ℕ, ◌+◌, ◌*◌, ◌<◌, ◌≤◌, Bool, List, [], ◌∷◌, length, Option, None, Some, option_map, nat_le, if◌then◌else◌, ◌==◌, codes}
use Rattle.std.specs.Char.{is_ascii_digit}
use Rattle.std.specs.List.{list_any}
use Rattle.std.specs.Option.{option_and_then, option_or}
use Rattle.std.specs.Str.Parse.{digits_value}
use Rattle.sipl_names.specs.Labels.{Octets}
use Rattle.sipl_records.specs.Numbers.{number_of}

-- whether the octet is one of these letters
abbrev pub is_letter_of : Octets → ℕ → Bool
is_letter_of letters c = list_any (λ letter. c == letter) letters

-- the seconds of a unit, in either case
abbrev pub unit_of : ℕ → Option ℕ
unit_of c =
    if is_letter_of (codes "sS") c then Some 1
    else (if is_letter_of (codes "mM") c then Some 60
    else (if is_letter_of (codes "hH") c then Some 3600
    else (if is_letter_of (codes "dD") c then Some 86400
    else (if is_letter_of (codes "wW") c then Some 604800 else None))))

-- digits, and the octet after them, if there is one
abbrev pub Duration : Type 0
Duration = Octets × Option ℕ

-- a digit before those of the first duration
abbrev pub prepend_digit : ℕ → List Duration → List Duration
prepend_digit c [] = (c ∷ [], None) ∷ []
prepend_digit c (duration ∷ others) = (c ∷ duration.0, duration.1) ∷ others

-- a text cut after each octet that is not a digit
abbrev pub durations : Octets → List Duration
durations [] = []
durations (c ∷ text) =
    if is_ascii_digit c then prepend_digit c (durations text) else ([], Some c) ∷ durations text

-- the seconds of one or more digits and a unit
abbrev pub seconds_of : Duration → Option ℕ
seconds_of duration =
    if nat_le 1 (length duration.0)
    then option_map (λ unit. digits_value 10 duration.0 * unit)
    (option_and_then unit_of duration.1) else None

-- the sum of seconds
abbrev pub sum_of : List Duration → Option ℕ
sum_of [] = Some 0
sum_of (duration ∷ others) =
    option_and_then (λ seconds. option_map (λ more. seconds + more) (sum_of others))
    (seconds_of duration)

-- RFC 2181, 8: a ttl is at most 2^31 - 1
abbrev pub ttl_within_limit : ℕ → Option ℕ
ttl_within_limit seconds = if nat_le seconds 2147483647 then Some seconds else None

-- the sum of one or more durations
abbrev pub ttl_of_durations : Octets → Option ℕ
ttl_of_durations text =
    if length text == 0 then None else option_and_then ttl_within_limit (sum_of (durations text))

-- the seconds of a ttl: only digits, or durations
abbrev pub ttl_of : Octets → Option ℕ
ttl_of text = option_or (number_of text 2147483647) (ttl_of_durations text)

-- the text begins with a duration of these seconds, and the rest follows
pub record BeginsWithDuration (text : Octets) (seconds : ℕ) (rest : Octets) : Type 0 where
  pub sum : sum_of (durations text) ≡ option_map (λ more. seconds + more) (sum_of (durations rest))
  pub bounded : seconds ≤ 2147483647 * 604800
  pub shorter : length rest < length text
