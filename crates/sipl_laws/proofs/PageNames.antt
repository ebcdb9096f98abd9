-- The name of a page is read.
use Rattle.std.proofs.Common.{◌≡◌, ℕ, zero, suc, ◌-◌, ◌^◌, ◌<◌, true, [], ◌∷◌, ◌++◌, length, get_or, take, drop, replicate, Option, Some, refl, sym, ap, ◌∙◌, arith, length-append, append-nil, nat_le, decimal}
use Rattle.std.specs.Prelude.{◌==◌}
use Rattle.std.specs.Fmt.{char_count, padded_integral}
use Rattle.std.specs.Str.{all_ascii_digits}
use Rattle.std.specs.Str.Parse.{digits_value}
use Rattle.std.proofs.lemmas.Bool.Decides.{nat_tests}
use Rattle.std.proofs.lemmas.Fmt.{decimal_is_IsNumeral, decimal_nonempty, digits_decimal, length-decimal-le}
use Rattle.std.proofs.lemmas.List.{get_or_at, length-replicate}
use Rattle.std.proofs.lemmas.Str.Parse.{numerals_by_value, tells_all_ascii_digits}
use Rattle.sipl_names.specs.Labels.{Octets}
use Rattle.sipl_records.specs.Numbers.{number_of}
use Rattle.sipl_archive.specs.Archive.{both, padded, page_name, page_named}

-- zeros before a number

zeros-value : (count : ℕ) (digits : Octets) → digits_value 10 (replicate count 48 ++ digits) ≡ digits_value 10 digits
zeros-value zero digits = refl
zeros-value (suc count) digits = zeros-value count digits

zeros-digits : (count : ℕ) (digits : Octets) → all_ascii_digits (replicate count 48 ++ digits) ≡ all_ascii_digits digits
zeros-digits zero digits = refl
zeros-digits (suc count) digits = zeros-digits count digits

none-less : (n : ℕ) → n - 0 - 0 ≡ n
none-less n = omega arith

-- a padded number is its digits after zeros
padded-is : (width n : ℕ) → padded width n ≡ replicate (width - length (decimal n)) 48 ++ decimal n
unfolding padded_integral char_count
padded-is width n =
    ap (λ padding. replicate padding 48 ++ (decimal n ++ [])) (none-less (width - length (decimal n)))
    ∙ ap (λ (digits : Octets). replicate (width - length (decimal n)) 48 ++ digits) (append-nil (decimal n))

length-padded : (width n : ℕ) → 0 < width → n < 10 ^ width → n < 2 ^ 64 → length (padded width n) ≡ width
length-padded width n some short small =
    let digits = decimal n in
    let zeros : Octets = replicate (width - length digits) 48 in
    ap length (padded-is width n)
    ∙ omega (arith, length-append zeros digits, length-replicate {A = ℕ} (width - length digits) 48, length-decimal-le width n some short small)

padded-read : (width n : ℕ) → n < 2 ^ 64 → number_of (padded width n) (2 ^ 64 - 1) ≡ Some n
padded-read width n small =
    let zeros : Octets = replicate (width - length (decimal n)) 48 in
    let value : digits_value 10 (zeros ++ decimal n) ≡ n = zeros-value (width - length (decimal n)) (decimal n) ∙ (decimal_is_IsNumeral n small).1 in
    let all : all_ascii_digits (zeros ++ decimal n) ≡ true = zeros-digits (width - length (decimal n)) (decimal n) ∙ digits_decimal (numerals_by_value (λ ds. all_ascii_digits ds ≡ true) tells_all_ascii_digits) n small in
    let some : 0 < length (zeros ++ decimal n) = omega (arith, length-append zeros (decimal n), decimal_nonempty n small) in
    let enough : nat_le 1 (length (zeros ++ decimal n)) ≡ true = grind (arith, nat_tests) in
    let fits : nat_le n (2 ^ 64 - 1) ≡ true = grind (arith, nat_tests) in
    ap (λ (digits : Octets). number_of digits (2 ^ 64 - 1)) (padded-is width n) ∙ rw (all, value, enough, fits) refl

-- a text of two parts with an octet between them

take-first : (first rest : Octets) → take (length first) (first ++ rest) ≡ first
take-first [] rest = refl
take-first (c ∷ first) rest = ap (λ (t : Octets). c ∷ t) (take-first first rest)

drop-first : (first : Octets) (between : ℕ) (rest : Octets) → drop (suc (length first)) (first ++ between ∷ rest) ≡ rest
drop-first [] between rest = refl
drop-first (c ∷ first) between rest = drop-first first between rest

dashed : (first second : Octets) → length first ≡ 6 → length second ≡ 16 → page_named (first ++ 45 ∷ second) ≡ both (number_of first (2 ^ 64 - 1)) (number_of second (2 ^ 64 - 1))
dashed first second six sixteen =
    let name : Octets = first ++ 45 ∷ second in
    let long : length name ≡ 23 = omega (arith, length-append first (45 ∷ second), six, sixteen) in
    let fits : (length name == 23) ≡ true = grind (arith, nat_tests) in
    let dash : get_or name 6 0 ≡ 45 = get_or_at first 45 second 0 6 six in
    let begins : take 6 name ≡ first = ap (λ n. take n name) (sym six) ∙ take-first first (45 ∷ second) in
    let ends : drop 7 name ≡ second = ap (λ n. drop (suc n) name) (sym six) ∙ drop-first first 45 second in
    rw (fits, dash, begins, ends) refl

-- six digits of a run, and sixteen of its event
pub name-read : (run first : ℕ) → run < 10 ^ 6 → first < 10 ^ 16 → page_named (page_name run first) ≡ Some (run, first)
name-read run first few small =
    dashed (padded 6 run) (padded 16 first) (length-padded 6 run (omega arith) few (omega (arith, few))) (length-padded 16 first (omega arith) small (omega (arith, small)))
    ∙ ap (λ (n : Option ℕ). both n (number_of (padded 16 first) (2 ^ 64 - 1))) (padded-read 6 run (omega (arith, few)))
    ∙ ap (λ (n : Option ℕ). both (Some run) n) (padded-read 16 first (omega (arith, small)))
