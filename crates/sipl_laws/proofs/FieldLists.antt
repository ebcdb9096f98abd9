-- The fields of a line of words with spaces between them, and the first line of a text.
use Rattle.std.proofs.Common.{◌≡◌, ℕ, ◌^◌, ◌<◌, ◌≤◌, true, false, List, [], ◌∷◌, ◌++◌, length, Some, refl, ap, ◌∙◌, arith, nat_le, decimal}
use Rattle.std.specs.Prelude.{◌==◌}
use Rattle.std.specs.Str.{all_ascii_digits}
use Rattle.std.specs.Str.Parse.{digits_value}
use Rattle.std.proofs.lemmas.Bool.Decides.{nat_tests}
use Rattle.std.proofs.lemmas.Fmt.{decimal_is_IsNumeral, digits_decimal, decimal_nonempty}
use Rattle.std.proofs.lemmas.Str.Parse.{numerals_by_value, tells_all_ascii_digits}
use Rattle.sipl_names.specs.Labels.{Octets}
use Rattle.sipl_records.specs.Fields.{fields_of, is_wsp, prepend_octet, trim_start}
use Rattle.sipl_records.specs.Numbers.{number_of}
use Rattle.sipl_lines.specs.CommandLines.{first_line}
use Rattle.sipl_laws.proofs.Cuts.{From}

-- an octet that can be seen is no white space
seen : (c : ℕ) → 33 ≤ c → is_wsp c ≡ false
seen c least = grind (arith, nat_tests)

before-space : (c : ℕ) (rest : Octets) (fields : List Octets) → prepend_octet c (32 ∷ rest) fields ≡ (c ∷ []) ∷ fields
before-space c rest [] = refl
before-space c rest (field ∷ fields) = refl

-- the first word is the first field
pub first-field : (word rest : Octets) → 0 < length word → From 33 word → fields_of (word ++ 32 ∷ rest) ≡ word ∷ fields_of rest
first-field [] rest some all = absurd (omega (arith, some))
first-field (c ∷ []) rest some all =
    let test = seen c all.0 in
    rw test (before-space c rest (fields_of rest))
first-field (c ∷ d ∷ word) rest some all =
    let test = seen c all.0 in
    let next = seen d all.1.0 in
    let others = first-field (d ∷ word) rest (omega arith) all.1 in
    rw test (ap (prepend_octet c ((d ∷ word) ++ 32 ∷ rest)) others ∙ rw next refl)

-- and a word alone is the only one
pub only-field : (word : Octets) → 0 < length word → From 33 word → fields_of word ≡ word ∷ []
only-field [] some all = absurd (omega (arith, some))
only-field (c ∷ []) some all = let test = seen c all.0 in rw test refl
only-field (c ∷ d ∷ word) some all =
    let test = seen c all.0 in
    let next = seen d all.1.0 in
    let others = only-field (d ∷ word) (omega arith) all.1 in
    rw test (ap (prepend_octet c (d ∷ word)) others ∙ rw next refl)

-- nothing is trimmed before an octet that can be seen
pub none-trimmed : (word rest : Octets) → 0 < length word → From 33 word → trim_start (word ++ rest) ≡ word ++ rest
none-trimmed [] rest some all = absurd (omega (arith, some))
none-trimmed (c ∷ word) rest some all = let test = seen c all.0 in rw test refl

-- the first line is what is before the first LF
pub line-before : (text rest : Octets) → From 32 text → first_line (text ++ 10 ∷ rest) ≡ text
line-before [] rest all = refl
line-before (c ∷ text) rest all =
    let least = all.0 in
    let test : (c == 10) ≡ false = grind (arith, nat_tests) in
    rw test (ap (λ (t : Octets). c ∷ t) (line-before text rest all.1))

-- a printed number reads back
pub number-read : (n most : ℕ) → n < 2 ^ 64 → n ≤ most → number_of (decimal n) most ≡ Some n
number-read n most small within =
    let value : digits_value 10 (decimal n) ≡ n = (decimal_is_IsNumeral n small).1 in
    let all : all_ascii_digits (decimal n) ≡ true = digits_decimal (numerals_by_value (λ ds. all_ascii_digits ds ≡ true) tells_all_ascii_digits) n small in
    let some : 0 < length (decimal n) = decimal_nonempty n small in
    let enough : nat_le 1 (length (decimal n)) ≡ true = grind (arith, nat_tests) in
    let fits : nat_le n most ≡ true = grind (arith, nat_tests) in
    rw (all, value, enough, fits) refl
