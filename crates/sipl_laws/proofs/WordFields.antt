-- The fields of random words, and what they give.
use Rattle.std.proofs.Common.{◌≡◌, ℕ, suc, ◌+◌, ◌*◌, ◌-◌, ◌^◌, ◌<◌, ◌≤◌, Bool, true, false, List, [], ◌∷◌, ◌++◌, length, map, Option, Some, None, Ok, refl, sym, ap, ◌∙◌, arith, append-nil, length-append, nat_le, codes, decimal}
use Rattle.std.specs.Prelude.{◌==◌, if◌then◌else◌, option_map, replicate}
use Rattle.std.specs.List.{AllByRecursion, flat_map}
use Rattle.std.proofs.lemmas.Bool.Decides.{nat_tests}
use Rattle.std.proofs.lemmas.Fmt.{decimal_nonempty, length-decimal-le}
use Rattle.sipl_names.specs.Labels.{Octets}
use Rattle.sipl_records.specs.Fields.{fields_of}
use Rattle.sipl_records.specs.Parts.{parts, prepend_to_first}
use Rattle.sipl_srv.specs.Draws.{words_of}
use Rattle.sipl_book.specs.Words.{before_zeros, without_last_zeros}
use Rattle.sipl_lines.specs.DrawsField.{all_words, draws_of, word_of, words_in}
use Rattle.sipl_lines.specs.CommandText.{listed_words}
use Rattle.sipl_laws.proofs.Cuts.{From, from-append, from-lower, from-test}
use Rattle.sipl_laws.proofs.Octets.{from-decimal}
use Rattle.sipl_laws.proofs.FieldLists.{first-field, number-read, only-field}

abbrev more : List ℕ → Octets
more words = flat_map (λ other. 44 ∷ decimal other) words

abbrev AreWords : List ℕ → Type 0
AreWords words = AllByRecursion (λ word. word < 2 ^ 32) words

-- the fields that words are
abbrev pub word_fields : List ℕ → List Octets
word_fields [] = []
word_fields (word ∷ others) = codes "words" ∷ (decimal word ++ more others) ∷ []

from-more : (words : List ℕ) → AreWords words → From 33 (more words)
from-more [] all = tt
from-more (word ∷ words) all =
    let small = all.0 in
    (omega arith, from-append 33 (decimal word) (more words) (from-lower 33 48 (decimal word) (omega arith) (from-decimal word (omega (arith, small)))) (from-more words all.1))

nonempty : (word : ℕ) (rest : Octets) → word < 2 ^ 32 → 0 < length (decimal word ++ rest)
nonempty word rest small = omega (arith, length-append (decimal word) rest, decimal_nonempty word (omega (arith, small)))

-- a URI and words are fields
pub uri-fields : (uri : Octets) (words : List ℕ) → 0 < length uri → From 33 uri → AreWords words → fields_of (uri ++ listed_words words) ≡ uri ∷ word_fields words
uri-fields uri [] some all fit = ap fields_of (append-nil uri) ∙ only-field uri some all
uri-fields uri (word ∷ words) some all fit =
    let small = fit.0 in
    let text : Octets = decimal word ++ more words in
    let seen : From 33 text = from-append 33 (decimal word) (more words) (from-lower 33 48 (decimal word) (omega arith) (from-decimal word (omega (arith, small)))) (from-more words fit.1) in
    first-field uri (codes "words" ++ 32 ∷ text) some all
    ∙ ap (λ (fs : List Octets). uri ∷ fs)
    (first-field (codes "words") text (omega arith) (from-test 33 (codes "words") refl) ∙ ap (λ (fs : List Octets). codes "words" ∷ fs) (only-field text (nonempty word (more words) small) seen))

-- parts between commas

part-before : (part rest : Octets) → From 48 part → parts 44 (part ++ 44 ∷ rest) ≡ part ∷ parts 44 rest
part-before [] rest all = refl
part-before (c ∷ part) rest all =
    let least = all.0 in
    let test : (c == 44) ≡ false = grind (arith, nat_tests) in
    rw test (ap (prepend_to_first c) (part-before part rest all.1))

last-part : (part : Octets) → From 48 part → parts 44 part ≡ part ∷ []
last-part [] all = refl
last-part (c ∷ part) all =
    let least = all.0 in
    let test : (c == 44) ≡ false = grind (arith, nat_tests) in
    rw test (ap (prepend_to_first c) (last-part part all.1))

digits : (word : ℕ) → word < 2 ^ 32 → From 48 (decimal word)
digits word small = from-decimal word (omega (arith, small))

word-parts : (word : ℕ) (words : List ℕ) → word < 2 ^ 32 → AreWords words → parts 44 (decimal word ++ more words) ≡ decimal word ∷ map decimal words
word-parts word [] small fit = ap (parts 44) (append-nil (decimal word)) ∙ last-part (decimal word) (digits word small)
word-parts word (next ∷ words) small fit =
    part-before (decimal word) (decimal next ++ more words) (digits word small)
    ∙ ap (λ (ps : List Octets). decimal word ∷ ps) (word-parts next words fit.0 fit.1)

one-more : (text : Octets) (texts : List Octets) (word : ℕ) (words : List ℕ) → word_of text ≡ Some word → all_words texts ≡ Some words → all_words (text ∷ texts) ≡ Some (word ∷ words)
one-more text texts word words first others =
    ap (λ (o : Option ℕ). elim o as (λ _. Option (List ℕ)) [ Some w ↦ option_map (λ ws. w ∷ ws) (all_words texts) | None ↦ None ]) first
    ∙ ap (option_map (λ (ws : List ℕ). word ∷ ws)) others

read-words : (words : List ℕ) → AreWords words → all_words (map decimal words) ≡ Some words
read-words [] fit = refl
read-words (word ∷ words) fit =
    let small = fit.0 in
    let first : word_of (decimal word) ≡ Some word = number-read word 4294967295 (omega (arith, small)) (omega (arith, small)) in
    let others = read-words words fit.1 in
    one-more (decimal word) (map decimal words) word words first others

-- the words that are given are read
pub draws-read : (words : List ℕ) → AreWords words → draws_of (word_fields words) ≡ Some (words_of words)
draws-read [] fit = refl
draws-read (word ∷ words) fit =
    let read : words_in (decimal word ++ more words) ≡ Some (word ∷ words) = ap all_words (word-parts word words fit.0 fit.1) ∙ read-words (word ∷ words) fit in
    ap (option_map words_of) read

-- with the words of 0 at their end they are all words

restored-before : (word count : ℕ) (left words : List ℕ) → left ++ replicate (count - length left) 0 ≡ words → length left ≤ count → before_zeros word left ++ replicate (suc count - length (before_zeros word left)) 0 ≡ word ∷ words
restored-before word count [] words is few = by (word == 0) refl
  where
    zeros : replicate count 0 ≡ words
    zeros = ap (λ n. replicate n 0) (let n : count ≡ count - 0 = omega arith in n) ∙ is

    by : (b : Bool) → (word == 0) ≡ b → (if b then [] else word ∷ []) ++ replicate (suc count - length (if b then [] else word ∷ [])) 0 ≡ word ∷ words
    by true test =
        let none : word ≡ 0 = grind (arith, nat_tests) in
        ap (λ n. replicate n 0) (let n : suc count - 0 ≡ suc count = omega arith in n) ∙ (λ i. sym none i ∷ zeros i)
    by false test =
        ap (λ n. word ∷ replicate n 0) (let n : suc count - 1 ≡ count = omega arith in n) ∙ ap (λ (ws : List ℕ). word ∷ ws) zeros
restored-before word count (next ∷ left) words is few =
    ap (λ n. word ∷ ((next ∷ left) ++ replicate n 0)) (let n : suc count - suc (length (next ∷ left)) ≡ count - length (next ∷ left) = omega arith in n)
    ∙ ap (λ (ws : List ℕ). word ∷ ws) is

before-fewer : (word count : ℕ) (left : List ℕ) → length left ≤ count → length (before_zeros word left) ≤ suc count
before-fewer word count [] few = by (word == 0)
  where
    by : (b : Bool) → length (if b then [] else word ∷ []) ≤ suc count
    by true = omega arith
    by false = omega arith
before-fewer word count (next ∷ left) few = omega (arith, few)

pub left-fewer : (words : List ℕ) → length (without_last_zeros words) ≤ length words
left-fewer [] = omega arith
left-fewer (word ∷ words) = before-fewer word (length words) (without_last_zeros words) (left-fewer words)

restored : (words : List ℕ) → without_last_zeros words ++ replicate (length words - length (without_last_zeros words)) 0 ≡ words
restored [] = refl
restored (word ∷ words) = restored-before word (length words) (without_last_zeros words) words (restored words) (left-fewer words)

pub words-restored : (words : List ℕ) → length words ≡ 32 → words_of (without_last_zeros words) ≡ Ok words
words-restored words draws =
    let few : length (without_last_zeros words) ≤ 32 = omega (arith, draws, left-fewer words) in
    let test : nat_le (length (without_last_zeros words)) 32 ≡ true = grind (arith, nat_tests) in
    rw test (ap (λ all. Ok all) (ap (λ n. without_last_zeros words ++ replicate (n - length (without_last_zeros words)) 0) (sym draws) ∙ restored words))

-- how long words are

length-more : (words : List ℕ) → AreWords words → length (more words) ≤ 21 * length words
length-more [] fit = omega arith
length-more (word ∷ words) fit =
    let small = fit.0 in
    omega (arith, length-append (44 ∷ decimal word) (more words), length-decimal-le 20 word (omega arith) (omega (arith, small)) (omega (arith, small)), length-more words fit.1)

pub length-listed : (words : List ℕ) → AreWords words → length (listed_words words) ≤ 27 + 21 * length words
length-listed [] fit = omega arith
length-listed (word ∷ words) fit =
    let small = fit.0 in
    omega (arith, length-append (codes " words " ++ decimal word) (more words), length-append (codes " words ") (decimal word), length-decimal-le 20 word (omega arith) (omega (arith, small)) (omega (arith, small)), length-more words fit.1)
