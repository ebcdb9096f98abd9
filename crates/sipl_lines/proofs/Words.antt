-- Words that are read from a text one after another.
use Rattle.std.proofs.Common.{◌≡◌, ℕ, ◌+◌, ◌<◌, ◌≤◌, List, [], ◌∷◌, ◌++◌, Option, Some, None, Result, Err, length, take, set, min, refl, sym, ap, ◌∙◌, append-nil, append_assoc, length-append, length-take, length-set, add-one, arith, inl, inr, nat_eq}
use Rattle.std.specs.Prelude.{option_map}
use Rattle.std.proofs.lemmas.Bool.{cases_Bool, cases_lt, lt-leb}
use Rattle.std.proofs.lemmas.List.{take_all, take-append-le}
use Rattle.std.proofs.Math.Seq.{take-suc-set}
use Rattle.sipl_names.specs.Labels.{Octets}
use Rattle.sipl_records.specs.Parts.{parts, prepend_to_first, split_once}
use Rattle.sipl_srv.specs.Draws.{words_of}
use Rattle.sipl_srv.specs.declared.fault.DrawsFault.{DrawsFault}
use Rattle.sipl_srv.specs.declared.fault.DrawsFault.TheVariants.{TooManyWords}
use Rattle.sipl_lines.specs.DrawsField.{word_of, all_words, words_in, draws_of_words}

-- ---- the words of a text that is split at its first comma

-- the words that are left, if each part of the text is one
abbrev pub words_left : Option Octets → Option (List ℕ)
words_left None = Some []
words_left (Some text) = words_in text

parts_after : ℕ → Option Octets → List Octets
parts_after s None = []
parts_after s (Some rest) = parts s rest

parts-split : (s : ℕ) (text : Octets) → parts s text ≡ (split_once s text).0 ∷ parts_after s (split_once s text).1
unfolding parts_after
parts-split s [] = refl
parts-split s (c ∷ text) = elim (cases_Bool (nat_eq c s)) [
  | inl here ↦ rw here refl
  | inr other ↦ rw other (ap (prepend_to_first c) (parts-split s text))
]

words_after : (rest : Option Octets) → all_words (parts_after 44 rest) ≡ words_left rest
unfolding parts_after
words_after None = refl
words_after (Some rest) = refl

-- a word, and those that are left
with_word : Option ℕ → Option (List ℕ) → Option (List ℕ)
with_word None words = None
with_word (Some word) words = option_map (λ others. word ∷ others) words

by_word : (word : Option ℕ) (words : Option (List ℕ)) → elim word as (λ _. Option (List ℕ)) [ Some w ↦ option_map (λ others. w ∷ others) words | None ↦ None ] ≡ with_word word words
unfolding with_word
by_word None words = refl
by_word (Some w) words = refl

all_words-cons : (text : Octets) (texts : List Octets) → all_words (text ∷ texts) ≡ with_word (word_of text) (all_words texts)
unfolding with_word
all_words-cons text texts = by_word (word_of text) (all_words texts)

words_in-split : (text : Octets) → words_in text ≡ with_word (word_of (split_once 44 text).0) (words_left (split_once 44 text).1)
words_in-split text =
    ap all_words (parts-split 44 text) ∙ all_words-cons (split_once 44 text).0 (parts_after 44 (split_once 44 text).1)
    ∙ ap (with_word (word_of (split_once 44 text).0)) (words_after (split_once 44 text).1)

-- ---- what is read so far

-- the words that come after others
abbrev pub after_words : List ℕ → Option (List ℕ) → Option (List ℕ)
after_words seen words = option_map (λ others. seen ++ others) words

after_one : (seen : List ℕ) (word : ℕ) (words : Option (List ℕ)) → after_words seen (with_word (Some word) words) ≡ after_words (seen ++ word ∷ []) words
unfolding with_word
after_one seen word None = refl
after_one seen word (Some words) = ap (λ (l : List ℕ). Some l) (sym (append_assoc seen (word ∷ []) words))

-- the words of a text are those that were read and those that are left; of the former the first 33
-- are kept
pub record ReadTo (text : Octets) (rest : Option Octets) (words : List ℕ) (count : ℕ) : Type 0 where
  pub seen : List ℕ
  pub split : words_in text ≡ after_words seen (words_left rest)
  pub counted : count ≡ min 33 (length seen)
  pub kept : take count words ≡ take 33 seen
  pub size : length words ≡ 33

pub read_fails : {text rest : Octets} {words : List ℕ} {count : ℕ} → ReadTo text (Some rest) words count → word_of (split_once 44 rest).0 ≡ None → draws_of_words text ≡ None
unfolding with_word
read_fails {text} {rest} read bad =
    ap (option_map words_of) (read.split ∙ ap (after_words read.seen) (words_in-split rest ∙ ap (λ word. with_word word (words_left (split_once 44 rest).1)) bad))

split_further : (text rest : Octets) (tail : Option Octets) (seen : List ℕ) (word : ℕ) → words_in text ≡ after_words seen (words_in rest) → word_of (split_once 44 rest).0 ≡ Some word → (split_once 44 rest).1 ≡ tail
    → words_in text ≡ after_words (seen ++ word ∷ []) (words_left tail)
split_further text rest tail seen word split is left =
    split ∙ ap (after_words seen) (words_in-split rest ∙ ap (λ w. with_word w (words_left (split_once 44 rest).1)) is)
    ∙ after_one seen word (words_left (split_once 44 rest).1) ∙ ap (λ t. after_words (seen ++ word ∷ []) (words_left t)) left

pub read_kept : {text rest : Octets} {tail : Option Octets} {words : List ℕ} {count : ℕ} (word : ℕ) → ReadTo text (Some rest) words count → word_of (split_once 44 rest).0 ≡ Some word → (split_once 44 rest).1 ≡ tail
    → count < 33 → ReadTo text tail (set words count word) (count + 1)
read_kept {text} {rest} {tail} {words} {count} word read is left few =
    let seen : List ℕ = read.seen in
    let grown : length (seen ++ word ∷ []) ≡ length seen + 1 = length-append seen (word ∷ []) in
    let counted : count ≡ min 33 (length seen) = read.counted in
    let size : length words ≡ 33 = read.size in
    let within : count < length words = omega arith in
    let whole : take 33 seen ≡ seen = take_all 33 seen (omega arith) in
    let whole_after : take 33 (seen ++ word ∷ []) ≡ seen ++ word ∷ [] = take_all 33 (seen ++ word ∷ []) (omega arith) in
    let written : take (count + 1) (set words count word) ≡ take count words ++ word ∷ [] = rw add-one (take-suc-set words count word within) in
    record {
      seen = seen ++ word ∷ [];
      split = split_further text rest tail seen word read.split is left;
      counted = omega arith;
      kept = written ∙ ap (λ (l : List ℕ). l ++ word ∷ []) (read.kept ∙ whole) ∙ sym whole_after;
      size = length-set words count word ∙ size;
    }

pub read_dropped : {text rest : Octets} {tail : Option Octets} {words : List ℕ} {count : ℕ} (word : ℕ) → ReadTo text (Some rest) words count → word_of (split_once 44 rest).0 ≡ Some word → (split_once 44 rest).1 ≡ tail
    → 33 ≤ count → ReadTo text tail words count
read_dropped {text} {rest} {tail} {words} {count} word read is left many =
    let seen : List ℕ = read.seen in
    let grown : length (seen ++ word ∷ []) ≡ length seen + 1 = length-append seen (word ∷ []) in
    let counted : count ≡ min 33 (length seen) = read.counted in
    record {
      seen = seen ++ word ∷ [];
      split = split_further text rest tail seen word read.split is left;
      counted = omega arith;
      kept = read.kept ∙ sym (take-append-le 33 seen (word ∷ []) (omega arith));
      size = read.size;
    }

too_many : (words : List ℕ) → 32 < length words → words_of words ≡ Err TooManyWords
too_many words many = rw (lt-leb (length words) 32 many) refl

-- whether there are too many words shows in the first 33
words_of-take : (words : List ℕ) → words_of (take 33 words) ≡ words_of words
words_of-take words = elim (cases_lt (length words) 33) [
  | inl few ↦ ap words_of (take_all 33 words (omega arith))
  | inr many ↦ too_many (take 33 words) (omega (arith, length-take 33 words)) ∙ sym (too_many words (omega arith))
]

pub read_all : {text : Octets} {words : List ℕ} {count : ℕ} → ReadTo text None words count → draws_of_words text ≡ Some (words_of (take count words))
read_all {text} {words} {count} read =
    ap (option_map words_of) (read.split ∙ ap (λ (l : List ℕ). Some l) (append-nil read.seen))
    ∙ ap (λ (draws : Result (List ℕ) DrawsFault). Some draws) (sym (words_of-take read.seen)) ∙ ap (λ l. Some (words_of l)) (sym read.kept)
