-- The random words of a question: the fields after its URI.
use Rattle.std.specs.Prelude.{ℕ, List, [], ◌∷◌, Option, None, Some, Result, Ok, codes, nat_eq, option_map, if◌then◌else◌}
use lib.Pointwise.{pointwise}
use Rattle.sipl_names.specs.Labels.{Octets}
use Rattle.sipl_records.specs.Numbers.{number_of}
use Rattle.sipl_records.specs.Parts.{parts}
use Rattle.sipl_srv.specs.Draws.{words_of, words_of_seed}
use Rattle.sipl_srv.specs.declared.fault.DrawsFault.{DrawsFault}

-- a word is a number of 32 bits
abbrev pub word_of : Octets → Option ℕ
word_of text = number_of text 4294967295

-- the words of texts, if each of them is one
abbrev pub all_words : List Octets → Option (List ℕ)
all_words [] = Some []
all_words (text ∷ texts) =
    elim (word_of text) [
      | Some word ↦ option_map (λ words. word ∷ words) (all_words texts)
      | None ↦ None
    ]

-- words with commas between them (44 is `,`), at least one
abbrev pub words_in : Octets → Option (List ℕ)
words_in text = all_words (parts 44 text)

-- `seed N`: the words of a generator that is started at a number of 64 bits
abbrev pub draws_of_seed : Octets → Option (Result (List ℕ) DrawsFault)
draws_of_seed text =
    option_map (λ seed. Ok (words_of_seed seed)) (number_of text 18446744073709551615)

-- `words W,W,..`: the words that are given; more than 32 are refused
abbrev pub draws_of_words : Octets → Option (Result (List ℕ) DrawsFault)
draws_of_words text = option_map words_of (words_in text)

-- the words of `seed` or `words`, and the text after it
abbrev pub draws_of_form : Octets → Octets → Option (Result (List ℕ) DrawsFault)
draws_of_form form text =
    if pointwise nat_eq form (codes "seed") then draws_of_seed text
    else (if pointwise nat_eq form (codes "words") then draws_of_words text else None)

-- the words that the fields give: none, `seed N` or `words W,W,..`
abbrev pub draws_of : List Octets → Option (Result (List ℕ) DrawsFault)
draws_of [] = Some (words_of [])
draws_of (form ∷ text ∷ []) = draws_of_form form text
draws_of _ = None
