-- What words that copies share are to contracts.
use Rattle.std.specs.Prelude.{ℕ, List}
use Rattle.sipl_book.specs.declared.shared_draws.Given.{Given}
use Rattle.sipl_book.specs.declared.shared_draws.Given.TheVariants.{Few, Many}

-- the words, in whichever way they are kept
abbrev pub given_words : Given → List ℕ
given_words (Few words) = words
given_words (Many words) = words
