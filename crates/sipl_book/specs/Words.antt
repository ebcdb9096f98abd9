-- The random words of an event: those up to the last that is not 0, and the words of 0 after them.
use Rattle.std.specs.Prelude.{◌≡◌, ℕ, ◌-◌, ◌≤◌, List, [], ◌∷◌, ◌++◌, length, replicate, if◌then◌else◌, ◌==◌}

-- a word before others, where it is 0 and none is after it not
abbrev pub before_zeros : ℕ → List ℕ → List ℕ
before_zeros word [] = if word == 0 then [] else word ∷ []
before_zeros word (next ∷ others) = word ∷ next ∷ others

-- the words up to the last one that is not 0
abbrev pub without_last_zeros : List ℕ → List ℕ
without_last_zeros [] = []
without_last_zeros (word ∷ words) = before_zeros word (without_last_zeros words)

-- the words that are given, followed by 0 up to 32 in all
abbrev pub with_last_zeros : List ℕ → List ℕ
with_last_zeros given = given ++ replicate (32 - length given) 0

-- words that can be given: at most 32, and the last one is not 0
pub record AreGiven (words : List ℕ) : Type 0 where
  pub few : length words ≤ 32
  pub last : without_last_zeros words ≡ words
