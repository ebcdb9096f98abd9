-- One more word of the generator.
use Rattle.std.proofs.Common.{◌≡◌, ℕ, suc, ◌+◌, ◌-◌, ◌<◌, ◌≤◌, List, [], ◌∷◌, ◌++◌, length, set, take, refl, ap, sym, ◌∙◌, arith, append_assoc, append-nil}
use Rattle.std.proofs.lemmas.List.{take_all, take_more_set}
use Rattle.rand_core.specs.Steps.{first_words}
use Rattle.rand_pcg.specs.Lcg.{Lcg}
use Rattle.rand_pcg.specs.Pcg.{pcg32}

first_words-suc : (n : ℕ) (g : Lcg) → first_words pcg32 (suc n) g ≡ (pcg32 g).0 ∷ first_words pcg32 n (pcg32 g).1
unfolding first_words
first_words-suc n g = refl

first_words-zero : (g : Lcg) → first_words pcg32 0 g ≡ []
unfolding first_words
first_words-zero g = refl

pub first_words-more : (xs : List ℕ) (i word : ℕ) (g next : Lcg) → length xs ≡ 32 → i < 32 → (word, next) ≡ pcg32 g
    → take (i + 1) (set xs i word) ++ first_words pcg32 (32 - (i + 1)) next ≡ take i xs ++ first_words pcg32 (32 - i) g
first_words-more xs i word g next size below is =
    let left : 32 - i ≡ suc (32 - (i + 1)) = omega arith in
    let P : ℕ × Lcg → List ℕ = λ p. take i xs ++ (p.0 ∷ first_words pcg32 (32 - (i + 1)) p.1) in
    ap (λ ys. ys ++ first_words pcg32 (32 - (i + 1)) next) (take_more_set xs i word (omega arith))
    ∙ append_assoc (take i xs) (word ∷ []) (first_words pcg32 (32 - (i + 1)) next)
    ∙ ap P is
    ∙ ap (λ ys. take i xs ++ ys) (sym (ap (λ n. first_words pcg32 n g) left ∙ first_words-suc (32 - (i + 1)) g))

-- all words
pub first_words-all : (xs : List ℕ) (i : ℕ) (g : Lcg) → length xs ≡ 32 → 32 ≤ i → take i xs ++ first_words pcg32 (32 - i) g ≡ xs
first_words-all xs i g size above =
    let left : 32 - i ≡ 0 = omega arith in
    let all : length xs ≤ i = omega arith in
    ap (λ ys. ys ++ first_words pcg32 (32 - i) g) (take_all i xs all)
    ∙ ap (λ n. xs ++ first_words pcg32 n g) left ∙ ap (λ ys. xs ++ ys) (first_words-zero g) ∙ append-nil xs
