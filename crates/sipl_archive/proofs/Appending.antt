-- A text to which others are appended.
use Rattle.std.proofs.Common.{◌≡◌, ℕ, List, [], ◌∷◌, ◌++◌, append_assoc, ap, ◌∙◌}

pub appends_three : (old first second new x y z : List ℕ)
    → first ≡ old ++ x → second ≡ first ++ y → new ≡ second ++ z → new ≡ old ++ (x ++ y ++ z)
appends_three old first second new x y z a b c =
    c ∙ ap (λ (text : List ℕ). text ++ z) (b ∙ ap (λ (text : List ℕ). text ++ y) a) ∙ simp append_assoc

pub head_written : (old a b c d e new words first count client : List ℕ)
    → a ≡ old ++ words → b ≡ a ++ first → c ≡ b ++ count → d ≡ c ++ 10 ∷ [] → e ≡ d ++ client → new ≡ e ++ 10 ∷ []
    → new ≡ old ++ (words ++ first ++ count ++ 10 ∷ client ++ 10 ∷ [])
head_written old a b c d e new words first count client is_a is_b is_c is_d is_e is_new =
    is_new ∙ ap (λ (text : List ℕ). text ++ 10 ∷ []) (is_e ∙ ap (λ (text : List ℕ). text ++ client) (is_d ∙ ap (λ (text : List ℕ). text ++ 10 ∷ [])
    (is_c ∙ ap (λ (text : List ℕ). text ++ count) (is_b ∙ ap (λ (text : List ℕ). text ++ first) is_a)))) ∙ simp append_assoc
