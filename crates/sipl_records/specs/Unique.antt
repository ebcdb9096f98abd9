-- Each value of a list once.
use Rattle.std.specs.Prelude.{Bool, not, List, [], ◌∷◌, filter}

-- each value once, at its first place, where `same` says which values are one
abbrev pub unique : {A : Type 0} → (A → A → Bool) → List A → List A
unique same [] = []
unique same (x ∷ xs) = x ∷ filter (λ y. not (same x y)) (unique same xs)
