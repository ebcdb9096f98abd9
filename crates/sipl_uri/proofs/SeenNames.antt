-- The names of the settings in the order of their table and in that of their view.
use Rattle.std.proofs.Common.{◌≡◌, Bool, true, false, ◌||◌, List, [], ◌∷◌, ◌++◌, map, reverse, refl, ap, ◌∙◌}
use Rattle.std.specs.List.{list_any}
use Rattle.std.proofs.lemmas.List.{reverse-append, map-append}
use Rattle.std.proofs.lemmas.List.Folds.{list_any-append}

-- what is appended to a table is seen first
pub reverse-map-append : {A B : Type 0} (f : A → B) (xs : List A) (x : A) → reverse (map f (xs ++ x ∷ [])) ≡ f x ∷ reverse (map f xs)
reverse-map-append f xs x = ap reverse (map-append f xs (x ∷ [])) ∙ reverse-append (map f xs) (f x ∷ [])

or-last : (a b : Bool) → (a || (b || false)) ≡ (b || a)
or-last true true = refl
or-last true false = refl
or-last false true = refl
or-last false false = refl

-- a test finds the same names in both orders
pub list_any-reverse-map : {A B : Type 0} (p : B → Bool) (f : A → B) (xs : List A) → list_any p (reverse (map f xs)) ≡ list_any (λ x. p (f x)) xs
list_any-reverse-map p f [] = refl
list_any-reverse-map p f (x ∷ xs) =
    ap (list_any p) (reverse-append (f x ∷ []) (map f xs)) ∙ list_any-append p (reverse (map f xs)) (f x ∷ [])
    ∙ or-last (list_any p (reverse (map f xs))) (p (f x))
    ∙ ap (λ (b : Bool). p (f x) || b) (list_any-reverse-map p f xs)
