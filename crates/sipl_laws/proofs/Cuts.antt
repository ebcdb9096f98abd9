-- Texts that are cut where an octet of them cannot be in the part before it.
use Rattle.std.proofs.Common.{◌≡◌, ℕ, ◌<◌, ◌≤◌, true, List, [], ◌∷◌, ◌++◌, drop, zero, suc, refl, arith, nat_le}
use Rattle.std.specs.List.{AllByRecursion, flat_map, list_all}
use Rattle.std.proofs.lemmas.Bool.{and_parts}
use Rattle.std.proofs.lemmas.Bool.Decides.{nat_tests}
use Rattle.sipl_names.specs.Labels.{Octets}

-- no octet is below this one
abbrev pub From : ℕ → Octets → Type 0
From low text = AllByRecursion (λ c. low ≤ c) text

-- a text is empty, or begins with this octet
abbrev pub Opens : ℕ → Octets → Type 0
Opens s [] = Unit {0}
Opens s (c ∷ text) = c ≡ s

pub from-append : (low : ℕ) (a b : Octets) → From low a → From low b → From low (a ++ b)
from-append low [] b first second = second
from-append low (c ∷ a) b first second = (first.0, from-append low a b first.1 second)

pub from-lower : (low high : ℕ) (text : Octets) → low ≤ high → From high text → From low text
from-lower low high [] below all = tt
from-lower low high (c ∷ text) below all = let least = all.0 in (omega (arith, least), from-lower low high text below all.1)

pub from-test : (low : ℕ) (text : Octets) → list_all (λ c. nat_le low c) text ≡ true → From low text
from-test low [] all = tt
from-test low (c ∷ text) all =
    let both = and_parts (nat_le low c) (list_all (λ k. nat_le low k) text) all in
    let least : low ≤ c = let is = both.0 in grind (arith, nat_tests) in
    (least, from-test low text both.1)

pub from-flat_map : {X : Type 0} (low : ℕ) (f : X → Octets) → ((x : X) → From low (f x)) → (xs : List X) → From low (flat_map f xs)
from-flat_map low f each [] = tt
from-flat_map low f each (x ∷ xs) = from-append low (f x) (flat_map f xs) (each x) (from-flat_map low f each xs)

pub from-drop : (low n : ℕ) (text : Octets) → From low text → From low (drop n text)
from-drop low zero text all = all
from-drop low (suc n) [] all = tt
from-drop low (suc n) (c ∷ text) all = from-drop low n text all.1

-- two texts are cut at their first octet that is below all those before it
module _ (s low : ℕ) (below : s < low) where
  pub cut : (a b r q : Octets) → From low a → From low b → Opens s r → Opens s q → a ++ r ≡ b ++ q → (a ≡ b) × (r ≡ q)
  cut [] [] r q first second opens others is = (refl, is)
  cut [] (c ∷ b) [] q first second opens others is = absurd (let never = is in cc)
  cut [] (c ∷ b) (d ∷ r) q first second opens others is =
      let same : d ≡ c = let at = is in cc in
      let least = second.0 in
      absurd (omega (arith, same, least, opens, below))
  cut (c ∷ a) [] r [] first second opens others is = absurd (let never = is in cc)
  cut (c ∷ a) [] r (d ∷ q) first second opens others is =
      let same : c ≡ d = let at = is in cc in
      let least = first.0 in
      absurd (omega (arith, same, least, others, below))
  cut (c ∷ a) (d ∷ b) r q first second opens others is =
      let same : c ≡ d = let at = is in cc in
      let parts = cut a b r q first.1 second.1 opens others (let at = is in cc) in
      (λ i. same i ∷ parts.0 i, parts.1)
