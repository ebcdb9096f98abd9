-- The order of two picks.
use Rattle.std.proofs.Common.{◌≡◌, ℕ, ◌-◌, ◌<◌, List, [], ◌∷◌, ◌++◌, length, get_or, replicate, slice_get, Some, ap, ◌∙◌, arith}
use Rattle.std.specs.List.{range_with_len, sum_by}
use Rattle.std.proofs.lemmas.List.FromFn.{length-range_with_len}
use Rattle.std.proofs.lemmas.List.Sorted.{length_permutation, sum_by-IsPermutation}
use Rattle.sipl_srv.specs.Order.{Rank, chosen_place, order_of, ordered}
use Rattle.sipl_srv.proofs.Orders.{ordered-IsPermutation}
use Rattle.sipl_srv.proofs.Places.{order_of-chosen_place}

-- an order has a place for each rank
pub length-ordered : (ranks : List Rank) (words : List ℕ) → length (ordered ranks words) ≡ length ranks
length-ordered ranks words =
    length_permutation (range_with_len 0 (length ranks)) (ordered ranks words) (ordered-IsPermutation ranks words) ∙ length-range_with_len 0 (length ranks)

-- the sum of the places
abbrev sum : List ℕ → ℕ
sum places = sum_by (λ place. place) places

-- two places, of which the first is known
pair : (places : List ℕ) (first : ℕ) → length places ≡ 2 → sum places ≡ 1 → slice_get places 0 ≡ Some first → places ≡ first ∷ (1 - first) ∷ []
pair [] first two one is = absurd (omega (arith, two))
pair (x ∷ []) first two one is = absurd (omega (arith, two))
pair (x ∷ y ∷ []) first two one is =
    let same : x ≡ first = cc in
    let other : y ≡ 1 - first = omega (arith, one, same) in
    ap (λ p. p ∷ y ∷ []) same ∙ ap (λ p. first ∷ p ∷ []) other
pair (x ∷ y ∷ z ∷ zs) first two one is = absurd (omega (arith, two))

-- what the first word chooses is first
first-ordered : (ranks : List Rank) (words : List ℕ) (first : ℕ) → length ranks ≡ 2 → 0 < length words → chosen_place ranks (0 ∷ 1 ∷ []) (get_or words 0 0) ≡ Some first → slice_get (ordered ranks words) 0 ≡ Some first
first-ordered ranks [] first two some is = absurd (omega (arith, some))
first-ordered ranks (word ∷ words) first two some is =
    let more : List ℕ = words ++ replicate (length ranks) 0 in
    ap (λ n. slice_get (order_of ranks (range_with_len 0 n) (word ∷ more)) 0) two
    ∙ ap (λ ps. slice_get ps 0) (order_of-chosen_place ranks (0 ∷ 1 ∷ []) more word first is)

-- so the order is known
pub two-ordered : (ranks : List Rank) (words : List ℕ) (first : ℕ) → length ranks ≡ 2 → 0 < length words → chosen_place ranks (0 ∷ 1 ∷ []) (get_or words 0 0) ≡ Some first → ordered ranks words ≡ first ∷ (1 - first) ∷ []
two-ordered ranks words first two some is =
    pair (ordered ranks words) first (length-ordered ranks words ∙ two)
    (sum_by-IsPermutation (λ (place : ℕ). place) (range_with_len 0 (length ranks)) (ordered ranks words) (ordered-IsPermutation ranks words)
    ∙ ap (λ (n : ℕ). sum (range_with_len 0 n)) two)
    (first-ordered ranks words first two some is)
