-- A list of distinct numbers of which the first ones are members: what is among them, and what a swap changes.
use Rattle.std.proofs.Common.{◌≡◌, ℕ, ◌+◌, ◌-◌, ◌<◌, ◌≤◌, Bool, false, eqb, ltb, List, [], ◌∷◌, ◌++◌, length, get_or, set, take, drop, slice_get, Some, sym, ap, subst, ◌∙◌, arith, position, inl, inr}
use Rattle.std.specs.List.{list_any, swap, swap_remove}
use Rattle.std.specs.List.Sorted.{IsPermutation}
use Rattle.std.proofs.lemmas.Bool.{cases_lt, lt-ltb, le-ltb, or_parts}
use Rattle.std.proofs.lemmas.List.{length-take-le, get_or-take, take-set-le, take_more_set, length-set, take-set, take-take, take-append-drop, length_push, get_or_push}
use Rattle.std.proofs.Math.Seq.{take-set-lt}
use Rattle.std.proofs.lemmas.List.Edits.{swap_is}
use Rattle.std.proofs.lemmas.List.Folds.{list_any_at, list_any_none, list_any-append}
use Rattle.std.proofs.lemmas.List.Quantifiers.{position-Some}
use Rattle.std.proofs.lemmas.List.Sorted.{IsPermutation-swap_remove}
use Rattle.std.proofs.lemmas.Map.Views.{exact_unsigned_eq}
use Rattle.std.proofs.lemmas.Option.{slice_get-get_or, slice_get_within, get_or_from_slice_get}

-- the first place of a number is among the first k exactly if the number is there
pub list_any-take_at : (p : ℕ → Bool) (xs : List ℕ) (i k : ℕ) → position p xs ≡ Some i → k ≤ length xs → ltb i k ≡ list_any p (take k xs)
list_any-take_at p xs i k at within =
    let size = length-take-le k xs within in
    elim (cases_lt i k) [
      | inl i_lt ↦
          lt-ltb i k i_lt
          ∙ sym (list_any_at p (take k xs) i 0 (omega arith) (ap p (get_or-take k xs i 0 i_lt) ∙ (position-Some p xs i 0 at).1))
      | inr k_le ↦
          le-ltb i k k_le
          ∙ sym (list_any_none p (take k xs) (λ j d j_lt. let j_k : j < k = omega arith in ap p (get_or-take k xs j d j_k) ∙ (position-Some p xs i d at).2 j (omega arith)))
    ]

-- a number that is nowhere is not among the first k
pub list_any-take_absent : (p : ℕ → Bool) (xs : List ℕ) (k : ℕ) → list_any p xs ≡ false → list_any p (take k xs) ≡ false
list_any-take_absent p xs k none =
    (or_parts _ _ (sym (list_any-append p (take k xs) (drop k xs)) ∙ ap (list_any p) (take-append-drop k xs) ∙ none)).0

-- the element at the first place of a number is the number
pub slice_get-position : (xs : List ℕ) (q i : ℕ) → position (eqb q) xs ≡ Some i → slice_get xs i ≡ Some q
slice_get-position xs q i at =
    let here = position-Some (eqb q) xs i q at in
    slice_get-get_or xs i q here.0 ∙ ap Some (sym (exact_unsigned_eq q (get_or xs i q) here.1))

-- the swap of two places, written out
swapped : (xs : List ℕ) (i k x : ℕ) → slice_get xs i ≡ Some x → k < length xs → swap xs i k ≡ set (set xs i (get_or xs k x)) k x
swapped xs i k x at within =
    sym (swap_is xs i k x (slice_get_within xs i x at) within) ∙ ap (set (set xs i (get_or xs k x)) k) (get_or_from_slice_get xs i x x at)

-- an element from k on that is swapped with the one at k joins the first k
pub take-swap_in : (xs : List ℕ) (i k x : ℕ) → slice_get xs i ≡ Some x → k ≤ i → take (k + 1) (swap xs i k) ≡ take k xs ++ x ∷ []
take-swap_in xs i k x at le =
    let i_lt = slice_get_within xs i x at in
    ap (take (k + 1)) (swapped xs i k x at (omega arith))
    ∙ take_more_set (set xs i (get_or xs k x)) k x (omega (arith, length-set xs i (get_or xs k x)))
    ∙ ap (λ ys. ys ++ x ∷ []) (take-set-le k xs i _ le)

-- an element that is pushed is at the end
pub slice_get-push : (xs : List ℕ) (x i : ℕ) → i ≡ length xs → slice_get (xs ++ x ∷ []) i ≡ Some x
slice_get-push xs x i end =
    slice_get-get_or (xs ++ x ∷ []) i x (omega (arith, length_push xs x)) ∙ ap Some (get_or_push xs x x i (sym end))

-- what is left of the first k + 1 places, where the element at i goes and the one at k takes its place
swap_remove-take : (xs : List ℕ) (i k x : ℕ) → slice_get xs i ≡ Some x → i ≤ k → k < length xs → swap_remove (take (k + 1) xs) i x ≡ take k (swap xs i k)
swap_remove-take xs i k x at le within =
    let size = length-take-le (k + 1) xs (omega arith) in
    let last : length (take (k + 1) xs) - 1 ≡ k = omega arith in
    let i_lt : i < k + 1 = omega arith in
    let k_lt : k < k + 1 = omega arith in
    ap (λ n. take n (set (take (k + 1) xs) i (get_or (take (k + 1) xs) n x))) last
    ∙ ap (λ a. take k (set (take (k + 1) xs) i a)) (get_or-take (k + 1) xs k x k_lt)
    ∙ ap (take k) (sym (take-set-lt (k + 1) xs i (get_or xs k x) i_lt))
    ∙ take-take k (k + 1) (set xs i (get_or xs k x)) (omega arith)
    ∙ sym (take-set (set xs i (get_or xs k x)) k x)
    ∙ ap (take k) (sym (swapped xs i k x at within))

-- an element before k that is swapped with the one at k is no longer among the first k, and the others are
pub IsPermutation-swap_out : (xs : List ℕ) (i k x : ℕ) → slice_get xs i ≡ Some x → i ≤ k → k < length xs → IsPermutation (take (k + 1) xs) (x ∷ take k (swap xs i k))
IsPermutation-swap_out xs i k x at le within =
    let size = length-take-le (k + 1) xs (omega arith) in
    let i_lt : i < k + 1 = omega arith in
    let here : x ≡ get_or (take (k + 1) xs) i x = sym (get_or-take (k + 1) xs i x i_lt ∙ get_or_from_slice_get xs i x x at) in
    subst (λ ys. IsPermutation (take (k + 1) xs) (x ∷ ys)) (swap_remove-take xs i k x at le within)
    (IsPermutation-swap_remove (take (k + 1) xs) i x (omega arith) here)
