-- The places that are left: distinct, and each of a pick.
use Rattle.std.proofs.Common.{◌≡◌, ◌≢◌, ℕ, zero, suc, ◌+◌, ◌-◌, ◌<◌, ◌≤◌, not, eqb, List, [], ◌∷◌, ◌++◌, Some, length, get_or, take, drop, refl, ap, sym, ◌∙◌, arith, add-one, append_assoc, append-nil, drop-cons}
use Rattle.std.specs.List.{All, remove, range_with_len}
use Rattle.std.proofs.lemmas.Bool.{eq-eqb, ne_eqb}
use Rattle.std.proofs.lemmas.List.{length-drop, length-take-le, length_push, take_all, drop_all, take_at, drop_at}
use Rattle.std.proofs.lemmas.List.Elements.{All-head, All-tail, All-filter}
use Rattle.std.proofs.lemmas.List.FromFn.{length-range_with_len, get_or-range_with_len}
use Rattle.std.proofs.lemmas.List.Kept.{AllPairs-filter}
use borrow.Rule.Slice.PartMut.{put_mid}
use Rattle.sipl_srv.specs.Order.{Rank, AreDistinct, without, chosen_place, order_of}

AllPairs-first : (x : ℕ) (xs : List ℕ) → AreDistinct (x ∷ xs) → All (λ y. x ≢ y) xs
AllPairs-first x xs apart k d within = apart 0 (suc k) d (omega arith) (omega arith)

AllPairs-rest : (x : ℕ) (xs : List ℕ) → AreDistinct (x ∷ xs) → AreDistinct xs
AllPairs-rest x xs apart i j d below within = apart (suc i) (suc j) d (omega arith) (omega arith)

without-absent : (x : ℕ) (xs : List ℕ) → All (λ y. x ≢ y) xs → without x xs ≡ xs
without-absent x [] apart = refl
without-absent x (y ∷ xs) apart =
    let other : y ≢ x = λ e. All-head (λ z. x ≢ z) y xs apart (sym e) in
    rw (ne_eqb y x other) (ap (λ zs. y ∷ zs) (without-absent x xs (All-tail (λ z. x ≢ z) y xs apart)))

-- to leave out a place is to remove it where it stands
pub without-remove : (places : List ℕ) (i : ℕ) → i < length places → AreDistinct places → without (get_or places i 0) places ≡ remove places i
without-remove [] i within apart = absurd (omega arith)
without-remove (x ∷ xs) zero within apart = rw (eq-eqb x x refl) (without-absent x xs (AllPairs-first x xs apart))
without-remove (x ∷ xs) (suc i) within apart =
    let other : x ≢ get_or xs i 0 = AllPairs-first x xs apart i 0 (omega arith) in
    rw (ne_eqb x (get_or xs i 0) other) (ap (λ zs. x ∷ zs) (without-remove xs i (omega arith) (AllPairs-rest x xs apart)))

pub AreDistinct-without : (place : ℕ) (places : List ℕ) → AreDistinct places → AreDistinct (without place places)
AreDistinct-without place places apart = AllPairs-filter (λ x y. x ≢ y) (λ i. not (eqb i place)) places apart

pub All-without : (n place : ℕ) (places : List ℕ) → All (λ x. x < n) places → All (λ x. x < n) (without place places)
All-without n place places below = All-filter (λ i. not (eqb i place)) (λ x. x < n) places below

-- the places of a list at first
pub AreDistinct-range : (n : ℕ) → AreDistinct (range_with_len 0 n)
AreDistinct-range n i j d below within same =
    let size = length-range_with_len 0 n in
    let first = get_or-range_with_len 0 n i d (omega arith) in
    let second = get_or-range_with_len 0 n j d (omega arith) in
    omega arith

pub All-range : (n : ℕ) → All (λ x. x < n) (range_with_len 0 n)
All-range n k d within =
    let size = length-range_with_len 0 n in
    let here = get_or-range_with_len 0 n k d (omega arith) in
    omega arith

-- nothing is left to choose from
pub order_of-nil : (ranks : List Rank) (words : List ℕ) → order_of ranks [] words ≡ []
order_of-nil ranks [] = refl
order_of-nil ranks (word ∷ words) = refl

-- one choice
pub order_of-chosen_place : (ranks : List Rank) (places words : List ℕ) (word place : ℕ) → chosen_place ranks places word ≡ Some place → order_of ranks places (word ∷ words) ≡ place ∷ order_of ranks (without place places) words
order_of-chosen_place ranks places words word place is = rw (is, order_of) refl

-- after the place at i of what is left from k on has moved to k
pub moved : (order ys : List ℕ) (k i : ℕ) → k < length order → ys ≡ get_or (take (length order - k) (drop k order)) i 0 ∷ remove (take (length order - k) (drop k order)) i
    → (take (k + 1) (put_mid k (length order - k) order ys) ≡ take k order ++ get_or (drop k order) i 0 ∷ []) × (drop (k + 1) (put_mid k (length order - k) order ys) ≡ remove (drop k order) i)
moved order ys k i below is =
    let rest = drop k order in
    let place = get_or rest i 0 in
    let whole = take_all (length order - k) rest (omega (arith, length-drop k order)) in
    let none = drop_all (length order - k) rest (omega (arith, length-drop k order)) in
    let size : length (take k order ++ place ∷ []) ≡ k + 1 = omega (arith, length_push (take k order) place, length-take-le k order (omega arith)) in
    let new : put_mid k (length order - k) order ys ≡ (take k order ++ place ∷ []) ++ remove rest i =
    ap (λ zs. take k order ++ (zs ++ drop (length order - k) rest)) (is ∙ ap (λ zs. get_or zs i 0 ∷ remove zs i) whole)
    ∙ ap (λ zs. take k order ++ ((place ∷ remove rest i) ++ zs)) none
    ∙ ap (λ zs. take k order ++ zs) (append-nil (place ∷ remove rest i))
    ∙ sym (append_assoc (take k order) (place ∷ []) (remove rest i)) in (
      ap (take (k + 1)) new ∙ take_at (take k order ++ place ∷ []) (remove rest i) (k + 1) size,
      ap (drop (k + 1)) new ∙ drop_at (take k order ++ place ∷ []) (remove rest i) (k + 1) size,
    )

-- what the loop keeps, after one choice
pub ordered_more : (ranks : List Rank) (order order' words more start : List ℕ) (k i : ℕ) → k < length words → i < length (drop k order) → AreDistinct (drop k order)
    → take (k + 1) order' ≡ take k order ++ get_or (drop k order) i 0 ∷ [] → drop (k + 1) order' ≡ remove (drop k order) i
    → chosen_place ranks (drop k order) (get_or words k 0) ≡ Some (get_or (drop k order) i 0)
    → take k order ++ order_of ranks (drop k order) (drop k words ++ more) ≡ start
    → take (k + 1) order' ++ order_of ranks (drop (k + 1) order') (drop (k + 1) words ++ more) ≡ start
ordered_more ranks order order' words more start k i below within apart first second next before =
    let rest = drop k order in
    let place = get_or rest i 0 in
    let later = order_of ranks (remove rest i) (drop (k + 1) words ++ more) in
    let left : drop (k + 1) order' ≡ without place rest = second ∙ sym (without-remove rest i within apart) in
    let split : drop k words ≡ get_or words k 0 ∷ drop (k + 1) words = rw add-one (drop-cons words k 0 below) in
    let chose = order_of-chosen_place ranks rest (drop (k + 1) words ++ more) (get_or words k 0) place next in
    ap (λ zs. zs ++ order_of ranks (drop (k + 1) order') (drop (k + 1) words ++ more)) first
    ∙ append_assoc (take k order) (place ∷ []) (order_of ranks (drop (k + 1) order') (drop (k + 1) words ++ more))
    ∙ ap (λ zs. take k order ++ (place ∷ order_of ranks zs (drop (k + 1) words ++ more))) left
    ∙ ap (λ zs. take k order ++ zs) (sym chose)
    ∙ ap (λ ws. take k order ++ order_of ranks rest (ws ++ more)) (sym split)
    ∙ before

-- all places are in order
pub ordered_all : (ranks : List Rank) (order words start : List ℕ) (k : ℕ) → length order ≤ k → take k order ++ order_of ranks (drop k order) words ≡ start → order ≡ start
ordered_all ranks order words start k all is =
    sym (append-nil order)
    ∙ ap (λ zs. order ++ zs) (sym (ap (λ ps. order_of ranks ps words) (drop_all k order all) ∙ order_of-nil ranks words))
    ∙ ap (λ zs. zs ++ order_of ranks (drop k order) words) (sym (take_all k order all))
    ∙ is
