-- Parts of a list that change their places.
use Rattle.std.proofs.Common.{◌≡◌, ◌≤◌, ◌-◌, ◌++◌, List, ℕ, length, take, drop, arith, ap, sym, ◌∙◌, length-append, append_assoc}
use Rattle.std.proofs.lemmas.List.{take-append-drop, drop-drop, length-take, length-drop}
use Rattle.std.proofs.Math.Seq.{take-append_seam, drop-append_seam}

-- the items from a start on, of which so many come behind the others
abbrev pub rotated : {X : Type 0} → ℕ → ℕ → List X → List X
rotated start count xs = take start xs ++ (drop count (drop start xs) ++ take count (drop start xs))

rotated-parts : {X : Type 0} (a b c : List X) → rotated (length a) (length b) (a ++ (b ++ c)) ≡ a ++ (c ++ b)
rotated-parts a b c =
    let rest : drop (length a) (a ++ (b ++ c)) ≡ b ++ c = drop-append_seam a (b ++ c) in
    λ i. take-append_seam a (b ++ c) i ++ ((ap (drop (length b)) rest ∙ drop-append_seam b c) i ++ (ap (take (length b)) rest ∙ take-append_seam b c) i)

moved-parts : {X : Type 0} (a b d last : List X)
    → rotated (length a) (length b) (rotated (length (a ++ b)) (length d) ((a ++ (b ++ d)) ++ last)) ≡ (a ++ (last ++ d)) ++ b
moved-parts a b d last =
    ap (rotated (length a) (length b)) (ap (rotated (length (a ++ b)) (length d)) (ap (λ xs. xs ++ last) (sym (append_assoc a b d)) ∙ append_assoc (a ++ b) d last) ∙ rotated-parts (a ++ b) d last ∙ append_assoc a b (last ++ d)) ∙ rotated-parts a b (last ++ d) ∙ sym (append_assoc a (last ++ d) b)

-- what is last moves before those after an end, and those from a start to the end come last
moved : {X : Type 0} (kept last : List X) (start end : ℕ) → start ≤ end → end ≤ length kept
    → rotated start (end - start) (rotated end (length kept - end) (kept ++ last))
    ≡ (take start kept ++ (last ++ drop end kept)) ++ take (end - start) (drop start kept)
moved kept last start end order limit =
    let a = take start kept in
    let b = take (end - start) (drop start kept) in
    let d = drop end kept in
    let after : drop (end - start) (drop start kept) ≡ d = drop-drop (end - start) start kept ∙ ap (λ n. drop n kept) (omega (arith, order)) in
    let parts : a ++ (b ++ d) ≡ kept = ap (λ xs. a ++ (b ++ xs)) (sym after) ∙ ap (λ xs. a ++ xs) (take-append-drop (end - start) (drop start kept)) ∙ take-append-drop start kept in
    let length_a : length a ≡ start = omega (arith, length-take start kept, order, limit) in
    let length_d : length d ≡ length kept - end = length-drop end kept in
    let length_b : length b ≡ end - start = omega (arith, ap length parts, length-append a (b ++ d), length-append b d, length_a, length_d, order, limit) in
    let length_ab : length (a ++ b) ≡ end = omega (arith, length-append a b, length_a, length_b, order) in
    (λ i. rotated (sym length_a i) (sym length_b i) (rotated (sym length_ab i) (sym length_d i) (sym parts i ++ last))) ∙ moved-parts a b d last

pub rotated-length : {X : Type 0} (start count : ℕ) (xs : List X) → length (rotated start count xs) ≡ length xs
rotated-length start count xs =
    let rest = drop start xs in
    omega (arith, length-append (take start xs) (drop count rest ++ take count rest), length-append (drop count rest) (take count rest), length-append (take count rest) (drop count rest), ap length (take-append-drop count rest), length-append (take start xs) rest, ap length (take-append-drop start xs))

-- what is written in the place of all items
pub written : {X : Type 0} (n : ℕ) (new old : List X) → length new ≡ n → take n (new ++ drop (length new) old) ≡ new
written n new old long = ap (λ n. take n (new ++ drop (length new) old)) (sym long) ∙ take-append_seam new (drop (length new) old)

-- what is left once the last have moved, and those that were between are cut off
pub cut-off : {X : Type 0} (kept last moved_twice : List X) (start end size : ℕ) → start ≤ end → end ≤ length kept
    → size ≡ length (kept ++ last)
    → moved_twice ≡ rotated start (end - start) (rotated end (length kept - end) (kept ++ last))
    → take (size - (end - start)) moved_twice ≡ take start kept ++ (last ++ drop end kept)
cut-off kept last moved_twice start end size order limit counted is =
    let first = take start kept ++ (last ++ drop end kept) in
    let behind = take (end - start) (drop start kept) in
    let moved_is : moved_twice ≡ first ++ behind = is ∙ moved kept last start end order limit in
    let counted_behind : length behind ≡ end - start = omega (arith, length-take (end - start) (drop start kept), length-drop start kept, order, limit) in
    let total : length moved_twice ≡ length (kept ++ last) = ap length is ∙ rotated-length start (end - start) (rotated end (length kept - end) (kept ++ last)) ∙ rotated-length end (length kept - end) (kept ++ last) in
    let left : size - (end - start) ≡ length first = omega (arith, counted, total, ap length moved_is, length-append first behind, counted_behind) in
    (λ i. take (left i) (moved_is i)) ∙ take-append_seam first behind
