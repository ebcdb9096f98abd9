-- Lemmas on the cutting of an input into lines, in one piece and in many.
use Rattle.std.proofs.Common.{◌≡◌, ℕ, ◌+◌, ◌-◌, ◌<◌, ◌≤◌, List, [], ◌∷◌, ◌++◌, true, false, if◌then◌else◌, ◌==◌, length, get_or, take, drop, refl, sym, ap, subst, ◌∙◌, inl, inr, append_assoc, append-nil, zero, suc, eq-eqb, ne_eqb, arith}
use Rattle.std.proofs.lemmas.List.{drop_more, take_more, take_all, take-take, take-append-drop, drop_all, take_at, take-append-le, length-take-le, get_or-take}
use Rattle.std.proofs.lemmas.Bool.{cases_lt}
use Rattle.std.proofs.Math.Seq.{take-append-add, take-append_seam}
use Rattle.sipl_records.specs.Parts.{parts, prepend_to_first}
use Rattle.sipl_lines.specs.Lines.{without_cr, lines_among, complete_among}
use Rattle.sipl_lines.specs.Items.{Item, line, end_of_input, line_items, items_of, complete_items}
use Rattle.sipl_lines.specs.Machine.{items_from, pending_after, kept_prefix, last_items, read_items, EndsNoLine, EndsLine}

-- ---- an input in two pieces

pub items_from-append : (a b pending : List ℕ) → items_from pending (a ++ b) ≡ items_from pending a ++ items_from (pending_after pending a) b
items_from-append [] b pending = refl
items_from-append (c ∷ a) b pending =
    elim (c == 10) as (λ v. (if v then line (without_cr pending) ∷ items_from [] (a ++ b) else items_from (pending ++ c ∷ []) (a ++ b))
    ≡ (if v then line (without_cr pending) ∷ items_from [] a else items_from (pending ++ c ∷ []) a)
    ++ items_from (if v then pending_after [] a else pending_after (pending ++ c ∷ []) a) b)
    [ true ↦ ap (λ items. line (without_cr pending) ∷ items) (items_from-append a b []) | false ↦ items_from-append a b (pending ++ c ∷ []) ]

pub pending_after-append : (a b pending : List ℕ) → pending_after pending (a ++ b) ≡ pending_after (pending_after pending a) b
pending_after-append [] b pending = refl
pending_after-append (c ∷ a) b pending =
    elim (c == 10) as (λ v. (if v then pending_after [] (a ++ b) else pending_after (pending ++ c ∷ []) (a ++ b))
    ≡ pending_after (if v then pending_after [] a else pending_after (pending ++ c ∷ []) a) b)
    [ true ↦ pending_after-append a b [] | false ↦ pending_after-append a b (pending ++ c ∷ []) ]

-- ---- the machine's lines are those of the input

-- a text before the first part
abbrev with_first : List ℕ → List (List ℕ) → List (List ℕ)
with_first pending [] = []
with_first pending (part ∷ others) = (pending ++ part) ∷ others

with_first-nil : (all : List (List ℕ)) → with_first [] all ≡ all
with_first-nil [] = refl
with_first-nil (part ∷ others) = refl

-- the parts have a first one
abbrev HasFirst : List (List ℕ) → Type 0
HasFirst [] = ⊥
HasFirst (part ∷ others) = Unit {0}

prepend_to_first-has : (c : ℕ) (all : List (List ℕ)) → HasFirst (prepend_to_first c all)
prepend_to_first-has c [] = tt
prepend_to_first-has c (part ∷ others) = tt

parts-has : (input : List ℕ) → HasFirst (parts 10 input)
parts-has [] = tt
parts-has (c ∷ input) = elim (c == 10) as (λ v. HasFirst (if v then [] ∷ parts 10 input else prepend_to_first c (parts 10 input))) [ true ↦ tt | false ↦ prepend_to_first-has c (parts 10 input) ]

with_first-prepend_to_first : (pending : List ℕ) (c : ℕ) (all : List (List ℕ)) → HasFirst all → with_first pending (prepend_to_first c all) ≡ with_first (pending ++ c ∷ []) all
with_first-prepend_to_first pending c [] has = absurd has
with_first-prepend_to_first pending c (part ∷ others) has = ap (λ first. first ∷ others) (sym (append_assoc pending (c ∷ []) part))

complete-cons : (part : List ℕ) (others : List (List ℕ)) → HasFirst others → complete_among (part ∷ others) ≡ without_cr part ∷ complete_among others
complete-cons part [] has = absurd has
complete-cons part (next ∷ others) has = refl

-- the items of complete lines among parts
abbrev complete_among_items : List (List ℕ) → List Item
complete_among_items all = line_items (complete_among all)

complete-from : (input pending : List ℕ) → complete_among_items (with_first pending (parts 10 input)) ≡ items_from pending input
complete-from [] pending = refl
complete-from (c ∷ input) pending =
    elim (c == 10) as (λ v. complete_among_items (with_first pending (if v then [] ∷ parts 10 input else prepend_to_first c (parts 10 input)))
    ≡ (if v then line (without_cr pending) ∷ items_from [] input else items_from (pending ++ c ∷ []) input)) [
      | true ↦ ap line_items (complete-cons (pending ++ []) (parts 10 input) (parts-has input))
          ∙ ap (λ p. line (without_cr p) ∷ complete_among_items (parts 10 input)) (append-nil pending)
          ∙ ap (λ items. line (without_cr pending) ∷ items) (ap complete_among_items (sym (with_first-nil (parts 10 input))) ∙ complete-from input [])
      | false ↦ ap complete_among_items (with_first-prepend_to_first pending c (parts 10 input) (parts-has input)) ∙ complete-from input (pending ++ c ∷ [])
    ]

-- the complete lines of an input are those that the machine ends
pub complete_items-from : (input : List ℕ) → complete_items input ≡ items_from [] input
complete_items-from input = ap complete_among_items (sym (with_first-nil (parts 10 input))) ∙ complete-from input []

lines-cons : (part : List ℕ) (others : List (List ℕ)) → HasFirst others → lines_among (part ∷ others) ≡ without_cr part ∷ lines_among others
lines-cons [] [] has = absurd has
lines-cons (c ∷ part) [] has = absurd has
lines-cons [] (next ∷ others) has = refl
lines-cons (c ∷ part) (next ∷ others) has = refl

-- the items of the lines among parts, and the end of the input
abbrev among_items : List (List ℕ) → List Item
among_items all = line_items (lines_among all) ++ end_of_input ∷ []

among-one : (part : List ℕ) → among_items (part ∷ []) ≡ last_items part
among-one [] = refl
among-one (c ∷ part) = refl

among-from : (input pending : List ℕ) → among_items (with_first pending (parts 10 input)) ≡ items_from pending input ++ last_items (pending_after pending input)
among-from [] pending = among-one (pending ++ []) ∙ ap last_items (append-nil pending)
among-from (c ∷ input) pending =
    elim (c == 10) as (λ v. among_items (with_first pending (if v then [] ∷ parts 10 input else prepend_to_first c (parts 10 input)))
    ≡ (if v then line (without_cr pending) ∷ items_from [] input else items_from (pending ++ c ∷ []) input)
    ++ last_items (if v then pending_after [] input else pending_after (pending ++ c ∷ []) input)) [
      | true ↦ ap (λ lines. line_items lines ++ end_of_input ∷ []) (lines-cons (pending ++ []) (parts 10 input) (parts-has input))
          ∙ ap (λ p. line (without_cr p) ∷ among_items (parts 10 input)) (append-nil pending)
          ∙ ap (λ items. line (without_cr pending) ∷ items) (ap among_items (sym (with_first-nil (parts 10 input))) ∙ among-from input [])
      | false ↦ ap among_items (with_first-prepend_to_first pending c (parts 10 input) (parts-has input)) ∙ among-from input (pending ++ c ∷ [])
    ]

-- the items of an input are those that the machine gives, and then those of what is pending
pub items_of-from : (input : List ℕ) → items_of input ≡ items_from [] input ++ last_items (pending_after [] input)
items_of-from input = ap among_items (sym (with_first-nil (parts 10 input))) ∙ among-from input []

-- ---- the search for the first LF of a chunk

-- the machine has come so far in the octets, and no line has ended
abbrev pub PassedTo : List ℕ → ℕ → Type 0
PassedTo octets i = (pending : List ℕ) → (items_from pending octets ≡ items_from (pending ++ take i octets) (drop i octets))
    × (pending_after pending octets ≡ pending_after (pending ++ take i octets) (drop i octets))

pub passed_none : (octets : List ℕ) → PassedTo octets 0
passed_none octets pending = (ap (λ p. items_from p octets) (sym (append-nil pending)), ap (λ p. pending_after p octets) (sym (append-nil pending)))

at_other : (c : ℕ) (A : Type 0) (x y : A) → (c == 10) ≡ false → (if c == 10 then x else y) ≡ y
at_other c A x y e = ap (λ v. if v then x else y) e

pub passed_more : (octets : List ℕ) (i : ℕ) → i < length octets → (get_or octets i 0 ≡ 10 → ⊥) → PassedTo octets i → PassedTo octets (i + 1)
passed_more octets i below other passed pending =
    let c = get_or octets i 0 in
    let split : drop i octets ≡ c ∷ drop (i + 1) octets = drop_more octets i 0 below in
    let joined : (pending ++ take i octets) ++ c ∷ [] ≡ pending ++ take (i + 1) octets =
    append_assoc pending (take i octets) (c ∷ []) ∙ ap (λ front. pending ++ front) (sym (take_more octets i 0 below)) in (
      (passed pending).0 ∙ ap (λ rest. items_from (pending ++ take i octets) rest) split
          ∙ at_other c (List Item) (line (without_cr (pending ++ take i octets)) ∷ items_from [] (drop (i + 1) octets)) (items_from ((pending ++ take i octets) ++ c ∷ []) (drop (i + 1) octets)) (ne_eqb c 10 other)
          ∙ ap (λ p. items_from p (drop (i + 1) octets)) joined,
      (passed pending).1 ∙ ap (λ rest. pending_after (pending ++ take i octets) rest) split
          ∙ at_other c (List ℕ) (pending_after [] (drop (i + 1) octets)) (pending_after ((pending ++ take i octets) ++ c ∷ []) (drop (i + 1) octets)) (ne_eqb c 10 other)
          ∙ ap (λ p. pending_after p (drop (i + 1) octets)) joined,
    )

-- the search has passed so many octets, and none of them is an LF
pub passed_to : (octets : List ℕ) (n : ℕ) → n ≤ length octets → ((i : ℕ) → i < n → get_or octets i 0 ≡ 10 → ⊥) → PassedTo octets n
passed_to octets zero within none = passed_none octets
passed_to octets (suc n) within none =
    let next : n + 1 ≡ suc n = omega arith in
    subst (PassedTo octets) next
    (passed_more octets n (omega arith) (none n (omega arith)) (passed_to octets n (omega arith) (λ i below. none i (omega arith))))

pub passed_all : (octets : List ℕ) (i : ℕ) → length octets ≤ i → PassedTo octets i → EndsNoLine octets
passed_all octets i all passed pending =
    let front : take i octets ≡ octets = take_all i octets all in
    let behind : drop i octets ≡ [] = drop_all i octets all in (
      (passed pending).0 ∙ ap (λ rest. items_from (pending ++ take i octets) rest) behind,
      (passed pending).1 ∙ ap (λ rest. pending_after (pending ++ take i octets) rest) behind ∙ ap (λ text. pending ++ text) front,
    )

-- no line ends before the first LF
pub passed_before : (octets : List ℕ) (i : ℕ) → i ≤ length octets → ((k : ℕ) → k < i → get_or octets k 0 ≡ 10 → ⊥) → EndsNoLine (take i octets)
passed_before octets i within none =
    let front = take i octets in
    let count : length front ≡ i = length-take-le i octets within in
    passed_all front i (omega arith) (passed_to front i (omega arith) (λ k below lf. none k below (sym (get_or-take i octets k 0 below) ∙ lf)))

pub passed_found : (octets : List ℕ) (i : ℕ) → i < length octets → get_or octets i 0 ≡ 10 → EndsNoLine (take i octets) → EndsLine octets (take i octets) (drop (i + 1) octets)
passed_found octets i below end none =
    let split : drop i octets ≡ 10 ∷ drop (i + 1) octets = drop_more octets i 0 below ∙ ap (λ c. c ∷ drop (i + 1) octets) end in
    (sym (take-append-drop i octets) ∙ ap (λ rest. take i octets ++ rest) split, none)

-- the first line that ends, and the items of the rest
pub items_first : (pending octets piece rest : List ℕ) → EndsLine octets piece rest → items_from pending octets ≡ line (without_cr (pending ++ piece)) ∷ items_from [] rest
items_first pending octets piece rest ends =
    ap (items_from pending) ends.0 ∙ items_from-append piece (10 ∷ rest) pending
    ∙ ap (λ items. items ++ items_from (pending_after pending piece) (10 ∷ rest)) (ends.1 pending).0
    ∙ ap (λ p. items_from p (10 ∷ rest)) (ends.1 pending).1

-- ---- what is kept of a pending line

pub take-append_rest : (n : ℕ) (a b : List ℕ) → length a ≤ n → take n (a ++ b) ≡ a ++ take (n - length a) b
take-append_rest n a b short =
    let whole : length a + (n - length a) ≡ n = omega arith in
    ap (λ k. take k (a ++ b)) (sym whole) ∙ take-append-add a b (n - length a)

-- to keep a front and then more is to keep of all
pub take-kept : (n : ℕ) (p x : List ℕ) → take n (take n p ++ x) ≡ take n (p ++ x)
take-kept n p x =
    elim (cases_lt n (length p)) as (λ _. take n (take n p ++ x) ≡ take n (p ++ x)) [
      | inl over ↦ take_at (take n p) x n (length-take-le n p (omega arith)) ∙ sym (take-append-le n p x (omega arith))
      | inr short ↦ ap (λ q. take n (q ++ x)) (take_all n p (omega arith))
    ]

pub kept-kept : (p : List ℕ) → kept_prefix (kept_prefix p) ≡ kept_prefix p
kept-kept p = take-take 65538 65538 p (omega arith)

-- what was kept before more was
pub kept-take : (p x : List ℕ) → length p ≤ 65538 → take (length p) (kept_prefix (p ++ x)) ≡ p
kept-take p x short = take-take (length p) 65538 (p ++ x) short ∙ take-append_seam p x

pub kept-append : (p q x : List ℕ) → kept_prefix p ≡ kept_prefix q → kept_prefix (p ++ x) ≡ kept_prefix (q ++ x)
kept-append p q x like = sym (take-kept 65538 p x) ∙ ap (λ front. take 65538 (front ++ x)) like ∙ take-kept 65538 q x

pub kept-pending_after : (octets p q : List ℕ) → kept_prefix p ≡ kept_prefix q → kept_prefix (pending_after p octets) ≡ kept_prefix (pending_after q octets)
kept-pending_after [] p q like = like
kept-pending_after (c ∷ octets) p q like =
    elim (c == 10) as (λ v. kept_prefix (if v then pending_after [] octets else pending_after (p ++ c ∷ []) octets) ≡ kept_prefix (if v then pending_after [] octets else pending_after (q ++ c ∷ []) octets))
    [ true ↦ refl | false ↦ kept-pending_after octets (p ++ c ∷ []) (q ++ c ∷ []) (kept-append p q (c ∷ []) like) ]

-- ---- the items of a read

pub read_items-some : (pending octets : List ℕ) → (length octets ≡ 0 → ⊥) → items_from pending octets ≡ read_items pending octets
read_items-some pending [] some = absurd (some refl)
read_items-some pending (c ∷ octets) some = refl

-- ---- a line without the CR at its end

pub without_cr-length : (text : List ℕ) → length text ≤ length (without_cr text) + 1
without_cr-length [] = omega arith
without_cr-length (c ∷ []) = elim (c == 13) as (λ v. length (c ∷ []) ≤ length (if v then [] else c ∷ []) + 1) [ true ↦ omega arith | false ↦ omega arith ]
without_cr-length (c ∷ next ∷ text) = omega (arith, without_cr-length (next ∷ text))

ends_at : (text : List ℕ) (last : ℕ) → length text ≡ last + 1 → (get_or text last 0 == 13) ≡ true → take last text ≡ without_cr text
ends_at [] last count end = absurd (omega arith)
ends_at (c ∷ []) zero count end = sym (ap (λ v. if v then [] else c ∷ []) end)
ends_at (c ∷ []) (suc last) count end = absurd (omega arith)
ends_at (c ∷ next ∷ text) zero count end = absurd (omega arith)
ends_at (c ∷ next ∷ text) (suc last) count end = ap (λ rest. c ∷ rest) (ends_at (next ∷ text) last (omega arith) end)

other_at : (text : List ℕ) (last : ℕ) → length text ≡ last + 1 → (get_or text last 0 == 13) ≡ false → text ≡ without_cr text
other_at [] last count other = refl
other_at (c ∷ []) zero count other = sym (ap (λ v. if v then [] else c ∷ []) other)
other_at (c ∷ []) (suc last) count other = absurd (omega arith)
other_at (c ∷ next ∷ text) zero count other = absurd (omega arith)
other_at (c ∷ next ∷ text) (suc last) count other = ap (λ rest. c ∷ rest) (other_at (next ∷ text) last (omega arith) other)

pub without_cr-ends : (text : List ℕ) → 0 < length text → get_or text (length text - 1) 0 ≡ 13 → take (length text - 1) text ≡ without_cr text
without_cr-ends text some end = ends_at text (length text - 1) (omega arith) (eq-eqb _ 13 end)

pub without_cr-other : (text : List ℕ) → 0 < length text → (get_or text (length text - 1) 0 ≡ 13 → ⊥) → text ≡ without_cr text
without_cr-other text some other = other_at text (length text - 1) (omega arith) (ne_eqb _ 13 other)

pub without_cr-none : (text : List ℕ) → length text ≡ 0 → text ≡ without_cr text
without_cr-none [] none = refl
without_cr-none (c ∷ text) none = absurd (omega arith)
