-- Receipts in order, cut at a number.
use Rattle.std.proofs.Common.{zero, suc, ◌≡◌, ◌<◌, ◌≤◌, ◌+◌, ℕ, List, [], ◌∷◌, ◌++◌, length, take, drop, get_or, set, map, cond, true, not, nat_eq, nat_le, refl, sym, ap, ◌∙◌, arith, append-nil, take_all}
use Rattle.std.specs.List.{filter}
use Rattle.std.proofs.lemmas.Bool.Decides.{nat_tests}
use Rattle.std.proofs.lemmas.Grind.{common_steps}
use Rattle.std.proofs.lemmas.List.{get_or-take, get_or_default, drop_all}
use Rattle.std.proofs.lemmas.List.Elements.{filter-append}
use Rattle.sipl_service.specs.declared.receipt.Receipt.{Receipt}
use Rattle.sipl_service.specs.Receipts.{IsAscending, all_receipts, due, later}

rest_ascending : (x : Receipt) (xs : List Receipt) → IsAscending (x ∷ xs) → IsAscending xs
rest_ascending x xs h = record { ordered = λ i j d less inside. h.ordered (suc i) (suc j) d (omega arith) (omega arith) }

none_due : (e : ℕ) (xs : List Receipt) → ((k : ℕ) (d : Receipt) → k < length xs → e ≤ (get_or xs k d).number) → (due e xs ≡ []) × (later e xs ≡ xs)
none_due e [] all = (refl, refl)
none_due e (x ∷ xs) all =
    let here : e ≤ x.number = all 0 x (omega arith) in
    let rest = none_due e xs (λ k d less. all (suc k) d (omega arith)) in
    (grind (arith, nat_tests, rest.0), grind (arith, nat_tests, rest.1))

-- those below an end are the first ones
pub cut : (e i : ℕ) (xs : List Receipt) → IsAscending xs → i ≤ length xs → ((k : ℕ) (d : Receipt) → k < i → (get_or xs k d).number < e) → ((d : Receipt) → i < length xs → e ≤ (get_or xs i d).number)
    → (take i xs ≡ due e xs) × (drop i xs ≡ later e xs)
cut e zero [] h le below at = (refl, refl)
cut e (suc i) [] h le below at = absurd (omega arith)
cut e zero (x ∷ xs) h le below at =
    let first : e ≤ x.number = at x (omega arith) in
    let none = none_due e xs (λ k d less. let more = h.ordered 0 (suc k) d (omega arith) (omega arith) in omega arith) in
    (grind (arith, nat_tests, none.0), grind (arith, nat_tests, none.1))
cut e (suc i) (x ∷ xs) h le below at =
    let first : x.number < e = below 0 x (omega arith) in
    let rest = cut e i xs (rest_ascending x xs h) (omega arith) (λ k d less. below (suc k) d (omega arith)) (λ d less. at d (omega arith)) in
    (grind (arith, nat_tests, rest.0), grind (arith, nat_tests, rest.1))

later-append : (e : ℕ) (xs ys : List Receipt) → later e (xs ++ ys) ≡ later e xs ++ later e ys
later-append e xs ys = filter-append (λ receipt. nat_le e receipt.number) xs ys

pub later-all : (e : ℕ) (waiting : List (List Receipt)) → all_receipts (map (later e) waiting) ≡ later e (all_receipts waiting)
later-all e [] = refl
later-all e (xs ∷ waiting) = ap (λ ys. later e xs ++ ys) (later-all e waiting) ∙ sym (later-append e xs (all_receipts waiting))

length-take_le : (n : ℕ) (xs : List Receipt) → length (take n xs) ≤ n
length-take_le n xs = grind (arith, common_steps)

-- where a receipt that is due stands
pub due_at : (e count j : ℕ) (xs : List Receipt) (r : Receipt) → take count xs ≡ due e xs → count ≤ length xs → j < count → r ≡ get_or xs j r
    → (j < length (due e xs)) × (r ≡ get_or (due e xs) j r)
due_at e count j xs r is within less at =
    let long : length (due e xs) ≡ count = ap length (sym is) ∙ grind (arith, common_steps) in
    (omega (arith, long), at ∙ sym (get_or-take count xs j r less) ∙ ap (λ ys. get_or ys j r) is)

pub due_whole : (e count j : ℕ) (xs : List Receipt) → take count xs ≡ due e xs → count ≤ j → take j (due e xs) ≡ due e xs
due_whole e count j xs is less =
    let short : length (due e xs) ≤ j = let long : length (due e xs) ≤ count = rw (← is) (length-take_le count xs) in omega arith in
    take_all j (due e xs) short

pub drop_ascending : (i : ℕ) (xs : List Receipt) → IsAscending xs → IsAscending (drop i xs)
drop_ascending zero xs h = h
drop_ascending (suc i) [] h = h
drop_ascending (suc i) (x ∷ xs) h = drop_ascending i xs (rest_ascending x xs h)

pub cut_here : (e i : ℕ) (xs : List Receipt) (v : Receipt) → IsAscending xs → i < length xs → ((k : ℕ) (d : Receipt) → k < i → (get_or xs k d).number < e) → v ≡ get_or xs i v → e ≤ v.number
    → (take i xs ≡ due e xs) × (drop i xs ≡ later e xs)
cut_here e i xs v h less below at from = cut e i xs h (omega arith) below (λ d _. rw (get_or_default xs i d v less ∙ sym at) from)

-- what was handed over, as the receipts below an end are let go of one after another
pub set_step : (F : List Receipt → List Receipt) (init : List (List Receipt)) (i : ℕ) (y d : List Receipt) → i < length init → y ≡ F (get_or init i d)
    → set (map F (take i init) ++ drop i init) i y ≡ map F (take (suc i) init) ++ drop (suc i) init
set_step F [] i y d less is = absurd (omega arith)
set_step F (x ∷ init) zero y d less is = ap (λ z. z ∷ init) is
set_step F (x ∷ init) (suc i) y d less is = ap (λ zs. F x ∷ zs) (set_step F init i y d (omega arith) is)

get_step : (F : List Receipt → List Receipt) (init : List (List Receipt)) (i : ℕ) (d : List Receipt) → get_or (map F (take i init) ++ drop i init) i d ≡ get_or init i d
get_step F [] zero d = refl
get_step F [] (suc i) d = refl
get_step F (x ∷ init) zero d = refl
get_step F (x ∷ init) (suc i) d = get_step F init i d

pub let_go-step : (e i : ℕ) (init now : List (List Receipt)) (x y : List Receipt) → now ≡ map (later e) (take i init) ++ drop i init → i < length init → x ≡ get_or now i x → y ≡ later e x
    → set now i y ≡ map (later e) (take (i + 1) init) ++ drop (i + 1) init
let_go-step e i init now x y so_far less at is =
    let one : suc i ≡ i + 1 = omega arith in
    ap (λ l. set l i y) so_far
    ∙ set_step (later e) init i y x less (is ∙ ap (later e) (at ∙ ap (λ l. get_or l i x) so_far ∙ get_step (later e) init i x))
    ∙ ap (λ n. map (later e) (take n init) ++ drop n init) one

-- without those of which nothing is left
pub filled : (waiting : List (List Receipt)) → all_receipts (filter (λ xs. not (nat_eq (length xs) 0)) waiting) ≡ all_receipts waiting
filled [] = refl
filled ([] ∷ waiting) = filled waiting
filled ((x ∷ xs) ∷ waiting) =
    let some : not (nat_eq (suc (length xs)) 0) ≡ true = grind (arith, nat_tests) in
    ap (λ b. all_receipts (cond b ((x ∷ xs) ∷ filter (λ ys. not (nat_eq (length ys) 0)) waiting) (filter (λ ys. not (nat_eq (length ys) 0)) waiting))) some
    ∙ ap (λ ys. x ∷ (xs ++ ys)) (filled waiting)

pub let_go-all : (e i : ℕ) (init now kept : List (List Receipt)) → now ≡ map (later e) (take i init) ++ drop i init → length init ≤ i → kept ≡ filter (λ xs. not (nat_eq (length xs) 0)) now
    → all_receipts kept ≡ later e (all_receipts init)
let_go-all e i init now kept so_far done is =
    ap all_receipts is ∙ filled now
    ∙ ap all_receipts (so_far ∙ ap (λ l. map (later e) l ++ drop i init) (take_all i init done) ∙ ap (λ l. map (later e) init ++ l) (drop_all i init done) ∙ append-nil (map (later e) init))
    ∙ later-all e init

pub none_there : (waiting : List (List Receipt)) (i : ℕ) (xs : List Receipt) → i < length waiting → xs ≡ get_or waiting i xs → all_receipts waiting ≡ [] → xs ≡ []
none_there [] i xs less at none = absurd (omega arith)
none_there ([] ∷ waiting) zero xs less at none = at
none_there ((y ∷ ys) ∷ waiting) zero xs less at none = cc
none_there ([] ∷ waiting) (suc i) xs less at none = none_there waiting i xs (omega arith) at none
none_there ((y ∷ ys) ∷ waiting) (suc i) xs less at none = cc

drop_one : (n : ℕ) (xs : List Receipt) → drop 1 (drop n xs) ≡ drop (suc n) xs
drop_one zero xs = refl
drop_one (suc n) [] = refl
drop_one (suc n) (x ∷ xs) = drop_one n xs

pub drop_next : (n : ℕ) (xs ys zs : List Receipt) → ys ≡ drop n xs → zs ≡ drop 1 ys → zs ≡ drop (n + 1) xs
drop_next n xs ys zs was is = let one : suc n ≡ n + 1 = omega arith in is ∙ ap (drop 1) was ∙ drop_one n xs ∙ ap (λ m. drop m xs) one
