-- Tests of some element, and of each.
use Rattle.std.proofs.Common.{◌≡◌, ℕ, ◌<◌, ◌≤◌, suc, zero, Bool, true, false, ◌&&◌, ◌||◌, List, [], ◌∷◌, length, Result, Ok, Err, if◌then◌else◌, get_or, refl, ap, sym, ◌∙◌, inl, inr, arith}
use Rattle.std.specs.Prelude.{OnOk}
use Rattle.std.specs.List.{filter, list_any, list_all, count_by}
use Rattle.std.proofs.lemmas.Bool.{cases_Bool}
use Rattle.std.proofs.lemmas.List.Elements.{filter_agree}
use Rattle.std.proofs.lemmas.List.Sums.{length-filter, count_by-le-length}
use Rattle.sipl_records.proofs.Public.{filter-swap}

pub or_left : (a b : Bool) → (a || b) ≡ false → a ≡ false
or_left true b h = h
or_left false b h = refl

pub or_right : (a b : Bool) → (a || b) ≡ false → b ≡ false
or_right true b h = let never : true ≡ false = h in cc
or_right false b h = h

pub or_first : (a b : Bool) → a ≡ true → (a || b) ≡ true
or_first true b h = refl
or_first false b h = let never : false ≡ true = h in cc

pub or_second : (a b : Bool) → b ≡ true → (a || b) ≡ true
or_second true b h = refl
or_second false b h = h

pub and_first : (a b : Bool) → (a && b) ≡ true → a ≡ true
and_first true b h = refl
and_first false b h = h

pub and_second : (a b : Bool) → (a && b) ≡ true → b ≡ true
and_second true b h = h
and_second false b h = let never : false ≡ true = h in cc

-- what a choice is, where its test is known
pub chosen-first : {X : Type 0} (b : Bool) (x y z : X) → z ≡ (if b then x else y) → b ≡ true → z ≡ x
chosen-first b x y z is holds = is ∙ rw holds refl

pub chosen-second : {X : Type 0} (b : Bool) (x y z : X) → z ≡ (if b then x else y) → b ≡ false → z ≡ y
chosen-second b x y z is fails = is ∙ rw fails refl

pub all-weaker : {X : Type 0} (p q : X → Bool) → ((x : X) → p x ≡ true → q x ≡ true) → (xs : List X) → list_all p xs ≡ true → list_all q xs ≡ true
all-weaker p q weaker [] all = refl
all-weaker p q weaker (x ∷ xs) all =
    rw (weaker x (and_first (p x) (list_all p xs) all)) (all-weaker p q weaker xs (and_second (p x) (list_all p xs) all))

-- what two tests of each element say together
pub all-both : {X : Type 0} (p p' q : X → Bool) → ((x : X) → p x ≡ true → p' x ≡ true → q x ≡ true) → (xs : List X) → list_all p xs ≡ true → list_all p' xs ≡ true → list_all q xs ≡ true
all-both p p' q both [] all all' = refl
all-both p p' q both (x ∷ xs) all all' =
    rw (both x (and_first (p x) (list_all p xs) all) (and_first (p' x) (list_all p' xs) all')) (all-both p p' q both xs (and_second (p x) (list_all p xs) all) (and_second (p' x) (list_all p' xs) all'))

-- what a test of each element says of those that pass another
pub all-filter_weaker : {X : Type 0} (p p' q : X → Bool) → ((x : X) → q x ≡ true → p x ≡ true → p' x ≡ true) → (xs : List X) → list_all p xs ≡ true → list_all p' (filter q xs) ≡ true
all-filter_weaker p p' q weaker [] all = refl
all-filter_weaker p p' q weaker (x ∷ xs) all =
    let rest : list_all p' (filter q xs) ≡ true = all-filter_weaker p p' q weaker xs (and_second (p x) (list_all p xs) all) in
    elim (cases_Bool (q x)) [
      | inl kept ↦ rw kept (rw (weaker x kept (and_first (p x) (list_all p xs) all)) rest)
      | inr left ↦ rw left rest
    ]

-- each element that passes a test passes it
pub all-kept : {X : Type 0} (q : X → Bool) (xs : List X) → list_all q (filter q xs) ≡ true
all-kept q [] = refl
all-kept q (x ∷ xs) = elim (cases_Bool (q x)) [
  | inl kept ↦ rw kept (rw kept (all-kept q xs))
  | inr left ↦ rw left (all-kept q xs)
]

pub any-filter : {X : Type 0} (p q : X → Bool) (xs : List X) → list_any p xs ≡ false → list_any p (filter q xs) ≡ false
any-filter p q [] none = refl
any-filter p q (x ∷ xs) none = elim (cases_Bool (q x)) [
  | inl kept ↦ rw kept (rw (or_left (p x) (list_any p xs) none) (any-filter p q xs (or_right (p x) (list_any p xs) none)))
  | inr left ↦ rw left (any-filter p q xs (or_right (p x) (list_any p xs) none))
]

-- no element passes, at each place
pub none-at : {X : Type 0} (p : X → Bool) (xs : List X) → list_any p xs ≡ false → (k : ℕ) (d : X) → k < length xs → p (get_or xs k d) ≡ false
none-at p [] none k d inside = absurd (omega arith)
none-at p (x ∷ xs) none zero d inside = or_left (p x) (list_any p xs) none
none-at p (x ∷ xs) none (suc k) d inside = none-at p xs (or_right (p x) (list_any p xs) none) k d (omega arith)

-- each element passes, at each place
pub all-at : {X : Type 0} (p : X → Bool) (xs : List X) (k : ℕ) (d : X) → k < length xs → list_all p xs ≡ true → p (get_or xs k d) ≡ true
all-at p [] k d inside all = absurd (omega arith)
all-at p (x ∷ xs) zero d inside all = and_first (p x) (list_all p xs) all
all-at p (x ∷ xs) (suc k) d inside all = all-at p xs k d (omega arith) (and_second (p x) (list_all p xs) all)

-- a count of those that pass another test is no greater
pub count-filter-le : {X : Type 0} (p q : X → Bool) (xs : List X) → count_by p (filter q xs) ≤ count_by p xs
count-filter-le p q xs =
    let swapped : length (filter p (filter q xs)) ≡ length (filter q (filter p xs)) = ap length (filter-swap p q xs) in
    omega (arith, length-filter p (filter q xs), length-filter q (filter p xs), length-filter p xs, count_by-le-length q (filter p xs))

-- the same count by two tests that agree
pub count-same : {X : Type 0} (p q : X → Bool) → ((x : X) → p x ≡ q x) → (xs : List X) → count_by p xs ≡ count_by q xs
count-same p q same xs = sym (length-filter p xs) ∙ ap length (filter_agree p q same xs) ∙ length-filter q xs

-- a list without a length is empty
pub nothing_left : {X : Type 0} (xs : List X) → length xs ≡ 0 → xs ≡ []
nothing_left [] none = refl
nothing_left (x ∷ xs) none = absurd (omega (arith, none))

-- a fact, whatever the result
pub on_ok : {T E P : Type 0} (result : Result T E) → P → OnOk result P
on_ok (Ok done) p = p
on_ok (Err fault) p = tt
