-- Receipts of events by their numbers.
use Rattle.std.proofs.Common.{zero, suc, ◌≡◌, ◌≢◌, ◌<◌, ◌≤◌, ◌+◌, ℕ, List, [], ◌∷◌, ◌++◌, length, get_or, nat_eq, refl, ap, ◌∙◌, arith}
use Rattle.std.proofs.lemmas.Bool.Decides.{nat_tests}
use Rattle.std.proofs.lemmas.List.Elements.{filter-append}
use Rattle.sipl_book.specs.declared.event.Event.{Event}
use Rattle.sipl_service.specs.declared.receipt.Receipt.{Receipt}
use Rattle.sipl_service.specs.Receipts.{with_number, due, later}

-- the receipts of events that are numbered one by one from the first number on
abbrev pub own_receipts : ℕ → List Event → List Receipt
own_receipts first [] = []
own_receipts first (event ∷ events) = record { number = first; event = event } ∷ own_receipts (first + 1) events

-- each number has the very receipt of its event, once, and no number without an event has one
pub record AreOwn (first : ℕ) (events : List Event) (receipts : List Receipt) : Type 0 where
  pub each : (n : ℕ) → with_number n receipts ≡ with_number n (own_receipts first events)

pub number-append : (n : ℕ) (xs ys : List Receipt) → with_number n (xs ++ ys) ≡ with_number n xs ++ with_number n ys
number-append n xs ys = filter-append (λ receipt. nat_eq receipt.number n) xs ys

pub due-below : (end n : ℕ) (xs : List Receipt) → n < end → with_number n (due end xs) ≡ with_number n xs
due-below end n [] less = refl
due-below end n (x ∷ xs) less = grind (arith, nat_tests, due-below end n xs less)

pub due-past : (end n : ℕ) (xs : List Receipt) → end ≤ n → with_number n (due end xs) ≡ []
due-past end n [] more = refl
due-past end n (x ∷ xs) more = grind (arith, nat_tests, due-past end n xs more)

pub later-below : (end n : ℕ) (xs : List Receipt) → n < end → with_number n (later end xs) ≡ []
later-below end n [] less = refl
later-below end n (x ∷ xs) less = grind (arith, nat_tests, later-below end n xs less)

pub later-past : (end n : ℕ) (xs : List Receipt) → end ≤ n → with_number n (later end xs) ≡ with_number n xs
later-past end n [] more = refl
later-past end n (x ∷ xs) more = grind (arith, nat_tests, later-past end n xs more)

pub later-later : (e f : ℕ) (xs : List Receipt) → e ≤ f → later f (later e xs) ≡ later f xs
later-later e f [] le = refl
later-later e f (x ∷ xs) le = grind (arith, nat_tests, later-later e f xs le)

pub own-append : (f : ℕ) (es gs : List Event) → own_receipts f (es ++ gs) ≡ own_receipts f es ++ own_receipts (f + length es) gs
own-append f [] gs = ap (λ m. own_receipts m gs) (omega arith)
own-append f (e ∷ es) gs =
    ap (λ rs. record { number = f; event = e } ∷ rs)
    (own-append (f + 1) es gs ∙ ap (λ m. own_receipts (f + 1) es ++ own_receipts m gs) (omega arith))

pub own-below : (f n : ℕ) (es : List Event) → n < f → with_number n (own_receipts f es) ≡ []
own-below f n [] less = refl
own-below f n (e ∷ es) less = let rest = own-below (f + 1) n es (omega arith) in grind (arith, nat_tests, rest)

pub own-past : (f n : ℕ) (es : List Event) → f + length es ≤ n → with_number n (own_receipts f es) ≡ []
own-past f n [] more = refl
own-past f n (e ∷ es) more = let rest = own-past (f + 1) n es (omega arith) in grind (arith, nat_tests, rest)

pub own-at : (f i n : ℕ) (es : List Event) (d : Event) → n ≡ f + i → i < length es → with_number n (own_receipts f es) ≡ record { number = n; event = get_or es i d } ∷ []
own-at f i n [] d is less = grind arith
own-at f zero n (e ∷ es) d is less = let rest = own-below (f + 1) n es (omega arith) in grind (arith, nat_tests, rest)
own-at f (suc i) n (e ∷ es) d is less = let rest = own-at (f + 1) i n es d (omega arith) (omega arith) in grind (arith, nat_tests, rest)

pub none_at_all : (xs : List Receipt) → ((n : ℕ) → with_number n xs ≡ []) → xs ≡ []
none_at_all [] none = refl
none_at_all (x ∷ xs) none = let here = none x.number in grind (arith, nat_tests, here)

pub rest_none : {X : Type 0} (xs ys : List X) → xs ++ ys ≡ xs → ys ≡ []
rest_none [] ys is = is
rest_none (x ∷ xs) ys is = rest_none xs ys (cc)

pub none_number : (xs : List Receipt) (n : ℕ) → ((k : ℕ) (d : Receipt) → k < length xs → (get_or xs k d).number ≢ n) → with_number n xs ≡ []
none_number [] n none = refl
none_number (x ∷ xs) n none =
    let here : x.number ≢ n = none 0 x (omega arith) in
    let rest = none_number xs n (λ k d less. none (suc k) d (omega arith)) in
    grind (arith, nat_tests, rest)
