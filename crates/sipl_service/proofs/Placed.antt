-- The union of receipts by the places where they stand, and by their numbers.
use Rattle.std.proofs.Common.{◌≡◌, ◌≢◌, ◌<◌, ◌≤◌, ◌+◌, ◌-◌, ◌⊎◌, ℕ, true, false, List, [], ◌∷◌, ◌++◌, length, take, drop, get_or, slice_get, None, Some, refl, sym, ap, subst, ◌∙◌, inl, inr, arith, append_assoc}
use mathlib.Core.Logic.{⊎_elim}
use Rattle.std.specs.List.{All, AllPairs}
use Rattle.std.proofs.lemmas.Bool.{cases_lt, cases_Bool}
use Rattle.std.proofs.lemmas.Bool.Decides.{nat_tests}
use Rattle.std.proofs.lemmas.Grind.{common_steps}
use Rattle.std.proofs.lemmas.List.{take-append-drop, take_more, get_or-take, get_or-drop, get_or_default}
use Rattle.std.proofs.lemmas.Option.{slice_get-get_or, slice_get_within, get_or_from_slice_get}
use Rattle.sipl_book.specs.Pages.{PageState, events_in}
use Rattle.sipl_book.specs.declared.event.Event.{Event}
use Rattle.sipl_book.specs.declared.event.Event.TheVariants.{Advance}
use Rattle.sipl_service.specs.Claims.{IsUnion, event_at, first_in, has_number}
use Rattle.sipl_service.specs.Receipts.{with_number}
use Rattle.sipl_service.specs.declared.receipt.Receipt.{Receipt}
use Rattle.sipl_service.proofs.Claimed.{has_at, within_pages}
use Rattle.sipl_service.proofs.Numbered.{from_first, has_event, numbered}
use Rattle.sipl_service.proofs.Numbers.{AreOwn, own_receipts, own-at, own-below, own-past, number-append, none_number}

-- a receipt's event stands at its number
abbrev IsPlaced : ℕ → List Event → Receipt → Type 0
IsPlaced first events receipt = (first ≤ receipt.number) × (slice_get events (receipt.number - first) ≡ Some receipt.event)

-- each receipt is an event's, no two have one number, and each event has one
record ArePlaced (first : ℕ) (events : List Event) (receipts : List Receipt) : Type 0 where
  ours : All (IsPlaced first events) receipts
  apart : AllPairs (λ a b. a.number ≢ b.number) receipts
  whole : (n : ℕ) → first ≤ n → n < first + length events → has_number receipts n ≡ true

own-some : (f n : ℕ) (es : List Event) → f ≤ n → n < f + length es → with_number n (own_receipts f es) ≢ []
own-some f n es from below = λ none. let own = own-at f (n - f) n es (Advance 0) (omega arith) (omega arith) in let e = sym own ∙ none in cc

-- it has one receipt at most
own-few : (f n : ℕ) (es : List Event) → (with_number n (own_receipts f es) ≡ []) ⊎ ((x : Receipt) × (with_number n (own_receipts f es) ≡ x ∷ []))
own-few f n es =
    ⊎_elim
    (λ (less : n < f). inl (own-below f n es less))
    (λ (from : f ≤ n).
    ⊎_elim
    (λ (below : n < f + length es). inr (record { number = n; event = get_or es (n - f) (Advance 0) }, own-at f (n - f) n es (Advance 0) (omega arith) (omega arith)))
    (λ (past : f + length es ≤ n). inl (own-past f n es past))
    (cases_lt n (f + length es)))
    (cases_lt n f)

number-here : (n : ℕ) (r : Receipt) → n ≡ r.number → with_number n (r ∷ []) ≡ r ∷ []
number-here n r is = grind (arith, nat_tests)

no_end : {X : Type 0} (xs ys : List X) (r : X) → xs ++ r ∷ ys ≡ [] → ⊥
no_end [] ys r is = cc
no_end (x ∷ xs) ys r is = cc

only : (xs ys : List Receipt) (r x : Receipt) → xs ++ r ∷ ys ≡ x ∷ [] → (xs ≡ []) × (r ≡ x)
only [] ys r x is = (refl, cc)
only (y ∷ xs) ys r x is = let tail : xs ++ r ∷ ys ≡ [] = cc in absurd (no_end xs ys r tail)

-- the receipts with the number of the one at a place
at_place : (xs : List Receipt) (k n : ℕ) (d : Receipt) → k < length xs → n ≡ (get_or xs k d).number
    → with_number n xs ≡ with_number n (take k xs) ++ get_or xs k d ∷ with_number n (drop (k + 1) xs)
at_place xs k n d less is =
    ap (with_number n) (sym (take-append-drop (k + 1) xs) ∙ ap (λ l. l ++ drop (k + 1) xs) (take_more xs k d less) ∙ append_assoc (take k xs) (get_or xs k d ∷ []) (drop (k + 1) xs))
    ∙ number-append n (take k xs) (get_or xs k d ∷ drop (k + 1) xs)
    ∙ ap (λ l. with_number n (take k xs) ++ l) (number-append n (get_or xs k d ∷ []) (drop (k + 1) xs) ∙ ap (λ l. l ++ with_number n (drop (k + 1) xs)) (number-here n (get_or xs k d) is))

-- it is the only one
alone : (f : ℕ) (es : List Event) (xs : List Receipt) (k n : ℕ) (d : Receipt) → AreOwn f es xs → k < length xs → n ≡ (get_or xs k d).number
    → (with_number n (take k xs) ≡ []) × (with_number n (own_receipts f es) ≡ get_or xs k d ∷ [])
alone f es xs k n d union less is =
    let all = sym (at_place xs k n d less is) ∙ union.each n in
    ⊎_elim
    (λ (none : with_number n (own_receipts f es) ≡ []). absurd (no_end (with_number n (take k xs)) (with_number n (drop (k + 1) xs)) (get_or xs k d) (all ∙ none)))
    (λ (one : (x : Receipt) × (with_number n (own_receipts f es) ≡ x ∷ [])).
    let is = only (with_number n (take k xs)) (with_number n (drop (k + 1) xs)) (get_or xs k d) one.0 (all ∙ one.1) in
    (is.0, one.1 ∙ ap (λ y. y ∷ []) (sym is.1)))
    (own-few f n es)

first_of_list : List Receipt → Receipt → Receipt
first_of_list [] d = d
first_of_list (x ∷ xs) d = x

same_one : (x y : Receipt) → x ∷ [] ≡ y ∷ [] → x ≡ y
unfolding first_of_list
same_one x y is = ap (λ l. first_of_list l x) is

ours-at : (f n : ℕ) (es : List Event) (r : Receipt) → n ≡ r.number → with_number n (own_receipts f es) ≡ r ∷ [] → IsPlaced f es r
ours-at f n es r is own =
    ⊎_elim
    (λ (less : n < f). absurd (let e : [] ≡ r ∷ [] = sym (own-below f n es less) ∙ own in cc))
    (λ (from : f ≤ n).
    ⊎_elim
    (λ (below : n < f + length es).
    let it : record { number = n; event = get_or es (n - f) (Advance 0) } ≡ r = same_one (record { number = n; event = get_or es (n - f) (Advance 0) }) r (sym (own-at f (n - f) n es (Advance 0) (omega arith) (omega arith)) ∙ own) in
    subst (λ m. (f ≤ m) × (slice_get es (m - f) ≡ Some r.event)) is
    (from, slice_get-get_or es (n - f) (Advance 0) (omega arith) ∙ ap (λ (x : Receipt). Some x.event) it))
    (λ (past : f + length es ≤ n). absurd (let e : [] ≡ r ∷ [] = sym (own-past f n es past) ∙ own in cc))
    (cases_lt n (f + length es)))
    (cases_lt n f)

none_with : (xs : List Receipt) (n : ℕ) → has_number xs n ≡ false → with_number n xs ≡ []
none_with [] n absent = refl
none_with (x ∷ xs) n absent = let rest = none_with xs n in grind (arith, common_steps, nat_tests, rest)

by_places : (f : ℕ) (es : List Event) (xs : List Receipt) → AreOwn f es xs → ArePlaced f es xs
by_places f es xs union = record {
  ours = λ k d less. ours-at f (get_or xs k d).number es (get_or xs k d) refl (alone f es xs k (get_or xs k d).number d union less refl).1;
  apart = λ i j d less inside same.
      let none : with_number (get_or xs j d).number (take j xs) ≡ [] = (alone f es xs j (get_or xs j d).number d union inside refl).0 in
      let here : get_or (take j xs) i d ≡ get_or xs i d = get_or-take j xs i d less in
      let shorter : i < length (take j xs) = grind (arith, common_steps) in
      no_end (with_number (get_or xs j d).number (take i (take j xs))) (with_number (get_or xs j d).number (drop (i + 1) (take j xs))) (get_or (take j xs) i d)
      (sym (at_place (take j xs) i (get_or xs j d).number d shorter (sym same ∙ ap (λ (r : Receipt). r.number) (sym here))) ∙ none);
  whole = λ n from below.
      ⊎_elim
      (λ (yes : has_number xs n ≡ true). yes)
      (λ (no : has_number xs n ≡ false). absurd (own-some f n es from below (sym (union.each n) ∙ none_with xs n no)))
      (cases_Bool (has_number xs n));
}

-- the receipt at a place is its event's, and no other has its number
in_range : (f n : ℕ) (es : List Event) (xs : List Receipt) (k : ℕ) → ArePlaced f es xs → f ≤ n → n < f + length es → k < length xs → (get_or xs k (record { number = 0; event = Advance 0 })).number ≡ n
    → with_number n xs ≡ with_number n (own_receipts f es)
in_range f n es xs k h from below less is =
    let before : with_number n (take k xs) ≡ [] =
    none_number (take k xs) n (λ i e inside same.
    let lower : i < k = grind (arith, common_steps) in
    h.apart i k e lower less (ap (λ (x : Receipt). x.number) (sym (get_or-take k xs i e lower)) ∙ same ∙ sym is ∙ ap (λ (x : Receipt). x.number) (get_or_default xs k (record { number = 0; event = Advance 0 }) e less))) in
    let after : with_number n (drop (k + 1) xs) ≡ [] =
    none_number (drop (k + 1) xs) n (λ i e inside same.
    let inner : k + 1 + i < length xs = grind (arith, common_steps) in
    h.apart k (k + 1 + i) e (omega arith) inner
    (ap (λ (x : Receipt). x.number) (get_or_default xs k e (record { number = 0; event = Advance 0 }) less) ∙ is ∙ sym same ∙ ap (λ (x : Receipt). x.number) (get_or-drop (k + 1) xs i e))) in
    let ours = h.ours k (record { number = 0; event = Advance 0 }) less in
    let event : get_or es (n - f) (Advance 0) ≡ (get_or xs k (record { number = 0; event = Advance 0 })).event =
    get_or_from_slice_get es (n - f) (get_or xs k (record { number = 0; event = Advance 0 })).event (Advance 0) (ap (λ m. slice_get es (m - f)) (sym is) ∙ ours.1) in
    at_place xs k n (record { number = 0; event = Advance 0 }) less (sym is)
    ∙ ap (λ l. l ++ get_or xs k (record { number = 0; event = Advance 0 }) ∷ with_number n (drop (k + 1) xs)) before
    ∙ ap (λ l. get_or xs k (record { number = 0; event = Advance 0 }) ∷ l) after
    ∙ ap (λ m. record { number = m; event = (get_or xs k (record { number = 0; event = Advance 0 })).event } ∷ []) is
    ∙ ap (λ e. record { number = n; event = e } ∷ []) (sym event)
    ∙ sym (own-at f (n - f) n es (Advance 0) (omega arith) (omega arith))

by_numbers : (f : ℕ) (es : List Event) (xs : List Receipt) → ArePlaced f es xs → AreOwn f es xs
by_numbers f es xs h = record {
  each = λ n.
      ⊎_elim
      (λ (less : n < f). none_number xs n (λ k d inside same. let ours = h.ours k d inside in absurd (omega (arith, ours.0))) ∙ sym (own-below f n es less))
      (λ (from : f ≤ n).
      ⊎_elim
      (λ (below : n < f + length es).
      let at = has_at xs n (h.whole n from below) in
      in_range f n es xs at.0 h from below at.1 (at.2 (record { number = 0; event = Advance 0 })))
      (λ (past : f + length es ≤ n).
      none_number xs n (λ k d inside same.
      let ours = h.ours k d inside in
      let within : (get_or xs k d).number - f < length es = slice_get_within es ((get_or xs k d).number - f) (get_or xs k d).event ours.1 in
      absurd (omega (arith, ours.0)))
      ∙ sym (own-past f n es past))
      (cases_lt n (f + length es)))
      (cases_lt n f);
}

-- what is said of pages is said of their events
placed_in : (pages : List PageState) (xs : List Receipt) → IsUnion pages xs → ArePlaced (first_in pages) (events_in pages) xs
placed_in pages xs union = record {
  ours = λ k d less.
      let ours = union.part.ours k d less in
      let within = within_pages pages (get_or xs k d) ours in
      (within.0, sym (from_first (first_in pages) (events_in pages) (get_or xs k d).number within.0) ∙ ours);
  apart = union.part.apart;
  whole = λ n from below.
      let here : first_in pages + (n - first_in pages) ≡ n = omega (arith, from) in
      union.whole n (subst (λ m. event_at pages m ≢ None) here (has_event (first_in pages) (events_in pages) (n - first_in pages) (omega arith)));
}

union_in : (pages : List PageState) (xs : List Receipt) → ArePlaced (first_in pages) (events_in pages) xs → IsUnion pages xs
union_in pages xs h = record {
  part = record {
    ours = λ k d less. let ours = h.ours k d less in from_first (first_in pages) (events_in pages) (get_or xs k d).number ours.0 ∙ ours.1;
    apart = h.apart;
  };
  whole = λ n has. let within = numbered (first_in pages) (events_in pages) n has in h.whole n within.0 (omega (arith, within.0, within.1));
}

-- the union by numbers
pub are_own : (pages : List PageState) (xs : List Receipt) → IsUnion pages xs → AreOwn (first_in pages) (events_in pages) xs
are_own pages xs union = by_numbers (first_in pages) (events_in pages) xs (placed_in pages xs union)

pub is_union : (pages : List PageState) (xs : List Receipt) → AreOwn (first_in pages) (events_in pages) xs → IsUnion pages xs
is_union pages xs own = union_in pages xs (by_places (first_in pages) (events_in pages) xs own)
