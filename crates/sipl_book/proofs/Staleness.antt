-- Sets that are no longer as they were read.
use Rattle.std.proofs.Common.{◌≡◌, ℕ, ◌+◌, ◌^◌, ◌<◌, ◌≤◌, suc, zero, Bool, true, false, ltb, List, [], ◌∷◌, length, length-take, take, get_or, Option, None, Some, position, refl, sym, ap, ◌∙◌, inl, inr, add-one, arith}
use Rattle.std.specs.List.{All, position_or_len}
use Rattle.std.proofs.Math.Nat.{le-min}
use Rattle.std.proofs.lemmas.Bool.{and_parts, not-false, eqb-true, cases_lt, lt-ltb, le-ltb, cond-true, cond-false}
use Rattle.std.proofs.lemmas.List.{get_or-take}
use Rattle.std.proofs.lemmas.List.Sums.{position_or_len_is, fails_before_first}
use Rattle.std.proofs.lemmas.Option.{none-some}
use Rattle.sipl_records.specs.Sets.{set_of}
use Rattle.sipl_records.proofs.Public.{same_set-Decides}
use Rattle.sipl_evidence.specs.Items.{Item}
use Rattle.sipl_zonestore.specs.Store.{Store, number_in}
use Rattle.sipl_zonestore.specs.Looks.{looked}
use Rattle.sipl_book.specs.Book.{BookState}
use Rattle.sipl_book.specs.Calls.{CountsLooks, after_looks, looks_after, compared, is_renumbered, is_stale}
use Rattle.sipl_book.specs.Honesty.{AreCurrent, IsHonest}

-- ---- the first item that passes a test

-- an item that passes, after items that fail, is the first
pub position-first : {X : Type 0} (p : X → Bool) (xs : List X) (i : ℕ) (x : X) → i < length xs → x ≡ get_or xs i x
    → All (λ y. p y ≡ false) (take i xs) → p x ≡ true → position p xs ≡ Some i
position-first p xs i x inside is fails passes =
    let first : position_or_len p xs ≡ i =
    position_or_len_is p xs i x (omega arith) (λ k below. ap p (sym (get_or-take i xs k x below)) ∙ fails k x (omega (arith, length-take i xs))) (λ _. ap p (sym is) ∙ passes) in
    cond-true (ltb (position_or_len p xs) (length xs)) (Some (position_or_len p xs)) None (lt-ltb _ _ (omega arith)) ∙ ap (λ n. Some n) first

-- where all items fail there is none
pub position-none : {X : Type 0} (p : X → Bool) (xs : List X) → All (λ y. p y ≡ false) xs → position p xs ≡ None
position-none p [] fails = refl
position-none p (x ∷ xs) fails =
    let all = x ∷ xs in
    let last : position_or_len p all ≡ length all =
    position_or_len_is p all (length all) x (omega arith) (λ k below. fails k x below) (λ below. absurd (omega arith)) in
    cond-false (ltb (position_or_len p all) (length all)) (Some (position_or_len p all)) None (le-ltb _ _ (omega arith))

-- where there is none, all items fail
pub fails-all : {X : Type 0} (p : X → Bool) (xs : List X) → position p xs ≡ None → All (λ y. p y ≡ false) xs
fails-all p xs none k d below =
    elim (cases_lt (position_or_len p xs) (length xs)) [
      | inl inside ↦
          let found : position p xs ≡ Some (position_or_len p xs) = cond-true (ltb (position_or_len p xs) (length xs)) (Some (position_or_len p xs)) None (lt-ltb _ _ inside) in
          absurd (none-some (position_or_len p xs) (sym none ∙ found))
      | inr outside ↦ fails_before_first p xs k d (omega arith)
    ]

-- ---- items

-- what is not stale is as it was read
fresh_item : (store : Store) (item : Item) → is_stale store item ≡ false
    → (number_in store item.key ≡ item.number) × (set_of store.zones.records item.key ≡ item.content)
fresh_item store item fresh =
    let same = and_parts _ _ (not-false _ fresh) in
    (eqb-true _ _ same.0, (same_set-Decides _ _).0 same.1)

-- where no item is stale, all are as they were read
pub current-fresh : (store : Store) (items : List Item) → position (is_stale store) items ≡ None → AreCurrent store items
current-fresh store items none =
    let fresh = fails-all (is_stale store) items none in
    record {
      agrees = λ k d below. (fresh_item store _ (fresh k d below)).1;
      numbers = λ k d below. (fresh_item store _ (fresh k d below)).0;
    }

-- where no number is another one, honest items are as they were read
pub current-numbered : (store : Store) (items : List Item) → IsHonest store items → position (is_renumbered store) items ≡ None → AreCurrent store items
current-numbered store items honest none =
    let same = fails-all (is_renumbered store) items none in
    let numbers : All (λ item. number_in store item.key ≡ item.number) items =
    λ k d below. eqb-true _ _ (not-false _ (same k d below)) in
    record { agrees = λ k d below. honest k d below (numbers k d below); numbers = numbers }

-- ---- looks

-- how many items are compared, where the first that is stale is at a place
pub compared-first : (store : Store) (items : List Item) (place : ℕ) → position (is_stale store) items ≡ Some place → compared store items ≡ place + 1
compared-first store items place first =
    ap (λ (o : Option ℕ). let n : ℕ = elim o [ Some i ↦ i + 1 | None ↦ length items ] in n) first

-- or where none is stale
pub compared-all : (store : Store) (items : List Item) → position (is_stale store) items ≡ None → compared store items ≡ length items
compared-all store items none =
    ap (λ (o : Option ℕ). let n : ℕ = elim o [ Some i ↦ i + 1 | None ↦ length items ] in n) none

-- one look more
pub looked_once : (count : ℕ) (store : Store) → looked (after_looks count store) ≡ after_looks (count + 1) store
looked_once count store = ap (λ n. after_looks n store) (sym (add-one count))

-- a count of 64 bits never falls
looks_risen-by : (count looks : ℕ) → looks < 2 ^ 64 → looks ≤ looks_after count looks
looks_risen-by zero looks small = omega arith
looks_risen-by (suc more) looks small =
    le-min (omega (arith, looks_risen-by more looks small)) (omega (arith, small))

pub looks_risen : (old new : BookState) → old.store.looks < 2 ^ 64 → CountsLooks old new → old.store.looks ≤ new.store.looks
looks_risen old new small counted = omega (arith, counted.1, looks_risen-by counted.0 old.store.looks small)
