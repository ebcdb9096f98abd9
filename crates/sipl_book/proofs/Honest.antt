-- Sets that were read: those that a store has, and those that it had before an edit.
use Rattle.std.proofs.Common.{◌≡◌, ℕ, ◌<◌, Bool, true, false, cond, List, inl, inr, refl, sym, subst, ◌∙◌, arith}
use Rattle.std.specs.List.{All}
use Rattle.std.proofs.lemmas.Bool.{cases_Bool}
use Rattle.sipl_records.specs.declared.data.Data.{Data}
use Rattle.sipl_records.specs.declared.record.Key.{Key}
use Rattle.sipl_records.specs.Sets.{exists_in, existence_of, is_existence, set_of}
use Rattle.sipl_evidence.specs.Items.{Item, IsItem}
use Rattle.sipl_plans.specs.Findings.{Found, IsSound}
use Rattle.sipl_zonestore.specs.Consistent.{IsConsistent}
use Rattle.sipl_zonestore.specs.Numbers.{number_after, next_after}
use Rattle.sipl_zonestore.specs.Store.{Store, number_in}
use Rattle.sipl_zonestore.proofs.Public.{number-cases}
use Rattle.sipl_book.specs.Honesty.{AreCurrent, IsExistence, WasGiven, WereRead}

-- the sets of a sound finding are such as can be read
pub sets-sound : (found : Found) → IsSound found → All IsItem found.items
sets-sound found sound = λ k d below. (sound.sets k d below).number

-- ---- the existence of a name

existence_is : (exists : Bool) → IsExistence (cond exists 1 0) (existence_of exists)
existence_is true = inr (refl, refl)
existence_is false = inl (refl, refl)

-- what a store has of it
existence-in : (store : Store) (key : Key) → is_existence key ≡ true → IsExistence (number_in store key) (set_of store.zones.records key)
existence-in store key of = rw of (existence_is (exists_in store.zones.records key.name))

-- equal numbers mean equal data
same-existence : (m n : ℕ) (a b : List Data) → IsExistence m a → IsExistence n b → m ≡ n → a ≡ b
same-existence m n a b (inl absent) (inl absent_too) same = absent.1 ∙ sym absent_too.1
same-existence m n a b (inl absent) (inr present) same = absurd (omega (arith, absent.0, present.0, same))
same-existence m n a b (inr present) (inl absent) same = absurd (omega (arith, present.0, absent.0, same))
same-existence m n a b (inr present) (inr present_too) same = present.1 ∙ sym present_too.1

-- ---- sets that a store has

-- a set as a store has it was given by it
pub given-now : (store : Store) (item : Item) → IsConsistent store → number_in store item.key ≡ item.number → set_of store.zones.records item.key ≡ item.content → WasGiven store.next item
given-now store item good number content =
    record {
      set = λ other. subst (λ (n : ℕ). n < store.next) number (good.numbered.below item.key other);
      existence = λ of. subst (λ (p : ℕ × List Data). IsExistence p.0 p.1) (λ i. (number i, content i)) (existence-in store item.key of);
    }

-- sets that a store has were read from it
pub read-current : (store : Store) (items : List Item) → IsConsistent store → All IsItem items → AreCurrent store items → WereRead store items
read-current store items good sets now =
    record {
      sets = sets;
      given = λ k d below. given-now store _ good (now.numbers k d below) (now.agrees k d below);
      honest = λ k d below _. now.agrees k d below;
    }

-- ---- stores with the same sets

module _ (old new : Store) (zones : new.zones ≡ old.zones) (numbers : new.numbers ≡ old.numbers) where
  set-as : (key : Key) → set_of new.zones.records key ≡ set_of old.zones.records key
  set-as key = λ i. set_of (zones i).records key

  number-as : (key : Key) → number_in new key ≡ number_in old key
  number-as key = λ i. number_in (record new { zones = zones i; numbers = numbers i }) key

  -- what is current in the one is so in the other
  pub current-as : (items : List Item) → AreCurrent old items → AreCurrent new items
  current-as items now =
      record {
        agrees = λ k d below. set-as _ ∙ now.agrees k d below;
        numbers = λ k d below. number-as _ ∙ now.numbers k d below;
      }

  -- what was read from the one may have been read from the other, which gives the same number next
  pub read-as : (items : List Item) → new.next ≡ old.next → WereRead old items → WereRead new items
  read-as items next was =
      record {
        sets = was.sets;
        given = λ k d below.
            let given = was.given k d below in
            record { set = λ other. omega (arith, given.set other, next); existence = given.existence };
        honest = λ k d below same. set-as _ ∙ was.honest k d below (sym (number-as _) ∙ same);
      }

-- ---- sets that were read before an edit

-- what an edit makes of the numbers and the next one
pub record TakesNumbers (old new : Store) : Type 0 where
  pub numbers : (key : Key) → number_in new key ≡ number_after old.zones.records new.zones.records old.next (number_in old) key
  pub next : new.next ≡ next_after old.zones.records new.zones.records old.next

-- a set of records that was read before an edit is still one that was read
honest-set : (old new : Store) → TakesNumbers old new → (item : Item) → is_existence item.key ≡ false → IsItem item → item.number < old.next
    → (number_in old item.key ≡ item.number → set_of old.zones.records item.key ≡ item.content)
    → number_in new item.key ≡ item.number → set_of new.zones.records item.key ≡ item.content
honest-set old new edited item other is_item given honest same =
    let by_edit = edited.numbers item.key in
    elim (number-cases old.zones.records new.zones.records old.next (number_in old) item.key other) [
      | inl taken ↦ absurd (omega (arith, taken.from, by_edit, same, given))
      | inr (inl gone) ↦ gone.empty ∙ sym (is_item.0 (sym same ∙ by_edit ∙ gone.zero_number))
      | inr (inr kept) ↦ sym kept.same ∙ honest (sym kept.number ∙ sym by_edit ∙ same)
    ]

-- and so is a name's existence, whose number is that of no other data
honest-after : (old new : Store) → TakesNumbers old new → (item : Item) → IsItem item → WasGiven old.next item
    → (number_in old item.key ≡ item.number → set_of old.zones.records item.key ≡ item.content)
    → number_in new item.key ≡ item.number → set_of new.zones.records item.key ≡ item.content
honest-after old new edited item is_item given honest same = elim (cases_Bool (is_existence item.key)) [
  | inl of ↦ same-existence _ _ _ _ (existence-in new item.key of) (given.existence of) same
  | inr other ↦ honest-set old new edited item other is_item (given.set other) honest same
]

given-after : (old new : Store) → TakesNumbers old new → (item : Item) → WasGiven old.next item → WasGiven new.next item
given-after old new edited item given =
    record { set = λ other. omega (arith, given.set other, edited.next); existence = given.existence }

pub read-after : (old new : Store) (items : List Item) → TakesNumbers old new → WereRead old items → WereRead new items
read-after old new items edited was =
    record {
      sets = was.sets;
      given = λ k d below. given-after old new edited _ (was.given k d below);
      honest = λ k d below. honest-after old new edited _ (was.sets k d below) (was.given k d below) (was.honest k d below);
    }
