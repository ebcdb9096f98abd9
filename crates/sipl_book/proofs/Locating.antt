-- Findings on the sets of a book.
use Rattle.std.proofs.Common.{◌≡◌, ℕ, zero, suc, ◌+◌, List, not, position, None, refl, sym, ap, subst, ◌∙◌, arith}
use Rattle.std.proofs.lemmas.Bool.{eq-eqb}
use Rattle.sipl_choice.specs.Abilities.{Client}
use Rattle.sipl_uri.specs.declared.question.Question.{Question}
use Rattle.sipl_evidence.specs.Items.{Item}
use Rattle.sipl_plans.specs.Findings.{Found}
use Rattle.sipl_plans.specs.Readings.{IsLooked, IsReadFrom, after_looks}
use Rattle.sipl_zonestore.specs.Store.{Store}
use Rattle.sipl_book.specs.Book.{BookState}
use Rattle.sipl_book.specs.Calls.{CountsLooks, after_look, is_renumbered, with_looks}
use Rattle.sipl_book.specs.Honesty.{AreCurrent, IsHonest}
use Rattle.sipl_book.specs.Lookups.{IsLocated, after_reads, source_of}
use Rattle.sipl_book.proofs.Honest.{current-as}
use Rattle.sipl_book.proofs.Staleness.{looked_once, position-none}

-- ---- stores with the same sets

module _ (old new : Store) (zones : new.zones ≡ old.zones) (numbers : new.numbers ≡ old.numbers) where
  pub located-as : (question : Question) (client : Client) (found : Found) → IsLocated old question client found → IsLocated new question client found
  located-as question client found is =
      record { question = is.question; client = is.client; current = current-as old new zones numbers found.items is.current; sound = is.sound }

-- what is current is honest
pub honest-current : (store : Store) (items : List Item) → AreCurrent store items → IsHonest store items
honest-current store items now = λ k d below _. now.agrees k d below

-- no set that is current has another number
pub not_renumbered : (store : Store) (items : List Item) → AreCurrent store items → position (is_renumbered store) items ≡ None
not_renumbered store items now = position-none (is_renumbered store) items (λ k d below. ap not (eq-eqb _ _ (now.numbers k d below)))

-- ---- a finding on the sets of a book

-- so many looks at a book
looks_at : (count : ℕ) (book : BookState) → after_looks source_of count book ≡ after_reads count book
looks_at zero book = refl
looks_at (suc count) book =
    let one_more : count + 1 ≡ suc count = omega arith in
    ap after_look (looks_at count book)
    ∙ (λ i. record book { store = looked_once count book.store i })
    ∙ ap (λ n. after_reads n book) one_more

-- the finding that was read is that of the question on the book's records
pub located : (book : BookState) (question : Question) (client : Client) (found : Found) → client ≡ book.client → IsReadFrom source_of book question client found → IsLocated book.store question book.client found
located book question client found own is = record {
  question = is.question;
  client = is.client ∙ own;
  current = record { agrees = is.agrees; numbers = is.numbers };
  sound = is.sound;
}

-- after a look at each of its sets
pub looks-located : (before now : BookState) (count : ℕ) → now ≡ after_looks source_of count before → now ≡ after_reads count before
looks-located before now count is = is ∙ looks_at count before

-- looks were counted, and nothing else changes
module _ (before now : BookState) (looked : IsLooked source_of before now) where
  pub looked-counted : CountsLooks before now
  looked-counted = (looked.0, ap (λ (b : BookState). b.store.looks) (looks-located before now looked.0 looked.1))

  pub looked-unchanged : now ≡ with_looks now.store.looks before
  looked-unchanged =
      subst (λ b. b ≡ with_looks b.store.looks before) (sym (looks-located before now looked.0 looked.1)) refl
