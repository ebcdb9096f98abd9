-- What is so where a commit is not refused.
use Rattle.std.proofs.Common.{◌≡◌, ℕ, ◌<◌, Bool, true, false, length, Option, None, Some, position, refl, sym, subst, ◌∙◌}
use Rattle.std.specs.Prelude.{option_map}
use Rattle.std.proofs.lemmas.Bool.{cond-true, cond-false, leb-false}
use Rattle.sipl_plans.specs.Findings.{Found}
use Rattle.sipl_book.specs.Book.{BookState}
use Rattle.sipl_book.specs.Calls.{after_check, after_comparison, commit_refusal, is_full, is_stale, unless_full}
use Rattle.sipl_book.specs.Honesty.{AreCurrent}
use Rattle.sipl_book.specs.declared.fault.BookFault.{BookFault}
use Rattle.sipl_book.specs.declared.fault.BookFault.TheVariants.{JournalFull, Stale}
use Rattle.sipl_book.proofs.Staleness.{current-fresh}

-- where no fault is left, the journal has space
pub space : (book : BookState) (fault : Option BookFault) → unless_full book fault ≡ None → (is_full book ≡ false) × (fault ≡ None)
space book fault none = by (is_full book) refl
  where
    by : (b : Bool) → is_full book ≡ b → (is_full book ≡ false) × (fault ≡ None)
    by true is = let never : Some JournalFull ≡ None = sym (cond-true (is_full book) (Some JournalFull) fault is) ∙ none in cc
    by false is = (is, sym (cond-false (is_full book) (Some JournalFull) fault is) ∙ none)

pub no_place : (place : Option ℕ) → option_map Stale place ≡ None → place ≡ None
no_place None none = refl
no_place (Some n) none = cc

-- a commit that is not refused: the journal has space, no set is stale, and each was compared
pub record IsUnrefused (found : Found) (book : BookState) : Type 0 where
  pub space : length book.journal < book.max_events
  pub fresh : position (is_stale book.store) found.items ≡ None
  pub checked : after_check found book ≡ after_comparison found book

pub unrefused : (found : Found) (book : BookState) → commit_refusal is_stale found book ≡ None → IsUnrefused found book
unrefused found book none =
    let has = space book (option_map Stale (position (is_stale book.store) found.items)) none in
    record {
      space = leb-false _ _ has.0;
      fresh = no_place (position (is_stale book.store) found.items) has.1;
      checked = cond-false (is_full book) book (after_comparison found book) has.0;
    }

-- after the comparison, the sets of a finding that is not refused are as they were read
pub current_unrefused : (found : Found) (book : BookState) → commit_refusal is_stale found book ≡ None → AreCurrent (after_check found book).store found.items
current_unrefused found book none =
    let is = unrefused found book none in
    let now = current-fresh book.store found.items is.fresh in
    subst (λ (b : BookState). AreCurrent b.store found.items) (sym is.checked) (record { agrees = now.agrees; numbers = now.numbers })
