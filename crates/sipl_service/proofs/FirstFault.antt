-- The first fault of an answer.
use Rattle.std.proofs.Common.{◌≡◌, ◌≢◌, Bool, true, false, ltb, Option, Some, None, position, refl, sym, ap, ◌∙◌}
use Rattle.std.specs.Prelude.{cond, option_map}
use Rattle.std.proofs.lemmas.Bool.{cond-false}
use Rattle.sipl_choice.specs.Abilities.{Client}
use Rattle.sipl_outages.specs.declared.held.Held.{Held}
use Rattle.sipl_plans.specs.Findings.{Found}
use Rattle.sipl_book.specs.Book.{BookState, next_event}
use Rattle.sipl_book.specs.Calls.{commit_refusal, hand_refusal, is_full, is_stale, unless_full}
use Rattle.sipl_book.specs.Entries.{has_current_entry}
use Rattle.sipl_book.specs.declared.fault.BookFault.{BookFault}
use Rattle.sipl_book.specs.declared.fault.BookFault.TheVariants.{JournalFull, NotCurrent, Stale, Memory as BookMemory}
use Rattle.sipl_book.specs.declared.outcome.Uncommitted.{Uncommitted}
use Rattle.sipl_service.specs.Faults.{of_book}
use Rattle.sipl_service.specs.Passes.{PassState}
use Rattle.sipl_service.specs.Refusals.{answer_fault, commit_fault, contended, early_fault, hand_fault, is_for, unless_other}
use Rattle.sipl_service.specs.declared.asked.Asked.{Asked}
use Rattle.sipl_service.specs.declared.fault.ServiceFault.{ServiceFault}
use Rattle.sipl_service.specs.declared.fault.ServiceFault.TheVariants.{PassAhead, OtherBook, Book, Memory}

-- a fault comes first whatever comes after it
then_before : (b : Bool) (first early late : Option ServiceFault) (fault : ServiceFault) → (early ≡ Some fault → late ≡ Some fault)
    → cond b first early ≡ Some fault → cond b first late ≡ Some fault
then_before true first early late fault step before = before
then_before false first early late fault step before = step before

else_before : (b : Bool) (first early late : Option ServiceFault) (fault : ServiceFault) → (early ≡ Some fault → late ≡ Some fault)
    → cond b early first ≡ Some fault → cond b late first ≡ Some fault
else_before true first early late fault step before = step before
else_before false first early late fault step before = before

-- where there is none, what comes after it is the first
then_after : (b : Bool) (first : ServiceFault) (early late : Option ServiceFault) → cond b (Some first) early ≡ None
    → (early ≡ None) × (cond b (Some first) late ≡ late)
then_after true first early late none = let never : Some first ≡ None = none in cc
then_after false first early late none = (none, refl)

else_after : (b : Bool) (first : ServiceFault) (early late : Option ServiceFault) → cond b early (Some first) ≡ None
    → (early ≡ None) × (cond b late (Some first) ≡ late)
else_after true first early late none = (none, refl)
else_after false first early late none = let never : Some first ≡ None = none in cc

-- a full journal comes before the other faults of the book
full_before : (b : Bool) (of : BookFault → ServiceFault) (rest : Option BookFault) (fault : ServiceFault) → of JournalFull ≡ Book JournalFull
    → option_map Book (cond b (Some JournalFull) None) ≡ Some fault → option_map of (cond b (Some JournalFull) rest) ≡ Some fault
full_before true of rest fault same before = ap (λ (f : ServiceFault). Some f) same ∙ before
full_before false of rest fault same before = let never : None ≡ Some fault = before in cc

module _ (pass : PassState) (client : Client) (held : Held) (book : BookState) where
  -- a fault before each allocation is the first one, whatever the book's are
  pub fault_before : (of : BookFault → ServiceFault) (rest : Option BookFault) (fault : ServiceFault) → of JournalFull ≡ Book JournalFull
      → early_fault pass client held book ≡ Some fault → answer_fault pass client held book (option_map of (unless_full book rest)) ≡ Some fault
  fault_before of rest fault same before =
      let first = option_map Book (unless_full book None) in
      let late = option_map of (unless_full book rest) in
      then_before (ltb (next_event book) pass.front) (Some (PassAhead (next_event book) pass.front))
      (unless_other client held book first) (unless_other client held book late) fault
      (else_before (is_for client held book) (Some OtherBook) first late fault (full_before (is_full book) of rest fault same)) before

  -- where there is none before, the book's is the first one
  pub fault_after : (rest : Option ServiceFault) → early_fault pass client held book ≡ None → answer_fault pass client held book rest ≡ rest
  fault_after rest none =
      let first = option_map Book (unless_full book None) in
      let seen = then_after (ltb (next_event book) pass.front) (PassAhead (next_event book) pass.front)
      (unless_other client held book first) (unless_other client held book rest) none in
      seen.1 ∙ (else_after (is_for client held book) OtherBook first rest seen.0).1

-- the same of an answer that is handed out
pub hand_before : (pass : PassState) (asked : Asked) (book : BookState) (fault : ServiceFault)
    → early_fault pass asked.abilities asked.held book ≡ Some fault → hand_fault pass asked book ≡ Some fault
hand_before pass asked book fault before =
    fault_before pass asked.abilities asked.held book Book (cond (has_current_entry book.entries asked.question) None (Some NotCurrent)) fault refl before

-- the fault where no entry is current
pub hand_not_current : (pass : PassState) (asked : Asked) (book : BookState) → early_fault pass asked.abilities asked.held book ≡ None
    → is_full book ≡ false → has_current_entry book.entries asked.question ≡ false → hand_fault pass asked book ≡ Some (Book NotCurrent)
hand_not_current pass asked book none space missing =
    let entry : Option BookFault = cond (has_current_entry book.entries asked.question) None (Some NotCurrent) in
    fault_after pass asked.abilities asked.held book (option_map Book (hand_refusal asked.question book)) none
    ∙ ap (option_map Book) (cond-false (is_full book) (Some JournalFull) entry space
    ∙ cond-false (has_current_entry book.entries asked.question) None (Some NotCurrent) missing)

-- the same of a commit
pub commit_before : (pass : PassState) (asked : Asked) (found : Found) (book : BookState) (fault : ServiceFault)
    → early_fault pass asked.abilities asked.held book ≡ Some fault → commit_fault pass asked found book ≡ Some fault
commit_before pass asked found book fault before =
    fault_before pass asked.abilities asked.held book (contended found.items) (option_map Stale (position (is_stale book.store) found.items)) fault refl before

-- the fault of a commit that the book refuses
pub commit_refused : (pass : PassState) (asked : Asked) (found : Found) (book : BookState) (uncommitted : Uncommitted) (fault : ServiceFault)
    → early_fault pass asked.abilities asked.held book ≡ None → commit_refusal is_stale found book ≡ Some uncommitted.fault → uncommitted.finding ≡ found
    → fault ≡ contended uncommitted.finding.items uncommitted.fault → commit_fault pass asked found book ≡ Some fault
commit_refused pass asked found book uncommitted fault none refusal same is =
    fault_after pass asked.abilities asked.held book (option_map (contended found.items) (commit_refusal is_stale found book)) none
    ∙ ap (option_map (contended found.items)) refusal
    ∙ ap (λ (f : Found). Some (contended f.items uncommitted.fault)) (sym same)
    ∙ ap (λ (f : ServiceFault). Some f) (sym is)

-- what a book that is not full refuses is a failed allocation
pub refused_for_memory : (book : BookState) (fault : BookFault) → is_full book ≡ false
    → (fault ≢ BookMemory → unless_full book None ≡ Some fault) → of_book fault ≡ Memory
refused_for_memory book fault space refused = by fault (λ known. sym (cond-false (is_full book) (Some JournalFull) None space) ∙ refused known)
  where
    by : (fault : BookFault) → (fault ≢ BookMemory → None ≡ Some fault) → of_book fault ≡ Memory
    by BookMemory refused = refl
    by other refused = let never : None ≡ Some other = refused (λ e. cc) in cc
