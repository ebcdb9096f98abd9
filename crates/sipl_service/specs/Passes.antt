-- What a pass has, and what a call does to it.
use Rattle.std.specs.Prelude.{◌≡◌, ◌<◌, ◌≤◌, ℕ, ◌+◌, List, ◌++◌, ◌∷◌, [], flat_map, Result, Ok, IfOk, OnErr}
use Rattle.std.specs.List.{All}
use Rattle.sipl_book.specs.Book.{BookState}
use Rattle.sipl_book.specs.Calls.{IsChanged}
use Rattle.sipl_book.specs.declared.edit.Edit.{Edit}
use Rattle.sipl_book.specs.declared.event.Event.{Event}
use Rattle.sipl_book.specs.declared.outcome.Done.{Done}
use Rattle.sipl_service.specs.declared.fault.ServiceFault.{ServiceFault}
use Rattle.sipl_service.specs.Receipts.{IsAscending}
use Rattle.sipl_service.specs.declared.receipt.Receipt.{Receipt}

-- the receipts of the calls since the last hand-over, in their order, and one more than the greatest
-- number of an event that was seen
pub record PassState : Type 0 where
  pub receipts : List Receipt
  pub front : ℕ

-- the receipts are in the order of their numbers, which were seen
pub record IsPass (pass : PassState) : Type 0 where
  pub ascending : IsAscending pass.receipts
  pub seen : All (λ receipt. receipt.number < pass.front) pass.receipts

-- the receipt of an event with its number
abbrev pub receipt_of : ℕ → Event → Receipt
receipt_of number event = record { number = number; event = event }

-- a pass after an accepted call: it has one receipt more, and its front is after the event
abbrev pub with_receipt : PassState → ℕ → Event → PassState
with_receipt pass number event =
    record { receipts = pass.receipts ++ receipt_of number event ∷ []; front = number + 1 }

-- What a call does to the pass of its caller: an accepted one gets one receipt, of an event whose
-- number is not before the front, which is after it then. A refused one leaves the pass as it was.
pub record GetsReceipt {A : Type 0} (number_of : A → ℕ) (event_of : A → Event) (old new : PassState)
    (result : Result A ServiceFault) : Type 0 where
  pub receipt : IfOk result (λ a. new ≡ with_receipt old (number_of a) (event_of a))
  pub front : IfOk result (λ a. old.front ≤ number_of a)
  pub refused : OnErr result (new ≡ old)

-- What an edit of some book reports: its number, and how many record sets of that book have changed.
-- Which book it was, the lock doesn't say.
pub record IsOutcomeOf (edit : Edit) (done : Done) : Type 0 where
  pub old : BookState
  pub new : BookState
  pub change : IsChanged edit old new (Ok done)

-- the receipts of all passes, pass after pass
abbrev pub receipts_of : List PassState → List Receipt
receipts_of passes = flat_map (λ pass. pass.receipts) passes
