-- Why a call that records an event is refused, by the book and the caller's pass.
use Rattle.std.specs.Prelude.{Bool, true, false, ◌&&◌, nat_lt, if◌then◌else◌, List, slice_get, Option, None, Some, option_map}
use Rattle.sipl_choice.specs.Abilities.{Client, same_client}
use Rattle.sipl_evidence.specs.Items.{Item}
use Rattle.sipl_outages.specs.declared.held.Held.{Held}
use Rattle.sipl_outages.specs.declared.held.Held.TheVariants.{Out, Last}
use Rattle.sipl_plans.specs.Findings.{Found}
use Rattle.sipl_book.specs.Book.{BookState, next_event}
use Rattle.sipl_book.specs.Calls.{commit_refusal, hand_refusal, is_stale, unless_full}
use Rattle.sipl_book.specs.declared.fault.BookFault.{BookFault}
use Rattle.sipl_book.specs.declared.fault.BookFault.TheVariants.{Stale}
use Rattle.sipl_service.specs.Passes.{PassState}
use Rattle.sipl_service.specs.declared.asked.Asked.{Asked}
use Rattle.sipl_service.specs.declared.fault.ServiceFault.{ServiceFault}
use Rattle.sipl_service.specs.declared.fault.ServiceFault.TheVariants.{Contended, PassAhead, Stopped, OtherBook, Book}

-- the fault where the pass has seen an event that the book has not, before all others
abbrev pub unless_ahead : PassState → BookState → Option ServiceFault → Option ServiceFault
unless_ahead pass book fault =
    if nat_lt (next_event book) pass.front
    then Some (PassAhead (next_event book) pass.front) else fault

-- whether two policies on held endpoints are the same
abbrev pub same_held : Held → Held → Bool
same_held Out Out = true
same_held Last Last = true
same_held _ _ = false

-- whether the book is for this client, and for this policy on held endpoints
abbrev pub is_for : Client → Held → BookState → Bool
is_for client held book = same_client book.client client && same_held book.held held

-- the fault where the book is for another client or policy, before those of the book
abbrev pub unless_other : Client → Held → BookState → Option ServiceFault → Option ServiceFault
unless_other client held book fault = if is_for client held book then fault else Some OtherBook

-- the fault where the service was stopped, before all others
abbrev pub unless_stopped : Bool → Option ServiceFault → Option ServiceFault
unless_stopped is_stopped fault = if is_stopped then Some Stopped else fault

-- the fault of a change to the book that the book refuses so
abbrev pub change_fault : PassState → BookState → Option BookFault → Option ServiceFault
change_fault pass book refusal = unless_ahead pass book (option_map Book refusal)

-- the fault of an answer for this client and policy that the book refuses so
abbrev pub answer_fault : PassState → Client → Held → BookState → Option ServiceFault
    → Option ServiceFault
answer_fault pass client held book refusal =
    unless_ahead pass book (unless_other client held book refusal)

-- the fault of any answer for this client and policy, which comes before each allocation under the
-- lock
abbrev pub early_fault : PassState → Client → Held → BookState → Option ServiceFault
early_fault pass client held book =
    answer_fault pass client held book (option_map Book (unless_full book None))

-- the fault of returning the answer of a current entry
abbrev pub hand_fault : PassState → Asked → BookState → Option ServiceFault
hand_fault pass asked book =
    answer_fault pass asked.abilities asked.held book
    (option_map Book (hand_refusal asked.question book))

-- the fault of a commit that the book refuses so: a changed set is named by its key
abbrev pub contended : List Item → BookFault → ServiceFault
contended items (Stale place) =
    elim (slice_get items place) [ Some item ↦ Contended item.key | None ↦ Book (Stale place) ]
contended items fault = Book fault

-- the fault of a commit for this client and policy, by number and data of the sets
abbrev pub commit_fault : PassState → Asked → Found → BookState → Option ServiceFault
commit_fault pass asked found book =
    answer_fault pass asked.abilities asked.held book
    (option_map (contended found.items) (commit_refusal is_stale found book))
