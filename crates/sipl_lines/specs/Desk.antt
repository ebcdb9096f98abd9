-- What a desk does for a session, and the desk of a book.
use Rattle.std.specs.Prelude.{◌≡◌, ℕ, List, Option, None, Result, Err}
use Rattle.std.specs.Result.{result_map_both}
use Rattle.sipl_names.specs.Labels.{Octets}
use Rattle.sipl_evidence.specs.Items.{Item}
use Rattle.sipl_uri.specs.declared.question.Question.{Question}
use Rattle.sipl_outages.specs.Holds.{BoardEvent}
use Rattle.sipl_book.specs.Book.{BookState}
use Rattle.sipl_book.specs.BookFault.{code_of as book_code}
use Rattle.sipl_book.specs.Calls.{IsChanged, MovesBoard}
use Rattle.sipl_book.specs.Lookups.{AreDependencies, IsAnswered, IsRepaired}
use Rattle.sipl_book.specs.Pages.{IsTurned, PageState, extent_of}
use Rattle.sipl_book.specs.declared.edit.Edit.{Edit}
use Rattle.sipl_book.specs.declared.fault.BookFault.{BookFault}
use Rattle.sipl_book.specs.declared.outcome.Done.{Done}
use Rattle.sipl_book.specs.declared.outcome.Extent.{Extent}
use Rattle.sipl_book.specs.declared.outcome.Handed.{Handed}

-- what the calls of a desk may do, from a state to a state, with a value or a fault; what a pause of
-- the session may do, which has no reply; which times, in milliseconds, it may report in a state; how
-- many octets the lines of a zone may have, without their ends, where there is a limit; and what a
-- refusal says of a fault
pub record DeskRules (D F : Type 0) : Type 1 where
  pub Finds : Question → List ℕ → D → Result Handed F → D → Type 0
  pub Changes : Edit → D → Result Done F → D → Type 0
  pub Moves : BoardEvent → D → Result ℕ F → D → Type 0
  pub Depends : Question → D → Result (List Item) F → D → Type 0
  pub Repairs : D → Result (Unit {0}) F → D → Type 0
  pub Pages : D → Result Extent F → D → Type 0
  pub Pauses : D → D → Type 0
  pub IsTime : D → ℕ → Type 0
  pub zone_octets : D → Option ℕ
  pub fault_text : F → Octets

-- the same of a desk whose calls are the events of a journal
pub record EventRules (D F : Type 0) : Type 1 where
  pub Finds : Question → List ℕ → D → Result Handed F → D → Type 0
  pub Changes : Edit → D → Result Done F → D → Type 0
  pub Moves : BoardEvent → D → Result ℕ F → D → Type 0
  pub Pauses : D → D → Type 0
  pub IsTime : D → ℕ → Type 0
  pub fault_text : F → Octets

-- a call is refused, and changes nothing
abbrev pub IsRefused : {D F A : Type 0} → D → Result A F → D → Type 0
IsRefused {D} {F} {A} old outcome new = ((fault : F) × (outcome ≡ Err fault)) × (new ≡ old)

-- what the calls of such a desk do: those that are no events are refused, and a zone has no limit
abbrev pub only_events : {D F : Type 0} → EventRules D F → DeskRules D F
only_events rules =
    record {
      Finds = rules.Finds;
      Changes = rules.Changes;
      Moves = rules.Moves;
      Depends = λ question old outcome new. IsRefused old outcome new;
      Repairs = λ old outcome new. IsRefused old outcome new;
      Pages = λ old outcome new. IsRefused old outcome new;
      Pauses = rules.Pauses;
      IsTime = rules.IsTime;
      zone_octets = λ desk. None;
      fault_text = rules.fault_text;
    }

-- what the calls of a book's desk do: those of the book. Of a page it returns the extent only, and a
-- pause does nothing
abbrev pub book_rules : DeskRules BookState BookFault
book_rules =
    record {
      Finds = λ question words old outcome new. IsAnswered question words old new outcome;
      Changes = λ edit old outcome new. IsChanged edit old new outcome;
      Moves = λ event old outcome new. MovesBoard event old new outcome;
      Depends = λ question old outcome new. AreDependencies question old new outcome;
      Repairs = λ old outcome new. IsRepaired old new outcome;
      Pages = λ old outcome new. (turned : Result PageState BookFault) × IsTurned old new turned
          × (outcome ≡ result_map_both extent_of (λ fault. fault) turned);
      Pauses = λ old new. new ≡ old;
      IsTime = λ book now. now ≡ book.board.holds.now;
      zone_octets = λ book. None;
      fault_text = book_code;
    }
