-- Pages: the events of a book between two times, with the states before and after them.
use Rattle.std.specs.Prelude.{◌≡◌, ◌≢◌, ℕ, ◌+◌, ◌-◌, ◌^◌, ◌≤◌, nat_lt, List, [], ◌∷◌, length, flat_map, if◌then◌else◌, Option, None, Some, Result, OnOk, OnErr, IfOk, IfErr}
use Rattle.sipl_choice.specs.Abilities.{Client}
use Rattle.sipl_outages.specs.declared.held.Held.{Held}
use Rattle.sipl_book.specs.Book.{BookState, next_event, state_of}
use Rattle.sipl_book.specs.Machine.{State, IsLegal, empty_state, replay}
use Rattle.sipl_book.specs.declared.event.Event.{Event}
use Rattle.sipl_book.specs.declared.fault.BookFault.{BookFault}
use Rattle.sipl_book.specs.declared.outcome.Extent.{Extent}
use Rattle.sipl_book.specs.declared.fault.BookFault.TheVariants.{PagesSpent, Memory}

-- what callers see of a page: the number of its first event, the state before its events, the events,
-- the state after them, and for which client and policy on held endpoints they are
pub record PageState : Type 0 where
  pub first : ℕ
  pub base : State
  pub events : List Event
  pub result : State
  pub client : Client
  pub held : Held

-- the events are legal from the base and lead to the result; their numbers are within the limits
pub record IsPage (page : PageState) : Type 0 where
  pub legal : IsLegal page.client page.held page.events page.base
  pub replayed : replay page.events page.base ≡ page.result
  pub few : length page.events ≤ 1048576
  pub first_limit : page.first ≤ 2 ^ 52 - 2 ^ 20

-- the number of the event after those of a page
abbrev pub next_of : PageState → ℕ
next_of page = page.first + length page.events

-- which events a page has
abbrev pub extent_of : PageState → Extent
extent_of page = record { first = page.first; count = length page.events }

-- a page goes on where the one before it ended, for the same client and policy
pub record GoesOn (before page : PageState) : Type 0 where
  pub first : page.first ≡ next_of before
  pub base : page.base ≡ before.result
  pub client : page.client ≡ before.client
  pub held : page.held ≡ before.held

-- a page follows the one before it; where there is none, it begins at the empty state
abbrev pub Follows : Option PageState → PageState → Type 0
Follows None page = page.base ≡ empty_state
Follows (Some before) page = GoesOn before page

-- each page follows the one before it
abbrev pub AreInOrder : Option PageState → List PageState → Type 0
AreInOrder before [] = Unit {0}
AreInOrder before (page ∷ pages) = Follows before page × AreInOrder (Some page) pages

-- the events of all pages, in their order
abbrev pub events_in : List PageState → List Event
events_in pages = flat_map (λ page. page.events) pages

-- the page of a book's journal
abbrev pub page_of : BookState → PageState
page_of book =
    record {
      first = book.first;
      base = book.base;
      events = book.journal;
      result = state_of book;
      client = book.client;
      held = book.held;
    }

-- the fault of turning the page: the numbers of the next page's events may be over 2^52
abbrev pub turn_refusal : BookState → Option BookFault
turn_refusal book = if nat_lt (2 ^ 52 - 2 ^ 20) (next_event book) then Some PagesSpent else None

-- the book with an empty journal, at the state as it is
abbrev pub after_turn : BookState → BookState
after_turn book =
    record book { first = next_event book; base = state_of book; journal = [] }

-- The page that is returned is that of the journal, which begins anew at the state as it is. Nothing
-- else changes. A refused call changes nothing, and an allocation fails only where no fault applies.
pub record IsTurned (old new : BookState) (result : Result PageState BookFault) : Type 0 where
  pub accepted : OnOk result (turn_refusal old ≡ None)
  pub page : IfOk result (λ page. page ≡ page_of old)
  pub after : OnOk result (new ≡ after_turn old)
  pub refused : IfErr result (λ fault. fault ≢ Memory → turn_refusal old ≡ Some fault)
  pub memory : IfErr result (λ fault. fault ≡ Memory → turn_refusal old ≡ None)
  pub unchanged : OnErr result (new ≡ old)
