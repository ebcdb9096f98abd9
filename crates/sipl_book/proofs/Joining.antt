-- The events of pages in order, and the number of an event in a journal.
use Rattle.std.proofs.Common.{◌≡◌, ℕ, ◌+◌, ◌-◌, List, [], ◌∷◌, ◌++◌, length, Option, Some, None, refl, sym, ap, subst, ◌∙◌, arith}
use Rattle.std.specs.List.{All, slice_get}
use Rattle.std.proofs.lemmas.List.Elements.{All-head, All-tail}
use Rattle.sipl_choice.specs.Abilities.{Client}
use Rattle.sipl_outages.specs.declared.held.Held.{Held}
use Rattle.sipl_book.specs.Machine.{State, IsLegal, after, empty_state, replay}
use Rattle.sipl_book.specs.Pages.{AreInOrder, Follows, GoesOn, IsPage, PageState, events_in}
use Rattle.sipl_book.specs.declared.event.Event.{Event}
use Rattle.sipl_book.proofs.Legal.{last_place}

-- the event that is appended is at its number, less the first
pub place_of_number : (events : List Event) (event : Event) (first number later : ℕ) → later ≡ first → number ≡ first + length events
    → slice_get (events ++ event ∷ []) (number - later) ≡ Some event
place_of_number events event first number later same is =
    let place : number - later ≡ length events = omega (arith, same, is) in
    ap (slice_get (events ++ event ∷ [])) place ∙ last_place events event

-- what is legal after the first events is legal after them
pub legal_append : (client : Client) (held : Held) (events later : List Event) (state : State) → IsLegal client held events state
    → IsLegal client held later (replay events state) → IsLegal client held (events ++ later) state
legal_append client held [] later state legal more = more
legal_append client held (event ∷ events) later state legal more =
    (legal.0, legal_append client held events later (after event state) legal.1 more)

-- the later events come after the others
pub replay_append : (events later : List Event) (state : State) → replay (events ++ later) state ≡ replay later (replay events state)
replay_append [] later state = refl
replay_append (event ∷ events) later state = replay_append events later (after event state)

-- the events of a page, for the client and policy of the one before it, are legal from its result
legal_next : (before page : PageState) → GoesOn before page → (events : List Event) → IsLegal page.client page.held events page.result
    → IsLegal before.client before.held events page.result
legal_next before page goes events legal =
    subst (λ client. IsLegal client before.held events page.result) goes.client
    (subst (λ held. IsLegal page.client held events page.result) goes.held legal)

page_legal : (before page : PageState) → GoesOn before page → IsPage page → IsLegal before.client before.held page.events before.result
page_legal before page goes is =
    subst (λ client. IsLegal client before.held page.events before.result) goes.client
    (subst (λ held. IsLegal page.client held page.events before.result) goes.held
    (subst (IsLegal page.client page.held page.events) goes.base is.legal))

page_replayed : (page : PageState) (start : State) → page.base ≡ start → IsPage page → replay page.events start ≡ page.result
page_replayed page start base is = ap (replay page.events) (sym base) ∙ is.replayed

-- the events of pages in order are legal from the result of the page before them
later_legal : (before : PageState) (pages : List PageState) → All IsPage pages → AreInOrder (Some before) pages
    → IsLegal before.client before.held (events_in pages) before.result
later_legal before [] are order = tt
later_legal before (page ∷ pages) are order =
    let is = All-head IsPage page pages are in
    legal_append before.client before.held page.events (events_in pages) before.result
    (page_legal before page order.0 is)
    (subst (IsLegal before.client before.held (events_in pages)) (sym (page_replayed page before.result order.0.base is))
    (legal_next before page order.0 (events_in pages) (later_legal page pages (All-tail IsPage page pages are) order.1)))

pub joined_legal : (first : PageState) (pages : List PageState) → All IsPage (first ∷ pages) → AreInOrder None (first ∷ pages)
    → IsLegal first.client first.held (events_in (first ∷ pages)) empty_state
joined_legal first pages are order =
    let is = All-head IsPage first pages are in
    legal_append first.client first.held first.events (events_in pages) empty_state
    (subst (IsLegal first.client first.held first.events) order.0 is.legal)
    (subst (IsLegal first.client first.held (events_in pages)) (sym (page_replayed first empty_state order.0 is))
    (later_legal first pages (All-tail IsPage first pages are) order.1))

-- where pages begin that come after another, or after none
abbrev start_of : Option PageState → State
start_of None = empty_state
start_of (Some before) = before.result

start-follows : (before : Option PageState) (page : PageState) → Follows before page → page.base ≡ start_of before
start-follows None page follows = follows
start-follows (Some before) page follows = follows.base

joined_from : (before : Option PageState) (last : PageState) (pages : List PageState) → All IsPage (pages ++ last ∷ []) → AreInOrder before (pages ++ last ∷ [])
    → replay (events_in (pages ++ last ∷ [])) (start_of before) ≡ last.result
joined_from before last [] are order =
    replay_append last.events [] (start_of before) ∙ page_replayed last (start_of before) (start-follows before last order.0) (All-head IsPage last [] are)
joined_from before last (page ∷ pages) are order =
    let later = events_in (pages ++ last ∷ []) in
    replay_append page.events later (start_of before)
    ∙ ap (replay later) (page_replayed page (start_of before) (start-follows before page order.0) (All-head IsPage page (pages ++ last ∷ []) are))
    ∙ joined_from (Some page) last pages (All-tail IsPage page (pages ++ last ∷ []) are) order.1

pub joined_replayed : (last : PageState) (pages : List PageState) → All IsPage (pages ++ last ∷ []) → AreInOrder None (pages ++ last ∷ [])
    → replay (events_in (pages ++ last ∷ [])) empty_state ≡ last.result
joined_replayed = joined_from None
