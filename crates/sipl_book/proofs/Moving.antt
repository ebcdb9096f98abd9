-- Holds, releases and moves of the clock: the state that they lead to, and that the book stays consistent.
use Rattle.std.proofs.Common.{◌≡◌, ◌<◌, List, [], ◌∷◌, ◌++◌, length, None, Ok, refl, sym, subst, ◌∙◌}
use Rattle.sipl_choice.specs.Abilities.{Client}
use Rattle.sipl_outages.specs.Board.{BoardState, Makes}
use Rattle.sipl_outages.specs.declared.held.Held.{Held}
use Rattle.sipl_outages.specs.Holds.{BoardEvent, refusal_of, after as after_hold}
use Rattle.sipl_outages.specs.Holds.BoardEvent.{Hold, Release, Advance}
use Rattle.sipl_book.specs.Book.{BookState, IsConsistent, state_of}
use Rattle.sipl_book.specs.Calls.{board_event}
use Rattle.sipl_book.specs.Machine.{State, IsAccepted, after}
use Rattle.sipl_book.specs.declared.event.Event.{Event}
use Rattle.sipl_book.proofs.Journal.{accepted_with_more, consistent-recorded}

accepted_event : (client : Client) (held : Held) (event : BoardEvent) (state : State) → refusal_of 4096 event state.holds ≡ None → IsAccepted client held (board_event event) state
accepted_event client held (Hold endpoint ms) state accepted = accepted
accepted_event client held (Release endpoint) state accepted = accepted
accepted_event client held (Advance to) state accepted = accepted

after_event : (event : BoardEvent) (state : State) → after (board_event event) state ≡ record { zones = state.zones; holds = after_hold event state.holds }
after_event (Hold endpoint ms) state = refl
after_event (Release endpoint) state = refl
after_event (Advance to) state = refl

-- a book stays consistent with a board that made an event, which is the next one of the journal
pub consistent-moved : (book : BookState) (event : BoardEvent) (board : BoardState) (journal : List Event) → IsConsistent book
    → Makes event book.board board (Ok (tt {0})) → length book.journal < book.max_events → journal ≡ book.journal ++ board_event event ∷ []
    → IsConsistent (record book { board = board; journal = journal })
consistent-moved book event board journal good makes space is =
    let accepted = accepted_with_more book.board.max_holds event book.board.holds good.board.limit makes.accepted in
    let leads : after (board_event event) (state_of book) ≡ record { zones = book.store.zones; holds = board.holds } =
    after_event event (state_of book) ∙ (λ i. record { zones = book.store.zones; holds = sym makes.after i }) in
    subst (λ events. IsConsistent (record book { board = board; journal = events })) (sym is)
    (consistent-recorded book (board_event event) board good makes.consistent space (accepted_event book.client book.held event (state_of book) accepted) leads)
