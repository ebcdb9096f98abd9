-- The journal of a book with one event more, and what always holds of the book then.
use Rattle.std.proofs.Common.{◌≡◌, ℕ, ◌^◌, ◌+◌, ◌<◌, ◌≤◌, ◌&&◌, cond, leb, ltb, Bool, true, false, List, [], ◌∷◌, ◌++◌, length, Some, None, refl, sym, ap, subst, ◌∙◌, arith, inl, inr, length-append}
use Rattle.std.specs.List.{All}
use Rattle.std.proofs.lemmas.Bool.{cases_Bool, cond-false, lt-leb, leb-false}
use Rattle.std.proofs.lemmas.List.Elements.{All-weaker}
use Rattle.sipl_choice.specs.Abilities.{Client}
use Rattle.sipl_outages.specs.Board.{BoardState, IsConsistent as IsConsistentBoard}
use Rattle.sipl_outages.specs.declared.held.Held.{Held}
use Rattle.sipl_outages.specs.declared.fault.BoardFault.TheVariants.{TooFar, BoardFull}
use Rattle.sipl_outages.specs.Holds.{Holds, BoardEvent, is_new_hold, refusal_of}
use Rattle.sipl_outages.specs.Holds.BoardEvent.{Hold, Release, Advance}
use Rattle.sipl_book.specs.Book.{BookState, IsConsistent, IsGoodEntry, next_event, state_of}
use Rattle.sipl_book.specs.Calls.{recorded}
use Rattle.sipl_book.specs.Entries.{EntryState}
use Rattle.sipl_book.specs.Machine.{State, IsAccepted, IsLegal, after, replay}
use Rattle.sipl_book.specs.declared.event.Event.{Event}
use Rattle.sipl_book.proofs.Honest.{current-as, read-as}

-- a legal journal stays legal with an event that is accepted in the state that it leads to
pub legal-push : (client : Client) (held : Held) (events : List Event) (event : Event) (state : State) → IsLegal client held events state
    → IsAccepted client held event (replay events state) → IsLegal client held (events ++ event ∷ []) state
legal-push client held [] event state legal accepted = (accepted, tt)
legal-push client held (first ∷ events) event state legal accepted =
    (legal.0, legal-push client held events event (after first state) legal.1 accepted)

-- the last event comes after the others
pub replay-push : (events : List Event) (event : Event) (state : State) → replay (events ++ event ∷ []) state ≡ after event (replay events state)
replay-push [] event state = refl
replay-push (first ∷ events) event state = replay-push events event (after first state)

-- a hold that is accepted is accepted where more endpoints may be held
hold_with_more : (max_holds held : ℕ) (late new : Bool) → max_holds ≤ 4096
    → cond late (Some TooFar) (cond (new && leb max_holds held) (Some BoardFull) None) ≡ None
    → cond late (Some TooFar) (cond (new && leb 4096 held) (Some BoardFull) None) ≡ None
hold_with_more max_holds held true new within accepted = accepted
hold_with_more max_holds held false false within accepted = refl
hold_with_more max_holds held false true within accepted =
    elim (cases_Bool (leb max_holds held)) [
      | inl full ↦ let refused : Some BoardFull ≡ None = ap (λ b. cond b (Some BoardFull) None) (sym full) ∙ accepted in cc
      | inr space ↦ cond-false _ _ _ (lt-leb 4096 held (omega (arith, leb-false max_holds held space, within)))
    ]

-- what a board accepts is accepted where 4,096 endpoints may be held
pub accepted_with_more : (max_holds : ℕ) (event : BoardEvent) (holds : Holds) → max_holds ≤ 4096
    → refusal_of max_holds event holds ≡ None → refusal_of 4096 event holds ≡ None
accepted_with_more max_holds (Hold endpoint ms) holds within accepted =
    hold_with_more max_holds (length holds.ends) (ltb (2 ^ 52) (holds.now + ms)) (is_new_hold endpoint ms holds) within accepted
accepted_with_more max_holds (Release endpoint) holds within accepted = accepted
accepted_with_more max_holds (Advance to) holds within accepted = accepted

-- a good entry stays good where the zones and the numbers of their sets are as before
module _ (old new : BookState) (client : new.client ≡ old.client) (zones : new.store.zones ≡ old.store.zones)
    (numbers : new.store.numbers ≡ old.store.numbers) (next : new.store.next ≡ old.store.next) (later : next_event old ≤ next_event new) where
  pub good-later : (entry : EntryState) → IsGoodEntry old entry → IsGoodEntry new entry
  good-later entry good =
      record {
        client = good.client ∙ sym client;
        sound = good.sound;
        read = read-as old.store new.store zones numbers entry.found.items next good.read;
        up_to_date = λ current. current-as old.store new.store zones numbers entry.found.items (good.up_to_date current);
        made = omega (arith, good.made, later);
      }

  pub all_good-later : (entries : List EntryState) → All (IsGoodEntry old) entries → All (IsGoodEntry new) entries
  all_good-later entries good = All-weaker (IsGoodEntry old) (IsGoodEntry new) good-later entries good

-- ---- a book with one event more, where the zones and the entries are as before

pub consistent-recorded : (book : BookState) (event : Event) (board : BoardState) → IsConsistent book → IsConsistentBoard board
    → length book.journal < book.max_events → IsAccepted book.client book.held event (state_of book)
    → after event (state_of book) ≡ record { zones = book.store.zones; holds = board.holds }
    → IsConsistent (recorded event (record book { board = board }))
consistent-recorded book event board good good_board space accepted leads =
    let longer : length (book.journal ++ event ∷ []) ≡ length book.journal + 1 = length-append book.journal (event ∷ []) in
    record {
      legal = legal-push book.client book.held book.journal event book.base good.legal (subst (IsAccepted book.client book.held event) (sym good.replayed) accepted);
      replayed = replay-push book.journal event book.base ∙ ap (after event) good.replayed ∙ leads;
      store = good.store;
      board = good_board;
      entries = all_good-later book (recorded event (record book { board = board })) refl refl refl refl (omega (arith, longer)) book.entries good.entries;
      questions = good.questions;
      ids = good.ids;
      few_entries = good.few_entries;
      few_events = omega (arith, longer, space);
      first_limit = good.first_limit;
      records_limit = good.records_limit;
      entries_limit = good.entries_limit;
      events_limit = good.events_limit;
    }
