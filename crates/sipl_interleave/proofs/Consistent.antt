-- What always holds of a book holds after its calls.
use Rattle.std.proofs.Common.{◌≡◌, ℕ, ◌^◌, ◌-◌, ◌≤◌, ltb, false, List, [], ◌∷◌, ◌++◌, Option, Some, None, option_map, Ok, inl, inr, refl, sym, subst, ◌∙◌, arith}
use Rattle.std.specs.List.{IsDistinct}
use Rattle.std.proofs.lemmas.Bool.{cases_Bool, cond-true, leb-false, ltb-false}
use Rattle.sipl_records.specs.Sets.{is_existence, set_of}
use Rattle.sipl_records.specs.declared.record.Key.{Key}
use Rattle.sipl_choice.specs.Abilities.{Client}
use Rattle.sipl_choice.specs.Endpoints.{same_endpoint}
use Rattle.sipl_outages.specs.Board.{IsConsistent as IsConsistentBoard}
use Rattle.sipl_outages.specs.Holds.{BoardEvent, after as after_hold}
use Rattle.sipl_outages.specs.declared.fault.BoardFault.{BoardFault}
use Rattle.sipl_outages.specs.declared.held.Held.{Held}
use Rattle.sipl_uri.specs.declared.question.Question.{Question}
use Rattle.sipl_zonestore.specs.Consistent.{IsConsistent as IsConsistentStore}
use Rattle.sipl_zonestore.specs.Numbers.{number_by}
use Rattle.sipl_book.specs.Book.{BookState, IsConsistent, new_book, next_event}
use Rattle.sipl_book.specs.Calls.{IsHanded, MovesBoard, answer_event, board_event}
use Rattle.sipl_book.specs.Pages.{after_turn, turn_refusal}
use Rattle.sipl_book.specs.declared.fault.BookFault.TheVariants.{Board, PagesSpent}
use Rattle.sipl_book.specs.declared.limits.Limits.{Limits}
use Rattle.sipl_book.specs.declared.outcome.Handed.{Handed}
use Rattle.sipl_book.proofs.Public.{all_good-later, consistent-answered, consistent-moved, space}

-- ---- a new book

-- no set of no records has a number or data
no_sets : (key : Key) → (number_by [] [] key ≡ 0) × (set_of [] key ≡ [])
no_sets key = elim (cases_Bool (is_existence key)) [
  | inl of ↦ (rw of refl, rw of refl)
  | inr other ↦ (rw other refl, rw other refl)
]

-- no endpoint is held
none_held : IsDistinct same_endpoint []
unfolding IsDistinct
none_held = tt

-- the limits that a new book may have
pub record AreLimits (limits : Limits) : Type 0 where
  pub records : limits.records ≤ 1048576
  pub entries : limits.entries ≤ 65536
  pub journal : limits.journal ≤ 1048576
  pub holds : limits.holds ≤ 4096
  pub first : 1 ≤ limits.next
  pub last : limits.next ≤ 2 ^ 52
  pub page : limits.first ≤ 2 ^ 52 - 2 ^ 20

pub consistent-new : (client : Client) (held : Held) (limits : Limits) → AreLimits limits → IsConsistent (new_book client held limits)
consistent-new client held limits within =
    record {
      legal = tt;
      replayed = refl;
      store = store;
      board = record { distinct = none_held; lasting = refl; within = omega arith; limit = within.holds; time = omega arith };
      entries = λ k d below. absurd (omega arith);
      questions = λ i j d before below. absurd (omega arith);
      ids = λ i j d before below. absurd (omega arith);
      few_entries = omega arith;
      few_events = omega arith;
      first_limit = within.page;
      records_limit = within.records;
      entries_limit = within.entries;
      events_limit = within.journal;
    }
  where
    store : IsConsistentStore (new_book client held limits).store
    store =
        record {
          apart = λ i j d before below. absurd (omega arith);
          apexes_distinct = λ i j d before below. absurd (omega arith);
          no_wildcard = refl;
          covered = refl;
          records_distinct = refl;
          sets_fit = refl;
          aliases = λ i j d before below. absurd (omega arith);
          limit = omega arith;
          numbered = record {
            empty = λ key. (λ none. (no_sets key).1, λ none. (no_sets key).0);
            below = λ key other. let none = (no_sets key).0 in let first = within.first in omega (arith, none, first);
            one_key = λ a b one two same some. absurd (some (no_sets a).0);
            last = let last = within.last in omega (arith, last);
          };
        }

-- ---- calls of the book

no_board_fault : (fault : Option BoardFault) → option_map Board fault ≡ None → fault ≡ None
no_board_fault None none = refl
no_board_fault (Some fault) none = cc

-- a hold, a release or a move of the clock
pub consistent-board : (event : BoardEvent) (old new : BookState) (number : ℕ) → IsConsistent old → MovesBoard event old new (Ok number) → IsConsistent new
consistent-board event old new number good move =
    let has = space old _ move.accepted in
    subst IsConsistent (sym move.after)
    (consistent-moved old event (record { holds = after_hold event old.board.holds; max_holds = old.board.max_holds }) (old.journal ++ board_event event ∷ []) good
    (record {
      accepted = no_board_fault _ has.1;
      after = refl;
      refused = tt;
      unchanged = tt;
      limit = refl;
      consistent = subst (λ (b : BookState). IsConsistentBoard b.board) move.after move.consistent;
    }) (leb-false _ _ has.0) refl)

pub consistent-handed : (question : Question) (words : List ℕ) (old new : BookState) (handed : Handed) → IsConsistent old
    → IsHanded question words old new (Ok handed) → IsConsistent new
consistent-handed question words old new handed good hand =
    let has = space old _ hand.accepted in
    subst IsConsistent (sym hand.after)
    (consistent-answered old question words (old.journal ++ answer_event old question words ∷ []) good (leb-false _ _ has.0) refl)

pub consistent-turned : (book : BookState) → IsConsistent book → turn_refusal book ≡ None → IsConsistent (after_turn book)
consistent-turned book good accepted =
    record {
      legal = tt;
      replayed = refl;
      store = good.store;
      board = good.board;
      entries = all_good-later book (after_turn book) refl refl refl refl (omega arith) book.entries good.entries;
      questions = good.questions;
      ids = good.ids;
      few_entries = good.few_entries;
      few_events = omega arith;
      first_limit = elim (cases_Bool (ltb (2 ^ 52 - 2 ^ 20) (next_event book))) [
        | inl late ↦ let never : Some PagesSpent ≡ None = sym (cond-true _ _ _ late) ∙ accepted in cc
        | inr early ↦ ltb-false _ _ early
      ];
      records_limit = good.records_limit;
      entries_limit = good.entries_limit;
      events_limit = good.events_limit;
    }
