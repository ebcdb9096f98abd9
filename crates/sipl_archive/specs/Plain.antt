-- What the plain machine does, by which an archive is replayed: it keeps no results, and each answer is that
-- of RFC 3263, 4, from scratch on the records and the holds as they are.
use Rattle.std.specs.Prelude.{◌≡◌, ◌≢◌, ℕ, [], None, Some, Result, option_map, IfOk, IfErr, OnOk, OnErr}
use Rattle.sipl_choice.specs.Abilities.{Client}
use Rattle.sipl_outages.specs.Board.{BoardState}
use Rattle.sipl_outages.specs.Holds.{BoardEvent, no_holds, refusal_of, after as after_event}
use Rattle.sipl_outages.specs.declared.held.Held.{Held}
use Rattle.sipl_plans.specs.Plan.{plan}
use Rattle.sipl_records.specs.Sets.{set_of}
use Rattle.sipl_zonestore.specs.Edited.{early_refusal, store_refusal}
use Rattle.sipl_zonestore.specs.Edits.{after as after_edit}
use Rattle.sipl_zonestore.specs.Looks.{looked}
use Rattle.sipl_zonestore.specs.Numbers.{next_after}
use Rattle.sipl_zonestore.specs.Store.{Store, no_zones}
use Rattle.sipl_book.specs.BookFault.{code_of}
use Rattle.sipl_book.specs.Machine.{zone_edit}
use Rattle.sipl_book.specs.declared.edit.Edit.{Edit}
use Rattle.sipl_book.specs.declared.fault.BookFault.{BookFault}
use Rattle.sipl_book.specs.declared.fault.BookFault.TheVariants.{Store as StoreFault, Board as BoardFault, Memory}
use Rattle.sipl_lines.specs.Desk.{DeskRules, EventRules, only_events}

-- the zones and the holds, the client's abilities, and the policy on held endpoints
pub record PlainState : Type 0 where
  pub store : Store
  pub board : BoardState
  pub client : Client
  pub held : Held

-- a machine without zones and holds, with the greatest limits, at time 0
abbrev pub new_plain : Client → Held → PlainState
new_plain client held = record {
  store = record { zones = no_zones; max_records = 1048576; numbers = []; next = 1; looks = 0 };
  board = record { holds = no_holds; max_holds = 4096 };
  client = client;
  held = held;
}

-- An edit of a store ends so: it is made where nothing refuses it, and else the store is as it was. The fault
-- is that of the zones; an allocation fails only where none is found before.
pub record EditsStore {A : Type 0} (edit : Edit) (old new : Store) (outcome : Result A BookFault) : Type 0 where
  pub accepted : OnOk outcome (store_refusal (zone_edit edit) old ≡ None)
  pub after : OnOk outcome (new.zones ≡ after_edit (zone_edit edit) old.zones)
  pub next : OnOk outcome (new.next ≡ next_after old.zones.records new.zones.records old.next)
  pub refused : IfErr outcome
      (λ fault. fault ≢ Memory → option_map StoreFault (store_refusal (zone_edit edit) old) ≡ Some fault)
  pub memory : IfErr outcome (λ fault. fault ≡ Memory → early_refusal (zone_edit edit) old ≡ None)
  pub unchanged : OnErr outcome (new ≡ old)
  pub limit : new.max_records ≡ old.max_records

-- An edit is made at the store; all else stays.
pub record MakesEdit {A : Type 0} (edit : Edit) (old new : PlainState) (outcome : Result A BookFault)
    : Type 0 where
  pub store : EditsStore edit old.store new.store outcome
  pub others : new ≡ record old { store = new.store }

-- A hold, a release or a move of the clock ends so: it is made where nothing refuses it, and else the holds
-- are as they were. An allocation fails only where no fault applies.
pub record MovesBoard {A : Type 0} (event : BoardEvent) (old new : BoardState) (outcome : Result A BookFault)
    : Type 0 where
  pub accepted : OnOk outcome (refusal_of old.max_holds event old.holds ≡ None)
  pub after : OnOk outcome (new.holds ≡ after_event event old.holds)
  pub refused : IfErr outcome
      (λ fault. fault ≢ Memory → option_map BoardFault (refusal_of old.max_holds event old.holds) ≡ Some fault)
  pub memory : IfErr outcome (λ fault. fault ≡ Memory → refusal_of old.max_holds event old.holds ≡ None)
  pub unchanged : OnErr outcome (new.holds ≡ old.holds)
  pub limit : new.max_holds ≡ old.max_holds

-- A hold, a release or a move of the clock is made at the board; all else stays.
pub record MakesMove {A : Type 0} (event : BoardEvent) (old new : PlainState) (outcome : Result A BookFault)
    : Type 0 where
  pub board : MovesBoard event old.board new.board outcome
  pub others : new ≡ record old { board = new.board }

-- what the calls do
abbrev pub plain_events : EventRules PlainState BookFault
plain_events =
    record {
      Finds = λ question words old outcome new. (new ≡ record old { store = looked old.store })
          × IfOk outcome (λ handed. handed.answer
          ≡ plan (set_of old.store.zones.records) old.board.holds question old.client words old.held)
          × IfErr outcome (λ fault. fault ≡ Memory);
      Changes = λ edit old outcome new. MakesEdit edit old new outcome;
      Moves = λ event old outcome new. MakesMove event old new outcome;
      Pauses = λ old new. new ≡ old;
      IsTime = λ plain now. now ≡ plain.board.holds.now;
      fault_text = code_of;
    }

-- what it does for a session: no page of an archive asks for record sets, a repair or a page
abbrev pub plain_rules : DeskRules PlainState BookFault
plain_rules = only_events plain_events
