-- What the desk of a daemon's session does: the calls are those of the service, with the session's pass.
use Rattle.std.specs.Prelude.{◌≡◌, ◌⊎◌, ℕ, [], Bool, true, false, Option, Result, Ok, Err, IfErr, IfOk, codes}
use Rattle.std.specs.Result.{result_map_both}
use Rattle.sipl_names.specs.Labels.{Octets}
use Rattle.sipl_outages.specs.Holds.{BoardEvent}
use Rattle.sipl_outages.specs.Holds.BoardEvent.{Hold, Release, Advance}
use Rattle.sipl_book.specs.Calls.{board_event}
use Rattle.sipl_book.specs.Pages.{IsPage, PageState, extent_of}
use Rattle.sipl_book.specs.declared.edit.Edit.{Edit}
use Rattle.sipl_book.specs.declared.event.Event.TheVariants.{Change}
use Rattle.sipl_book.specs.declared.outcome.Done.{Done}
use Rattle.sipl_book.specs.declared.outcome.Extent.{Extent}
use Rattle.sipl_service.specs.Passes.{GetsReceipt, PassState}
use Rattle.sipl_service.specs.Telling.{AreToldDependencies, ToldState}
use Rattle.sipl_service.specs.declared.fault.ServiceFault.{ServiceFault}
use Rattle.sipl_state.specs.Turning.{IsUnturned}
use Rattle.sipl_lines.specs.Desk.{DeskRules}
use Rattle.sipl_lines.specs.ServiceDesk.{CallerState, IsTold, KeepsOthers, handed_of, service_text}
use Rattle.sipl_daemon.specs.declared.fault.DeskFault.{DeskFault}
use Rattle.sipl_daemon.specs.declared.fault.DeskFault.TheVariants.{AsksOnly, HostTime, NotKept, Service}

-- what is seen of a session: its caller, whether it may only ask, and how many octets the lines of a zone
-- may have, where there is a limit
pub record SessionState : Type 0 where
  pub caller : CallerState
  pub asks_only : Bool
  pub zone_octets : Option ℕ

-- the result of a call of the service, as the desk returns it
abbrev pub of_service : {A : Type 0} → Result A ServiceFault → Result A DeskFault
of_service result = result_map_both (λ value. value) Service result

-- a refusal is the service's
abbrev pub IsOfService : DeskFault → Type 0
IsOfService fault = (cause : ServiceFault) × (fault ≡ Service cause)

-- all but the pass is as it was
pub record KeepsSession (old new : SessionState) : Type 0 where
  pub others : KeepsOthers old.caller new.caller
  pub asks_only : new.asks_only ≡ old.asks_only
  pub zone_octets : new.zone_octets ≡ old.zone_octets

-- a session that may only ask is refused, and nothing changes
abbrev pub IsRefused : {A : Type 0} → SessionState → SessionState → Result A DeskFault → Type 0
IsRefused old new outcome = (old.asks_only ≡ true) × (outcome ≡ Err AsksOnly) × (new ≡ old)

-- a change that can't be written to the files of the state is refused, and nothing changes
abbrev pub IsNotKept : {A : Type 0} → SessionState → SessionState → Result A DeskFault → Type 0
IsNotKept old new outcome = (outcome ≡ Err NotKept) × (new ≡ old)

-- The service makes the edit, and the pass gets the receipt of it; or it refuses.
pub record MakesEdit (edit : Edit) (old new : SessionState) (outcome : Result Done DeskFault) : Type 0 where
  pub done : Result Done ServiceFault
  pub receipt : GetsReceipt (λ done. done.number) (λ done. Change edit) old.caller.pass new.caller.pass done
  pub others : KeepsSession old new
  pub outcome_is : outcome ≡ of_service done

-- The service makes the event, and the pass gets the receipt of it; or it refuses.
pub record MakesEvent (event : BoardEvent) (old new : SessionState)
    (outcome : Result ℕ DeskFault) : Type 0 where
  pub number : Result ℕ ServiceFault
  pub receipt : GetsReceipt (λ number. number) (λ number. board_event event) old.caller.pass new.caller.pass number
  pub others : KeepsSession old new
  pub outcome_is : outcome ≡ of_service number

-- the service makes the event, or it can't be kept
abbrev pub MakesOrKeeps : BoardEvent → SessionState → SessionState → Result ℕ DeskFault → Type 0
MakesOrKeeps event old new outcome = MakesEvent event old new outcome ⊎ IsNotKept old new outcome

-- The holds of a session that may only ask are those of its calls, and it moves nothing else. A move of the
-- clock, where the time is the host's, is refused and changes nothing.
abbrev pub MovesBoard : BoardEvent → SessionState → Result ℕ DeskFault → SessionState → Type 0
MovesBoard (Advance to) old outcome new =
    IsRefused old new outcome ⊎ ((old.asks_only ≡ false) ×
    (MakesOrKeeps (Advance to) old new outcome ⊎ ((outcome ≡ Err HostTime) × (new ≡ old))))
MovesBoard (Hold endpoint ms) old outcome new = MakesOrKeeps (Hold endpoint ms) old new outcome
MovesBoard (Release endpoint) old outcome new =
    IsRefused old new outcome ⊎ ((old.asks_only ≡ false) × MakesOrKeeps (Release endpoint) old new outcome)

-- which events a page has that was turned
abbrev pub IsExtent : Extent → Type 0
IsExtent extent = (page : PageState) × IsPage page × (extent ≡ extent_of page)

-- a page that is not turned is refused as the service refuses it
abbrev pub IsPageRefused : DeskFault → Type 0
IsPageRefused fault = (cause : ServiceFault) × IsUnturned cause × (fault ≡ Service cause)

-- the pass has no receipts left, or all that it had; its front is as it was
abbrev pub IsHandedOver : PassState → PassState → Type 0
IsHandedOver old new = (new ≡ old) ⊎ (new ≡ record { receipts = []; front = old.front })

-- the pass may be handed over, and all else is as it was
abbrev pub HandsOver : SessionState → SessionState → Type 0
HandsOver old new = IsHandedOver old.caller.pass new.caller.pass × KeepsSession old new

-- what a refusal says of a fault
abbrev pub desk_text : DeskFault → Octets
desk_text HostTime = codes "D1"
desk_text NotKept = codes "D2"
desk_text AsksOnly = codes "D3"
desk_text (Service fault) = service_text fault

-- What the calls of the desk do. The pages are the daemon's and not the session's.
abbrev pub session_rules : DeskRules SessionState DeskFault
session_rules =
    record {
      Finds = λ question words old outcome new. (told : Result ToldState ServiceFault)
          × IsTold question words old.caller new.caller told × (new.asks_only ≡ old.asks_only)
          × (new.zone_octets ≡ old.zone_octets)
          × (outcome ≡ result_map_both handed_of Service told);
      Changes = λ edit old outcome new.
          IsRefused old new outcome ⊎ ((old.asks_only ≡ false) ×
          (MakesEdit edit old new outcome ⊎ IsNotKept old new outcome));
      Moves = λ event old outcome new. MovesBoard event old outcome new;
      Depends = λ question old outcome new.
          IfOk outcome (AreToldDependencies question old.caller.client) × IfErr outcome IsOfService × (new ≡ old);
      Repairs = λ old outcome new.
          IsRefused old new outcome ⊎ ((old.asks_only ≡ false) × IfErr outcome IsOfService × (new ≡ old));
      Pages = λ old outcome new.
          IsRefused old new outcome ⊎ ((old.asks_only ≡ false) × IfOk outcome IsExtent
          × IfErr outcome IsPageRefused × (new ≡ old));
      Pauses = λ old new. HandsOver old new;
      IsTime = λ session now. Unit {0};
      zone_octets = λ session. session.zone_octets;
      fault_text = desk_text;
    }
