-- What the calls of a service do for a session: each accepted one is an event of the journal, for which
-- the caller's pass has a receipt, or a page, which the caller keeps.
use Rattle.std.specs.Prelude.{◌≡◌, ℕ, List, [], ◌∷◌, ◌++◌, None, Result, IfOk, OnErr, codes}
use Rattle.std.specs.Result.{result_map_both}
use Rattle.sipl_names.specs.Labels.{Octets}
use Rattle.sipl_names.specs.NamePrint.{text_of}
use Rattle.sipl_records.specs.Kinds.{text_of_kind}
use Rattle.sipl_choice.specs.Abilities.{Client}
use Rattle.sipl_outages.specs.declared.held.Held.{Held}
use Rattle.sipl_uri.specs.declared.question.Question.{Question}
use Rattle.sipl_book.specs.Calls.{board_event}
use Rattle.sipl_book.specs.declared.event.Event.TheVariants.{Change}
use Rattle.sipl_book.specs.Pages.{IsPage, PageState, extent_of}
use Rattle.sipl_book.specs.declared.outcome.Extent.{Extent}
use Rattle.sipl_book.specs.declared.outcome.Handed.{Handed}
use Rattle.sipl_service.specs.Faults.{service_code}
use Rattle.sipl_service.specs.Passes.{GetsReceipt, PassState}
use Rattle.sipl_service.specs.Telling.{AreToldDependencies, IsDecided, IsToldFor, ToldState, event_of}
use Rattle.sipl_service.specs.declared.fault.ServiceFault.{ServiceFault}
use Rattle.sipl_service.specs.declared.fault.ServiceFault.TheVariants.{Contended}
use Rattle.sipl_lines.specs.Desk.{DeskRules}
use Rattle.sipl_lines.specs.ReplyText.{word_field}

-- what is seen of a service's caller: the client's abilities, the policy on held endpoints, the
-- caller's pass, and the pages that it has turned
pub record CallerState : Type 0 where
  pub client : Client
  pub held : Held
  pub pass : PassState
  pub pages : List PageState

-- an answer as a desk returns it
abbrev pub handed_of : ToldState → Handed
handed_of told = record { number = told.number; answer = told.answer }

-- The caller receives an answer to the question, with the record sets and the holds that decide it, and
-- gets the receipt of its event. A refusal leaves the pass as it was. The pages stay.
pub record IsTold (question : Question) (words : List ℕ) (old new : CallerState)
    (told : Result ToldState ServiceFault) : Type 0 where
  pub receipt : GetsReceipt (λ told. told.number) event_of old.pass new.pass told
  pub asked : IfOk told (IsToldFor question old.client old.held words)
  pub decided : IfOk told IsDecided
  pub client : new.client ≡ old.client
  pub held : new.held ≡ old.held
  pub pages : new.pages ≡ old.pages

-- the client, the policy and the pages are as they were
pub record KeepsOthers (old new : CallerState) : Type 0 where
  pub client : new.client ≡ old.client
  pub held : new.held ≡ old.held
  pub pages : new.pages ≡ old.pages

-- A page that is turned is kept after the others, and its extent is returned. A refusal changes nothing.
pub record KeepsPage (old new : CallerState) (outcome : Result Extent ServiceFault) : Type 0 where
  pub kept : IfOk outcome (λ extent. (page : PageState) × IsPage page × (extent ≡ extent_of page)
      × (new ≡ record old { pages = old.pages ++ page ∷ [] }))
  pub refused : OnErr outcome (new ≡ old)

-- what a refusal says of a fault: its code, and for a set that changed in each try its key
abbrev pub service_text : ServiceFault → Octets
service_text (Contended key) =
    codes "L1" ++ word_field (text_of key.name) ++ word_field (text_of_kind key.kind)
service_text fault = service_code fault

-- What the calls of a service's desk do. What they do to the book, which other callers change at the
-- same time, the receipts show: they are those of its journal.
abbrev pub caller_rules : DeskRules CallerState ServiceFault
caller_rules =
    record {
      Finds = λ question words old outcome new. (told : Result ToldState ServiceFault)
          × IsTold question words old new told × (outcome ≡ result_map_both handed_of (λ fault. fault) told);
      Changes = λ edit old outcome new.
          GetsReceipt (λ done. done.number) (λ done. Change edit) old.pass new.pass outcome
          × KeepsOthers old new;
      Moves = λ event old outcome new.
          GetsReceipt (λ number. number) (λ number. board_event event) old.pass new.pass outcome
          × KeepsOthers old new;
      Depends = λ question old outcome new.
          IfOk outcome (AreToldDependencies question old.client) × (new ≡ old);
      Repairs = λ old outcome new. new ≡ old;
      Pages = λ old outcome new. KeepsPage old new outcome;
      Pauses = λ old new. new ≡ old;
      IsTime = λ caller now. Unit {0};
      zone_octets = λ caller. None;
      fault_text = service_text;
    }
