-- Events as the pages of an archive have them.
use Rattle.std.specs.Prelude.{◌≡◌, ℕ, ◌^◌, ◌<◌, ◌≤◌, List, length}
use Rattle.std.specs.List.{AllByRecursion}
use Rattle.sipl_names.specs.Labels.{IsName}
use Rattle.sipl_records.specs.Addresses.{IsAddress}
use Rattle.sipl_masterfile.specs.RecordPrint.{IsRecord}
use Rattle.sipl_masterfile.specs.Zones.{Zone}
use Rattle.sipl_choice.specs.declared.endpoint.Endpoint.{Endpoint}
use Rattle.sipl_uri.specs.QuestionText.{IsAskable}
use Rattle.sipl_uri.specs.declared.question.Question.{Question}
use Rattle.sipl_plans.specs.declared.answer.Answer.{Answer}
use Rattle.sipl_plans.specs.declared.answer.Answer.TheVariants.{Targets, None}
use Rattle.sipl_book.specs.Pages.{PageState}
use Rattle.sipl_book.specs.declared.edit.Edit.{Edit}
use Rattle.sipl_book.specs.declared.edit.Edit.TheVariants.{Load, Unload, Add, Remove}
use Rattle.sipl_book.specs.declared.event.Event.{Event}
use Rattle.sipl_book.specs.declared.event.Event.TheVariants.{Change, Hold, Release, Advance, Answer as Answered}

-- an address of 32 or 128 bits, and a port of 16
pub record IsEndpoint (endpoint : Endpoint) : Type 0 where
  pub address : IsAddress endpoint.address
  pub port : endpoint.port < 2 ^ 16

-- a zone has the name of its apex, and at most 1,048,576 records
pub record IsLoadable (zone : Zone) : Type 0 where
  pub apex : IsName zone.apex
  pub records : AllByRecursion IsRecord zone.records
  pub few : length zone.records ≤ 1048576

-- the names and records of an edit are ones
abbrev pub IsEdit : Edit → Type 0
IsEdit (Load zone) = IsLoadable zone
IsEdit (Unload apex) = IsName apex
IsEdit (Add r) = IsRecord r
IsEdit (Remove r) = IsRecord r

-- at most 2,048 endpoints
pub record AreTargets (targets : List Endpoint) : Type 0 where
  pub each : AllByRecursion IsEndpoint targets
  pub few : length targets ≤ 2048

-- the targets of an answer are endpoints
abbrev pub IsAnswer : Answer → Type 0
IsAnswer (Targets targets) = AreTargets targets
IsAnswer (None reason) = Unit {0}

-- a question that a URI can ask, 32 words of 32 bits, and an answer
pub record IsAnswered (question : Question) (words : List ℕ) (answer : Answer) : Type 0 where
  pub askable : IsAskable question
  pub draws : length words ≡ 32
  pub words_fit : AllByRecursion (λ word. word < 2 ^ 32) words
  pub answers : IsAnswer answer

-- the names, records, endpoints and numbers of an event are within their limits
abbrev pub IsEvent : Event → Type 0
IsEvent (Change edit) = IsEdit edit
IsEvent (Hold endpoint ms) = IsEndpoint endpoint × (ms < 2 ^ 64)
IsEvent (Release endpoint) = IsEndpoint endpoint
IsEvent (Advance to) = to < 2 ^ 64
IsEvent (Answered question words answer) = IsAnswered question words answer

-- a page's number and events are within their limits
pub record IsPage (page : PageState) : Type 0 where
  pub first : page.first < 2 ^ 64
  pub few : length page.events < 2 ^ 64
  pub events : AllByRecursion IsEvent page.events

-- an edit without what no page has of it: how many records of a zone's text were outside the apex, or
-- repeated
abbrev pub kept_edit : Edit → Edit
kept_edit (Load zone) = Load (record zone { outside = 0; repeated = 0 })
kept_edit (Unload apex) = Unload apex
kept_edit (Add r) = Add r
kept_edit (Remove r) = Remove r

-- an event as a page has it
abbrev pub kept_event : Event → Event
kept_event (Change edit) = Change (kept_edit edit)
kept_event (Hold endpoint ms) = Hold endpoint ms
kept_event (Release endpoint) = Release endpoint
kept_event (Advance to) = Advance to
kept_event (Answered question words answer) = Answered question words answer
