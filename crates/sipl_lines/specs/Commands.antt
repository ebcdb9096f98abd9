-- What each command asks of the desk, with its reply, and what it does in the session.
use Rattle.std.specs.Prelude.{◌≡◌, ◌⊎◌, ℕ, Bool, true, false, List, [], ◌∷◌, ◌++◌, length, Result, Ok, Err, codes}
use Rattle.sipl_names.specs.Labels.{Octets, Labels}
use Rattle.sipl_names.specs.NameText.{name_of}
use Rattle.sipl_names.specs.InvalidName.{code_of as name_code}
use Rattle.sipl_names.specs.declared.fault.InvalidName.{InvalidName}
use Rattle.sipl_records.specs.AddressFault.{code_of as address_code}
use Rattle.sipl_records.specs.declared.fault.AddressFault.{AddressFault}
use Rattle.sipl_records.specs.declared.record.Record.{Record}
use Rattle.sipl_masterfile.specs.RecordText.{record_of}
use Rattle.sipl_masterfile.specs.Zones.{Zone}
use Rattle.sipl_masterfile.specs.ZoneFault.{code_of as zone_code}
use Rattle.sipl_masterfile.specs.declared.fault.ZoneFault.{ZoneFault}
use Rattle.sipl_choice.specs.declared.endpoint.Endpoint.{Endpoint}
use Rattle.sipl_srv.specs.DrawsFault.{code_of as draws_code}
use Rattle.sipl_srv.specs.declared.fault.DrawsFault.{DrawsFault}
use Rattle.sipl_uri.specs.declared.fault.UriFault.{UriFault}
use Rattle.sipl_uri.specs.declared.question.Question.{Question}
use Rattle.sipl_uri.specs.UriFault.{code_of as uri_code}
use Rattle.sipl_uri.specs.Uris.{has_scheme_and_octets, question_of}
use Rattle.sipl_outages.specs.Holds.{BoardEvent}
use Rattle.sipl_outages.specs.Holds.BoardEvent.{Hold, Release}
use Rattle.sipl_tx.specs.declared.parts.Kind.{Kind}
use Rattle.sipl_failover.specs.FailoverRun.{Event}
use Rattle.sipl_failover.specs.FailoverRun.Event.{Received, TransportFailed}
use Rattle.sipl_book.specs.declared.edit.Edit.{Edit}
use Rattle.sipl_book.specs.declared.edit.Edit.TheVariants.{Load, Unload, Add, Remove}
use Rattle.sipl_book.specs.declared.outcome.Done.{Done}
use Rattle.sipl_book.specs.declared.outcome.Extent.{Extent}
use Rattle.sipl_book.specs.declared.outcome.Handed.{Handed}
use Rattle.sipl_lines.specs.declared.desk_commands.HoldChange.{HoldChange}
use Rattle.sipl_lines.specs.declared.desk_commands.HoldChange.TheVariants as change
use Rattle.sipl_lines.specs.declared.desk_commands.RecordEdit.{RecordEdit}
use Rattle.sipl_lines.specs.declared.desk_commands.RecordEdit.TheVariants.{Add as AddRecord, Remove as RemoveRecord}
use Rattle.sipl_lines.specs.Desk.{DeskRules}
use Rattle.sipl_lines.specs.ReplyText.{counts_line, refusal_line, HasTargets, answer_text, evidence_text}
use Rattle.sipl_lines.specs.Requests.{ok_words, Request, nothing, unknown, too_long, zone, drop, add, del, find, deps, repair, page, hold, release, clock, call, got, broke, quit}
use Rattle.sipl_lines.specs.declared.command.CommandWord.TheVariants as command

-- this is the reply, and the desk is as it was
abbrev pub Keeps : {D : Type 0} → Octets → D → Octets → D → Type 0
Keeps reply before text after = (text ≡ reply) × (after ≡ before)

-- the command is refused with a code
abbrev pub Refuses : {D : Type 0} → Octets → D → Octets → D → Type 0
Refuses code before text after = Keeps (refusal_line code) before text after

-- an allocation failed: the reply is `err Memory`, and the desk is as it was
abbrev pub Fails : {D : Type 0} → D → Octets → D → Type 0
Fails before text after = Refuses (codes "Memory") before text after

-- the reply to what a desk did: that of its result, or the text of its fault
abbrev pub result_text : {D F A : Type 0} → DeskRules D F → (A → Octets) → Result A F → Octets
result_text rules reply_of (Ok value) = reply_of value
result_text rules reply_of (Err fault) = refusal_line (rules.fault_text fault)

-- the desk does its part, and the reply is that of how it ended
abbrev pub Does : {D F A : Type 0} → DeskRules D F → (D → Result A F → D → Type 0) → (A → Octets) → D
    → Octets → D → Type 0
Does {D} {F} {A} rules Acts reply_of before text after =
    (outcome : Result A F) × Acts before outcome after × (text ≡ result_text rules reply_of outcome)

-- the desk does its part; where there is no space for a reply that may be long, it is `err Memory`
abbrev pub DoesInSpace : {D F A : Type 0} → DeskRules D F → (D → Result A F → D → Type 0)
    → (A → Type 0) → (A → Octets) → D → Octets → D → Type 0
DoesInSpace {D} {F} {A} rules Acts IsLong reply_of before text after =
    Does rules Acts reply_of before text after
    ⊎ ((value : A) × Acts before (Ok value) after × IsLong value
    × (text ≡ refusal_line (codes "Memory")))

-- the reply to an accepted edit: words, counts, and how many sets of records changed
abbrev pub changed_text : Octets → List ℕ → Done → Octets
changed_text words counts done = counts_line words (counts ++ done.changed ∷ [])

-- the reply to a question: its targets, or why there are none
abbrev pub handed_text : Handed → Octets
handed_text handed = answer_text handed.answer

-- the reply to an accepted page: the number of its first event, and how many events it has
abbrev pub page_text : Extent → Octets
page_text extent = counts_line (ok_words command.Page) (extent.first ∷ extent.count ∷ [])

-- ---- the calls of a desk

-- what is asked of the desk: nothing, for this reply; an edit, with the words and counts of its reply; a
-- hold, a release or a move of the clock, with its reply; the targets of a question for random words;
-- the record sets that it depends on; a repair; or a page
pub data Asked : Type 0 where
  refused : Octets → Asked
  edits : Octets → List ℕ → Edit → Asked
  moves : Octets → BoardEvent → Asked
  answers : Question → List ℕ → Asked
  lists : Question → Asked
  repairs : Asked
  pages : Asked

-- what the desk does, and the reply. Where there is no space for the text of targets or of record sets
-- they are returned all the same; where there is no target the reason is always the reply
abbrev pub Asks : {D F : Type 0} → DeskRules D F → Asked → D → Octets → D → Type 0
Asks rules (refused reply) before text after = Keeps reply before text after
Asks rules (edits words counts edit) before text after =
    Does rules (rules.Changes edit) (changed_text words counts) before text after
Asks rules (moves reply event) before text after =
    Does rules (rules.Moves event) (λ number. reply) before text after
Asks rules (answers question words) before text after =
    DoesInSpace rules (rules.Finds question words) (λ handed. HasTargets handed.answer) handed_text
    before text after
Asks rules (lists question) before text after =
    DoesInSpace rules (rules.Depends question) (λ items. Unit {0}) evidence_text before text after
Asks rules repairs before text after =
    Does rules rules.Repairs (λ done. counts_line (ok_words command.Repair) []) before text after
Asks rules pages before text after = Does rules rules.Pages page_text before text after

-- an edit, and the words and counts of its reply
abbrev pub Edits : {D F : Type 0} → DeskRules D F → Octets → List ℕ → Edit → D → Octets → D → Type 0
Edits rules words counts edit before text after = Asks rules (edits words counts edit) before text after

-- a hold, a release or a move of the clock, and its reply
abbrev pub MovesTo : {D F : Type 0} → DeskRules D F → Octets → BoardEvent → D → Octets → D → Type 0
MovesTo rules reply event before text after = Asks rules (moves reply event) before text after

-- what edits have changed is looked up again
abbrev pub Repairs : {D F : Type 0} → DeskRules D F → D → Octets → D → Type 0
Repairs rules before text after = Asks rules repairs before text after

-- the journal is returned as a page, and an empty one begins
abbrev pub TurnsPage : {D F : Type 0} → DeskRules D F → D → Octets → D → Type 0
TurnsPage rules before text after = Asks rules pages before text after

-- ---- what was read, and what it asks for

-- nothing is asked: the command is refused with a code
abbrev pub refused_with : Octets → Asked
refused_with code = refused (refusal_line code)

-- a zone is loaded
abbrev pub zone_asked : Zone → Asked
zone_asked loaded =
    edits (ok_words command.Zone) (length loaded.records ∷ loaded.outside ∷ loaded.repeated ∷ [])
    (Load loaded)

-- the zone of an apex is unloaded
abbrev pub drop_asked : Result Labels InvalidName → Asked
drop_asked (Err fault) = refused_with (name_code fault)
drop_asked (Ok apex) = edits (ok_words command.Drop) [] (Unload apex)

abbrev pub Unloads : {D F : Type 0} → DeskRules D F → Result Labels InvalidName → D → Octets → D
    → Type 0
Unloads rules read before text after = Asks rules (drop_asked read) before text after

-- the words of the reply to an accepted edit of a record, and the edit
abbrev pub record_words : RecordEdit → Octets
record_words AddRecord = ok_words command.Add
record_words RemoveRecord = ok_words command.Del

abbrev pub record_edit : RecordEdit → Record → Edit
record_edit AddRecord r = Add r
record_edit RemoveRecord r = Remove r

-- the record of a text is added or removed
abbrev pub record_asked : RecordEdit → Result Record ZoneFault → Asked
record_asked kind (Err fault) = refused_with (zone_code fault)
record_asked kind (Ok r) = edits (record_words kind) [] (record_edit kind r)

abbrev pub EditsRecord : {D F : Type 0} → DeskRules D F → RecordEdit → Result Record ZoneFault → D
    → Octets → D → Type 0
EditsRecord rules kind read before text after = Asks rules (record_asked kind read) before text after

-- the targets of a URI for the words that were given: its fault is reported before that of the words
abbrev pub find_asked : Result Question UriFault → Result (List ℕ) DrawsFault → Asked
find_asked (Err fault) draws = refused_with (uri_code fault)
find_asked (Ok question) (Err fault) = refused_with (draws_code fault)
find_asked (Ok question) (Ok words) = answers question words

abbrev pub AnswersUri : {D F : Type 0} → DeskRules D F → Result Question UriFault
    → Result (List ℕ) DrawsFault → D → Octets → D → Type 0
AnswersUri rules read draws before text after = Asks rules (find_asked read draws) before text after

-- the record sets that a URI's targets depend on
abbrev pub deps_asked : Result Question UriFault → Asked
deps_asked (Err fault) = refused_with (uri_code fault)
deps_asked (Ok question) = lists question

abbrev pub ListsUri : {D F : Type 0} → DeskRules D F → Result Question UriFault → D → Octets → D
    → Type 0
ListsUri rules read before text after = Asks rules (deps_asked read) before text after

-- the words of the reply to an accepted change of a hold, and the event
abbrev pub change_words : HoldChange → Octets
change_words (change.Hold ms) = ok_words command.Hold
change_words change.Release = ok_words command.Release

abbrev pub change_event : HoldChange → Endpoint → BoardEvent
change_event (change.Hold ms) endpoint = Hold endpoint ms
change_event change.Release endpoint = Release endpoint

-- an endpoint is held for some milliseconds, or its hold is ended
abbrev pub change_asked : HoldChange → Result Endpoint AddressFault → Asked
change_asked change (Err fault) = refused_with (address_code fault)
change_asked change (Ok endpoint) =
    moves (counts_line (change_words change) []) (change_event change endpoint)

abbrev pub ChangesHold : {D F : Type 0} → DeskRules D F → HoldChange → Result Endpoint AddressFault
    → D → Octets → D → Type 0
ChangesHold rules change endpoint before text after =
    Asks rules (change_asked change endpoint) before text after

-- ---- the acts of a session

-- what is done with the call: it hears of an event, and the reply has these words; the clock is set; or
-- a call to a URI's targets is opened
pub data CallAct : Type 0 where
  hear : Octets → Event → CallAct
  set_clock : ℕ → CallAct
  open_call : Kind → ℕ → Result Question UriFault → Result (List ℕ) DrawsFault → CallAct

-- what is done in a session: nothing but this reply; so many lines are taken for the zone of an apex;
-- the desk is asked; something is done with the call; or the session ends with this reply
pub data Act : Type 0 where
  says : Octets → Act
  takes_zone : Octets → ℕ → Act
  asks : Asked → Act
  in_call : CallAct → Act
  quits : Octets → Act

-- an act, and whether an allocation may fail before it, while the fields of its request are read
pub record Task : Type 0 where
  pub act : Act
  pub may_fail : Bool

-- no allocation is made for the fields
abbrev pub sure : Act → Task
sure act = record { act = act; may_fail = false }

-- an allocation may fail for the fields
abbrev pub allocates : Act → Task
allocates act = record { act = act; may_fail = true }

-- a fault in the scheme or the octets of a URI is found before anything is allocated
abbrev pub parses : Octets → Act → Task
parses uri act = record { act = act; may_fail = has_scheme_and_octets uri }

-- what a request asks for, once its fields are read. Names and records are relative to the root
abbrev pub task_of : Request → Task
task_of nothing = sure (says [])
task_of unknown = sure (says (refusal_line (codes "K1")))
task_of too_long = sure (says (refusal_line (codes "K2")))
task_of (zone apex lines) = sure (takes_zone apex lines)
task_of (drop apex) = allocates (asks (drop_asked (name_of apex [])))
task_of (add r) = allocates (asks (record_asked AddRecord (record_of r [])))
task_of (del r) = allocates (asks (record_asked RemoveRecord (record_of r [])))
task_of (find uri draws) = parses uri (asks (find_asked (question_of uri) draws))
task_of (deps uri) = parses uri (asks (deps_asked (question_of uri)))
task_of repair = sure (asks repairs)
task_of page = sure (asks pages)
task_of (hold endpoint ms) = sure (asks (change_asked (change.Hold ms) endpoint))
task_of (release endpoint) = sure (asks (change_asked change.Release endpoint))
task_of (clock ms) = sure (in_call (set_clock ms))
task_of (call kind base uri draws) = parses uri (in_call (open_call kind base (question_of uri) draws))
task_of (got attempt code retry_after) =
    sure (in_call (hear (ok_words command.Got) (Received attempt code retry_after)))
task_of broke = sure (in_call (hear (ok_words command.Broke) TransportFailed))
task_of quit = sure (quits (counts_line (ok_words command.Quit) []))
