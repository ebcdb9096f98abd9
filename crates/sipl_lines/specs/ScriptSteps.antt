-- The step of the world that a line of a script asks for.
use Rattle.std.specs.Prelude.{ℕ, List, [], Result, Ok, Err, IsTrue, codes}
use Rattle.sipl_names.specs.Labels.{Octets, Labels}
use Rattle.sipl_names.specs.NameText.{name_of}
use Rattle.sipl_names.specs.InvalidName.{code_of as name_code}
use Rattle.sipl_records.specs.AddressFault.{code_of as address_code}
use Rattle.sipl_records.specs.declared.fault.AddressFault.{AddressFault}
use Rattle.sipl_records.specs.declared.record.Record.{Record}
use Rattle.sipl_masterfile.specs.RecordText.{record_of}
use Rattle.sipl_masterfile.specs.ZoneFault.{code_of as zone_code}
use Rattle.sipl_choice.specs.declared.endpoint.Endpoint.{Endpoint}
use Rattle.sipl_srv.specs.DrawsFault.{code_of as draws_code}
use Rattle.sipl_srv.specs.declared.fault.DrawsFault.{DrawsFault}
use Rattle.sipl_uri.specs.Uris.{has_scheme_and_octets, question_of}
use Rattle.sipl_uri.specs.UriFault.{code_of as uri_code}
use Rattle.sipl_uri.specs.declared.question.Question.{Question}
use Rattle.sipl_book.specs.declared.edit.Edit.TheVariants.{Unload, Add, Remove}
use Rattle.sipl_interleave.specs.declared.step.Step.{Step}
use Rattle.sipl_interleave.specs.declared.step.Step.TheVariants.{Change, Hold, Release, Advance, Page, Hand, Start, Read, Commit, Lease, Settle, Abandon, Forget}
use Rattle.sipl_lines.specs.Requests.{Request, too_long, drop, add, del, hold, release, clock, page}
use Rattle.sipl_lines.specs.ScriptLines.{ScriptRequest, session, hand, start, read, commit, lease, settle, abandon, forget}

-- a value, or the code of the fault in its stead
abbrev pub ValueOrCode : Type 0 → Type 0
ValueOrCode A = Result A Octets

abbrev pub with_code : {A E : Type 0} → (E → Octets) → Result A E → ValueOrCode A
with_code code_of (Ok value) = Ok value
with_code code_of (Err fault) = Err (code_of fault)

-- the step for a value
abbrev pub step_for : {A : Type 0} → (A → Step) → ValueOrCode A → ValueOrCode Step
step_for step (Ok value) = Ok (step value)
step_for step (Err code) = Err code

-- the kept answer to a question is returned: a fault of its URI comes before that of the words
abbrev pub hand_step : ValueOrCode Question → ValueOrCode (List ℕ) → ValueOrCode Step
hand_step (Ok question) words = step_for (Hand question) words
hand_step (Err code) words = Err code

-- the name, the record, the endpoint, the question and the random words of a line; names are relative
-- to the root
abbrev pub apex_of : Octets → ValueOrCode Labels
apex_of text = with_code name_code (name_of text [])

abbrev pub record_in : Octets → ValueOrCode Record
record_in text = with_code zone_code (record_of text [])

abbrev pub endpoint_in : Result Endpoint AddressFault → ValueOrCode Endpoint
endpoint_in endpoint = with_code address_code endpoint

abbrev pub question_in : Octets → ValueOrCode Question
question_in uri = with_code uri_code (question_of uri)

abbrev pub words_in : Result (List ℕ) DrawsFault → ValueOrCode (List ℕ)
words_in draws = with_code draws_code draws

-- the step that a session's line asks for, or the code of its first faulty field; one that asks for none
-- is K1
abbrev pub session_step : Request → ValueOrCode Step
session_step (drop apex) = step_for (λ name. Change (Unload name)) (apex_of apex)
session_step (add text) = step_for (λ r. Change (Add r)) (record_in text)
session_step (del text) = step_for (λ r. Change (Remove r)) (record_in text)
session_step (hold endpoint ms) = step_for (λ it. Hold it ms) (endpoint_in endpoint)
session_step (release endpoint) = step_for Release (endpoint_in endpoint)
session_step (clock ms) = Ok (Advance ms)
session_step page = Ok Page
session_step too_long = Err (codes "K2")
session_step _ = Err (codes "K1")

-- the step that a line asks for, or the code of its first faulty field
abbrev pub step_of : ScriptRequest → ValueOrCode Step
step_of (session request) = session_step request
step_of (hand uri draws) = hand_step (question_in uri) (words_in draws)
step_of (start w uri) = step_for (Start w) (question_in uri)
step_of (read w) = Ok (Read w)
step_of (commit w draws) = step_for (Commit w) (words_in draws)
step_of (lease w) = Ok (Lease w)
step_of (settle w) = Ok (Settle w)
step_of (abandon w) = Ok (Abandon w)
step_of (forget uri) = step_for Forget (question_in uri)

-- whether an allocation may fail while the fields of a session's line are read
abbrev pub SessionMayFail : Request → Type 0
SessionMayFail (drop apex) = Unit {0}
SessionMayFail (add text) = Unit {0}
SessionMayFail (del text) = Unit {0}
SessionMayFail _ = ⊥

-- whether an allocation may fail while the fields of a line are read, which then changes nothing:
-- a fault in the scheme or the octets of a URI is found before anything is allocated
abbrev pub MayFail : ScriptRequest → Type 0
MayFail (session request) = SessionMayFail request
MayFail (hand uri draws) = IsTrue (has_scheme_and_octets uri)
MayFail (start w uri) = IsTrue (has_scheme_and_octets uri)
MayFail (forget uri) = IsTrue (has_scheme_and_octets uri)
MayFail _ = ⊥
