-- What a session is asked for by the first line of an event's lines.
use Rattle.std.specs.Prelude.{[], length, Ok}
use Rattle.sipl_names.specs.Labels.{Octets}
use Rattle.sipl_names.specs.NamePrint.{text_of}
use Rattle.sipl_masterfile.specs.RecordPrint.{record_text}
use Rattle.sipl_uri.specs.QuestionText.{question_text}
use Rattle.sipl_book.specs.declared.edit.Edit.{Edit}
use Rattle.sipl_book.specs.declared.edit.Edit.TheVariants.{Load, Unload, Add, Remove}
use Rattle.sipl_book.specs.declared.event.Event.{Event}
use Rattle.sipl_book.specs.declared.event.Event.TheVariants.{Change, Hold, Release, Advance, Answer as Answered}
use Rattle.sipl_lines.specs.ReplyText.{answer_text}
use Rattle.sipl_lines.specs.Requests.{Request, zone, drop, add, del, find, hold, release, clock}

-- the request of an edit
abbrev pub edit_request : Edit → Request
edit_request (Load loaded) = zone (text_of loaded.apex) (length loaded.records)
edit_request (Unload apex) = drop (text_of apex)
edit_request (Add r) = add (record_text r)
edit_request (Remove r) = del (record_text r)

-- the request of an event
abbrev pub event_request : Event → Request
event_request (Change edit) = edit_request edit
event_request (Hold endpoint ms) = hold (Ok endpoint) ms
event_request (Release endpoint) = release (Ok endpoint)
event_request (Advance to) = clock to
event_request (Answered question words answer) = find (question_text question) (Ok words)

-- the reply that a page has after an event's command: only an answer has one
abbrev pub event_reply : Event → Octets
event_reply (Answered question words answer) = answer_text answer
event_reply _ = []
