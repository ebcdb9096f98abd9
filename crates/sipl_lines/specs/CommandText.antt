-- Edits, holds, times and answers as the lines of a session; records as entries of a master file.
use Rattle.std.specs.Prelude.{ℕ, List, [], ◌∷◌, ◌++◌, length, codes, decimal, flat_map}
use Rattle.sipl_names.specs.Labels.{Octets, Labels}
use Rattle.sipl_names.specs.NamePrint.{text_of}
use Rattle.sipl_records.specs.Addresses.{text_of_address}
use Rattle.sipl_records.specs.declared.record.Record.{Record}
use Rattle.sipl_masterfile.specs.RecordPrint.{record_text}
use Rattle.sipl_choice.specs.Transports.{transport_text}
use Rattle.sipl_choice.specs.declared.endpoint.Endpoint.{Endpoint}
use Rattle.sipl_uri.specs.QuestionText.{question_text}
use Rattle.sipl_book.specs.Words.{without_last_zeros}
use Rattle.sipl_book.specs.declared.edit.Edit.{Edit}
use Rattle.sipl_book.specs.declared.edit.Edit.TheVariants as edit
use Rattle.sipl_book.specs.declared.event.Event.{Event}
use Rattle.sipl_book.specs.declared.event.Event.TheVariants as event
use Rattle.sipl_lines.specs.Requests.{text_of_word, word_start}
use Rattle.sipl_lines.specs.declared.command.CommandWord.TheVariants as command
use Rattle.sipl_lines.specs.ReplyText.{answer_text, number_field, word_field}

-- the line of a record, which reads back to it (`printing_records_reads_back` of `sipl_masterfile`)
abbrev pub record_line : Record → Octets
record_line r = record_text r ++ 10 ∷ []

-- `zone APEX COUNT`
abbrev pub zone_line : Labels → ℕ → Octets
zone_line apex count = word_start command.Zone ++ text_of apex ++ number_field count ++ 10 ∷ []

-- the lines that load a zone
abbrev pub zone_lines : Labels → List Record → Octets
zone_lines apex records = zone_line apex (length records) ++ flat_map record_line records

-- the lines of an edit
abbrev pub edit_lines : Edit → Octets
edit_lines (edit.Load zone) = zone_lines zone.apex zone.records
edit_lines (edit.Unload apex) = word_start command.Drop ++ text_of apex ++ 10 ∷ []
edit_lines (edit.Add r) = word_start command.Add ++ record_line r
edit_lines (edit.Remove r) = word_start command.Del ++ record_line r

-- `TRANSPORT ADDRESS PORT`
abbrev pub endpoint_text : Endpoint → Octets
endpoint_text endpoint =
    transport_text endpoint.transport ++ word_field (text_of_address endpoint.address)
    ++ number_field endpoint.port

-- `hold TRANSPORT ADDRESS PORT MS`
abbrev pub hold_line : Endpoint → ℕ → Octets
hold_line endpoint ms = word_start command.Hold ++ endpoint_text endpoint ++ number_field ms ++ 10 ∷ []

-- `release TRANSPORT ADDRESS PORT`
abbrev pub release_line : Endpoint → Octets
release_line endpoint = word_start command.Release ++ endpoint_text endpoint ++ 10 ∷ []

-- `clock MS`
abbrev pub clock_line : ℕ → Octets
clock_line to = text_of_word command.Clock ++ number_field to ++ 10 ∷ []

-- words with commas between them, if there are any
abbrev pub listed_words : List ℕ → Octets
listed_words [] = []
listed_words (word ∷ others) =
    codes " words" ++ number_field word ++ flat_map (λ other. 44 ∷ decimal other) others

-- ` words W,W,..`, without the words of 0 at their end
abbrev pub words_field : List ℕ → Octets
words_field words = listed_words (without_last_zeros words)

-- the lines of an event: of an answer those of its question and its reply
abbrev pub event_lines : Event → Octets
event_lines (event.Change edit) = edit_lines edit
event_lines (event.Hold endpoint ms) = hold_line endpoint ms
event_lines (event.Release endpoint) = release_line endpoint
event_lines (event.Advance to) = clock_line to
event_lines (event.Answer question words answer) =
    word_start command.Find ++ question_text question ++ words_field words ++ 10 ∷ answer_text answer
