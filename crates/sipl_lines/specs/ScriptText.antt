-- The replies of a script: the text of what a step did.
use Rattle.std.specs.Prelude.{◌≡◌, ◌⊎◌, ℕ, Bool, true, false, List, [], ◌∷◌, ◌++◌, length, Option, None, Some, codes}
use Rattle.std.specs.List.{slice_get}
use Rattle.sipl_names.specs.Labels.{Octets}
use Rattle.sipl_names.specs.NamePrint.{text_of}
use Rattle.sipl_records.specs.Addresses.{text_of_address}
use Rattle.sipl_records.specs.Kinds.{text_of_kind}
use Rattle.sipl_choice.specs.Transports.{transport_text}
use Rattle.sipl_choice.specs.declared.transport.Transport.{Transport}
use Rattle.sipl_uri.specs.declared.question.Question.{Question}
use Rattle.sipl_uri.specs.declared.question.Target.{Target}
use Rattle.sipl_uri.specs.declared.question.Target.TheVariants.{Numeric, Domain}
use Rattle.sipl_evidence.specs.Items.{Item}
use Rattle.sipl_book.specs.BookFault.{code_of as book_code}
use Rattle.sipl_book.specs.declared.edit.Edit.TheVariants.{Load, Unload, Add, Remove}
use Rattle.sipl_book.specs.declared.fault.BookFault.{BookFault}
use Rattle.sipl_book.specs.declared.fault.BookFault.TheVariants.{Stale}
use Rattle.sipl_interleave.specs.WorldFault.{code_of}
use Rattle.sipl_interleave.specs.declared.reply.Reply.{Reply}
use Rattle.sipl_interleave.specs.declared.reply.Reply.TheVariants.{Changed, Moved, Paged, Answered, Started, Read, Leased, Settled, Abandoned, Forgotten, Uncommitted, Refused}
use Rattle.sipl_interleave.specs.declared.step.Step.{Step}
use Rattle.sipl_interleave.specs.declared.step.Step.TheVariants as step
use Rattle.sipl_lines.specs.Commands.{page_text}
use Rattle.sipl_lines.specs.ReplyText.{HasTargets, answer_text, counts_line, number_field, refusal_line, word_field}
use Rattle.sipl_lines.specs.declared.script_reply.Shown.{Shown}
use Rattle.sipl_lines.specs.declared.script_reply.Shown.TheVariants as shown
use Rattle.sipl_lines.specs.Requests.{ok_words}
use Rattle.sipl_lines.specs.declared.command.CommandWord.TheVariants as command

-- what the reply to a step shows beside its result: the command, the counts of a zone's text, and the
-- time to which the clock is set
abbrev pub shown_of : Step → Shown
shown_of (step.Change (Load zone)) =
    shown.Zone (length zone.records) zone.outside zone.repeated
shown_of (step.Change (Unload apex)) = shown.Drop
shown_of (step.Change (Add r)) = shown.Add
shown_of (step.Change (Remove r)) = shown.Del
shown_of (step.Hold endpoint ms) = shown.Hold
shown_of (step.Release endpoint) = shown.Release
shown_of (step.Advance ms) = shown.Clock ms
shown_of _ = shown.Other

-- the reply to an accepted edit, which changed this number of record sets
abbrev pub changed_text : Shown → ℕ → Octets
changed_text (shown.Zone records outside repeated) changed =
    counts_line (ok_words command.Zone) (records ∷ outside ∷ repeated ∷ changed ∷ [])
changed_text shown.Drop changed = counts_line (ok_words command.Drop) (changed ∷ [])
changed_text shown.Add changed = counts_line (ok_words command.Add) (changed ∷ [])
changed_text shown.Del changed = counts_line (ok_words command.Del) (changed ∷ [])
changed_text _ changed = counts_line (codes "ok") (changed ∷ [])

-- the reply to an accepted hold, release or move of the clock
abbrev pub moved_text : Shown → Octets
moved_text shown.Hold = counts_line (ok_words command.Hold) []
moved_text shown.Release = counts_line (ok_words command.Release) []
moved_text (shown.Clock ms) = counts_line (ok_words command.Clock) (ms ∷ [])
moved_text _ = counts_line (codes "ok") []

-- a record set that a worker read: its owner, its kind, and how many records it has
abbrev pub read_text : Item → Octets
read_text item =
    codes "ok read" ++ word_field (text_of item.key.name) ++ word_field (text_of_kind item.key.kind)
    ++ number_field (length item.content) ++ 10 ∷ []

-- the scheme of a URI
abbrev pub scheme_text : Bool → Octets
scheme_text false = codes "sip"
scheme_text true = codes "sips"

-- the target of a URI
abbrev pub target_text : Target → Octets
target_text (Numeric address) = text_of_address address
target_text (Domain labels) = text_of labels

-- the port of a URI, or `-`
abbrev pub port_field : Option ℕ → Octets
port_field (Some port) = number_field port
port_field None = word_field (codes "-")

-- the transport of a URI, or `-`
abbrev pub transport_field : Option Transport → Octets
transport_field (Some transport) = word_field (transport_text transport)
transport_field None = word_field (codes "-")

-- the question of the entry that a worker leased
abbrev pub lease_text : Question → Octets
lease_text question =
    codes "ok lease" ++ word_field (scheme_text question.secure)
    ++ word_field (target_text question.target) ++ port_field question.port
    ++ transport_field question.transport ++ 10 ∷ []

-- a finding that is not committed since a set has changed: the first such set
abbrev pub stale_text : Option Item → Octets
stale_text (Some item) =
    codes "err B2" ++ word_field (text_of item.key.name)
    ++ word_field (text_of_kind item.key.kind) ++ 10 ∷ []
stale_text None = refusal_line (codes "B2")

-- a finding that is not committed or settled
abbrev pub uncommitted_text : BookFault → List Item → Octets
uncommitted_text (Stale place) items = stale_text (slice_get items place)
uncommitted_text fault items = refusal_line (book_code fault)

-- the reply that shows what a step did
abbrev pub text_of_reply : Shown → Reply → Octets
text_of_reply shown (Changed done) = changed_text shown done.changed
text_of_reply shown (Moved number) = moved_text shown
text_of_reply shown (Paged extent) = page_text extent
text_of_reply shown (Answered handed) = answer_text handed.answer
text_of_reply shown Started = counts_line (codes "ok start") []
text_of_reply shown (Read item) = read_text item
text_of_reply shown (Leased question) = lease_text question
text_of_reply shown Settled = counts_line (codes "ok settle") []
text_of_reply shown Abandoned = counts_line (codes "ok abandon") []
text_of_reply shown Forgotten = counts_line (codes "ok forget") []
text_of_reply shown (Uncommitted refused) =
    uncommitted_text refused.fault refused.finding.items
text_of_reply shown (Refused fault) = refusal_line (code_of fault)

-- whether a step returned targets
abbrev pub HandsTargets : Reply → Type 0
HandsTargets (Answered handed) = HasTargets handed.answer
HandsTargets _ = ⊥

-- this is the reply; where there is no space for that of targets, it is `err Memory`
abbrev pub Shows : Shown → Reply → Octets → Type 0
Shows shown reply text =
    (text ≡ text_of_reply shown reply)
    ⊎ (HandsTargets reply × (text ≡ refusal_line (codes "Memory")))
