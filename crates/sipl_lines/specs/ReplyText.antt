-- How replies are written.
use Rattle.std.specs.Prelude.{ℕ, ◌+◌, ◌*◌, List, [], ◌∷◌, ◌++◌, length, codes, decimal}
use Rattle.std.specs.List.{flat_map}
use Rattle.sipl_records.specs.Addresses.{text_of_address}
use Rattle.sipl_choice.specs.Transports.{transport_text}
use Rattle.sipl_choice.specs.declared.endpoint.Endpoint.{Endpoint}
use Rattle.sipl_plans.specs.Reasons.{reason_text}
use Rattle.sipl_plans.specs.declared.answer.Answer.{Answer}
use Rattle.sipl_plans.specs.declared.answer.Answer.TheVariants.{Targets, None}
use Rattle.sipl_names.specs.Labels.{Octets}
use Rattle.sipl_names.specs.NamePrint.{text_of}
use Rattle.sipl_records.specs.Kinds.{text_of_kind}
use Rattle.sipl_evidence.specs.Items.{Item}
use Rattle.sipl_lines.specs.Requests.{ok_words}
use Rattle.sipl_lines.specs.declared.command.CommandWord.TheVariants as command

-- a word with a space before it
abbrev pub word_field : Octets → Octets
word_field word = 32 ∷ word

-- a number with a space before it
abbrev pub number_field : ℕ → Octets
number_field n = 32 ∷ decimal n

-- words, numbers after them, and the end of the line
abbrev pub counts_line : Octets → List ℕ → Octets
counts_line words numbers = words ++ flat_map number_field numbers ++ 10 ∷ []

-- the reply to a command that is refused
abbrev pub refusal_line : Octets → Octets
refusal_line code = codes "err " ++ code ++ 10 ∷ []

-- a fault in a zone's text, after words: the line on which its entry begins, and its code
abbrev pub text_fault_line : Octets → ℕ → Octets → Octets
text_fault_line words line code = words ++ number_field line ++ word_field code ++ 10 ∷ []

-- the line of a target: its number from 1, its transport, address and port
abbrev pub target_line : ℕ → Endpoint → Octets
target_line number endpoint =
    codes "target" ++ number_field number ++ word_field (transport_text endpoint.transport)
    ++ word_field (text_of_address endpoint.address) ++ number_field endpoint.port ++ 10 ∷ []

-- the lines of the targets, the first of which has this number
abbrev pub target_lines : ℕ → List Endpoint → Octets
target_lines number [] = []
target_lines number (endpoint ∷ others) =
    target_line number endpoint ++ target_lines (number + 1) others

-- the reply to a question
abbrev pub answer_text : Answer → Octets
answer_text (Targets targets) =
    target_lines 1 targets ++ counts_line (ok_words command.Find) (length targets ∷ [])
answer_text (None reason) = codes "none " ++ reason_text reason ++ 10 ∷ []

-- whether an answer has targets: an output may have to grow for their lines only
abbrev pub HasTargets : Answer → Type 0
HasTargets (Targets targets) = Unit {0}
HasTargets (None reason) = ⊥

-- the maximum length of a reply to a question: 94 octets for each target's line, and 29 for the
-- line that counts them
abbrev pub max_answer_len : Answer → ℕ
max_answer_len (Targets targets) = 94 * length targets + 29
max_answer_len (None reason) = length (answer_text (None reason))

-- the line of a record set: its owner, its kind, and how many records it has
abbrev pub evidence_line : Item → Octets
evidence_line item =
    codes "dep" ++ word_field (text_of item.key.name) ++ word_field (text_of_kind item.key.kind)
    ++ number_field (length item.content) ++ 10 ∷ []

-- the reply with the record sets of evidence, in their order
abbrev pub evidence_text : List Item → Octets
evidence_text items =
    flat_map evidence_line items ++ counts_line (ok_words command.Deps) (length items ∷ [])
