-- The lines of each event are one command, which asks for what the event is, and then its reply.
use Rattle.std.proofs.Common.{◌≡◌, ℕ, ◌^◌, ◌<◌, ◌≤◌, Bool, List, [], ◌∷◌, ◌++◌, length, Option, Some, None, refl, ap, ◌∙◌, arith, append_assoc, length-append, nat_eq, codes, decimal}
use Rattle.std.specs.Prelude.{◌||◌, if◌then◌else◌, unwrap_or}
use Rattle.std.specs.List.{flat_map}
use Rattle.std.proofs.lemmas.Fmt.{decimal_nonempty}
use lib.Pointwise.{pointwise}
use Rattle.sipl_names.specs.Labels.{Octets}
use Rattle.sipl_names.specs.NamePrint.{text_of}
use Rattle.sipl_names.proofs.Public.{length-text_of}
use Rattle.sipl_records.specs.Addresses.{IsAddress, address_of, text_of_address}
use Rattle.sipl_records.specs.Fields.{fields_of}
use Rattle.sipl_records.specs.declared.address.Address.{Address}
use Rattle.sipl_masterfile.specs.RecordPrint.{record_text}
use Rattle.sipl_uri.specs.QuestionText.{IsAskable, question_text}
use Rattle.sipl_uri.specs.declared.question.Question.{Question}
use Rattle.sipl_book.specs.Words.{without_last_zeros}
use Rattle.sipl_book.specs.declared.edit.Edit.TheVariants.{Load, Unload, Add, Remove}
use Rattle.sipl_book.specs.declared.event.Event.{Event}
use Rattle.sipl_book.specs.declared.event.Event.TheVariants.{Change, Hold, Release, Advance, Answer as Answered}
use Rattle.sipl_lines.specs.CommandLines.{after_command, after_reply, edits, first_line, first_passes, is_find, moves, taken_by, taken_by_fields}
use Rattle.sipl_archive.specs.Commands.{after_kept_reply}
use Rattle.sipl_lines.specs.Requests.{request_of}
use Rattle.sipl_lines.specs.ReplyText.{answer_text}
use Rattle.sipl_lines.specs.CommandText.{endpoint_text, event_lines, record_line, words_field}
use Rattle.sipl_laws.specs.Asked.{event_request, event_reply}
use Rattle.sipl_laws.specs.Events.{IsEvent}
use Rattle.sipl_laws.proofs.Cuts.{From, from-append, from-test}
use Rattle.sipl_laws.proofs.Cutting.{one-line, taken-is, zone-lines}
use Rattle.sipl_laws.proofs.EventCuts.{after-answer, lower, passes}
use Rattle.sipl_laws.proofs.EventRequests.{add-asks, clock-asks, del-asks, drop-asks, find-asks, hold-asks, release-asks, zone-asks}
use Rattle.sipl_laws.proofs.FieldLists.{first-field, line-before, number-read, only-field}
use Rattle.sipl_laws.proofs.LineLengths.{length-endpoint, length-number, length-record}
use Rattle.sipl_laws.proofs.LineRequests.{from-endpoint, seen-number, some-name}
use Rattle.sipl_laws.proofs.Octets.{from-question, from-record, from-text_of}
use Rattle.sipl_laws.proofs.SameLines.{joined}
use Rattle.sipl_laws.proofs.SameZones.{from-listed, left-fit}
use Rattle.sipl_laws.proofs.WordFields.{left-fewer, length-listed}

-- the word of an event's line, the rest of the line, and what is after it
abbrev pub word : Event → Octets
word (Change (Load z)) = codes "zone"
word (Change (Unload apex)) = codes "drop"
word (Change (Add r)) = codes "add"
word (Change (Remove r)) = codes "del"
word (Hold endpoint ms) = codes "hold"
word (Release endpoint) = codes "release"
word (Advance to) = codes "clock"
word (Answered question words answer) = codes "find"

abbrev pub words_after : Event → Octets
words_after (Change (Load z)) = text_of z.apex ++ 32 ∷ decimal (length z.records)
words_after (Change (Unload apex)) = text_of apex
words_after (Change (Add r)) = record_text r
words_after (Change (Remove r)) = record_text r
words_after (Hold endpoint ms) = endpoint_text endpoint ++ 32 ∷ decimal ms
words_after (Release endpoint) = endpoint_text endpoint
words_after (Advance to) = decimal to
words_after (Answered question words answer) = question_text question ++ words_field words

abbrev lines_after : Event → Octets
lines_after (Change (Load z)) = flat_map record_line z.records
lines_after (Answered question words answer) = answer_text answer
lines_after _ = []

two : (a b c d r : Octets) → ((a ++ b ++ c ++ 10 ∷ []) ++ d) ++ r ≡ (a ++ (b ++ c)) ++ 10 ∷ (d ++ r)
two a b c d r = simp append_assoc

three : (a b c d r : Octets) → (a ++ b ++ c ++ 10 ∷ d) ++ r ≡ (a ++ (b ++ c)) ++ 10 ∷ (d ++ r)
three a b c d r = simp append_assoc

pub line-parts : (e : Event) (r : Octets) → event_lines e ++ r ≡ (word e ++ 32 ∷ words_after e) ++ 10 ∷ (lines_after e ++ r)
line-parts (Change (Load z)) r = two (codes "zone ") (text_of z.apex) (32 ∷ decimal (length z.records)) (flat_map record_line z.records) r
line-parts (Change (Unload apex)) r = joined (codes "drop " ++ text_of apex) (10 ∷ []) r
line-parts (Change (Add one)) r = joined (codes "add " ++ record_text one) (10 ∷ []) r
line-parts (Change (Remove one)) r = joined (codes "del " ++ record_text one) (10 ∷ []) r
line-parts (Hold endpoint ms) r = three (codes "hold ") (endpoint_text endpoint) (32 ∷ decimal ms) [] r
line-parts (Release endpoint) r = joined (codes "release " ++ endpoint_text endpoint) (10 ∷ []) r
line-parts (Advance to) r = joined (codes "clock " ++ decimal to) (10 ∷ []) r
line-parts (Answered question words answer) r = three (codes "find ") (question_text question) (words_field words) (answer_text answer) r

some-word : (e : Event) → (0 < length (word e)) × From 33 (word e)
some-word (Change (Load z)) = (omega arith, from-test 33 (codes "zone") refl)
some-word (Change (Unload apex)) = (omega arith, from-test 33 (codes "drop") refl)
some-word (Change (Add r)) = (omega arith, from-test 33 (codes "add") refl)
some-word (Change (Remove r)) = (omega arith, from-test 33 (codes "del") refl)
some-word (Hold endpoint ms) = (omega arith, from-test 33 (codes "hold") refl)
some-word (Release endpoint) = (omega arith, from-test 33 (codes "release") refl)
some-word (Advance to) = (omega arith, from-test 33 (codes "clock") refl)
some-word (Answered question words answer) = (omega arith, from-test 33 (codes "find") refl)

from-number : (n : ℕ) → n < 2 ^ 64 → From 32 (decimal n)
from-number n small = lower (decimal n) (seen-number n small)

from-words : (e : Event) → IsEvent e → From 32 (words_after e)
from-words (Change (Load z)) is =
    let few = is.few in
    from-append 32 (text_of z.apex) (32 ∷ decimal (length z.records)) (lower (text_of z.apex) (from-text_of z.apex)) (omega arith, from-number (length z.records) (omega (arith, few)))
from-words (Change (Unload apex)) is = lower (text_of apex) (from-text_of apex)
from-words (Change (Add r)) is = from-record r is
from-words (Change (Remove r)) is = from-record r is
from-words (Hold endpoint ms) is = from-append 32 (endpoint_text endpoint) (32 ∷ decimal ms) (from-endpoint endpoint is.0) (omega arith, from-number ms is.1)
from-words (Release endpoint) is = from-endpoint endpoint is
from-words (Advance to) is = from-number to is
from-words (Answered question words answer) is =
    from-append 32 (question_text question) (words_field words) (lower (question_text question) (from-question question is.askable))
    (from-listed (without_last_zeros words) (left-fit words (λ w. w < 2 ^ 32) is.words_fit))

pub from-line : (e : Event) → IsEvent e → From 32 (word e ++ 32 ∷ words_after e)
from-line e is = from-append 32 (word e) (32 ∷ words_after e) (lower (word e) (some-word e).1) (omega arith, from-words e is)

-- the first line of an event's lines
pub event-line : (e : Event) (r : Octets) → IsEvent e → first_line (event_lines e ++ r) ≡ word e ++ 32 ∷ words_after e
event-line e r is = ap first_line (line-parts e r) ∙ line-before (word e ++ 32 ∷ words_after e) (lines_after e ++ r) (from-line e is)

-- the first field of the line is its word
pub by-word : (test : Octets → Bool) (e : Event) → first_passes test (fields_of (word e ++ 32 ∷ words_after e)) ≡ test (word e)
by-word test e = passes test (word e) (words_after e) (some-word e).0 (some-word e).1

-- the reply that the page has is after the command
kept : (e : Event) (r : Octets) → IsEvent e → after_kept_reply (word e ++ 32 ∷ words_after e) (event_reply e ++ r) ≡ Some r
kept e r is =
    ap (λ (b : Bool). if b then Some (event_reply e ++ r) else (if is_find (word e ++ 32 ∷ words_after e) then after_reply (event_reply e ++ r) else None)) (by-word (λ w. edits w || moves w) e)
    ∙ ap (λ (b : Bool). if edits (word e) || moves (word e) then Some (event_reply e ++ r) else (if b then after_reply (event_reply e ++ r) else None)) (by-word (λ w. pointwise nat_eq w (codes "find")) e)
    ∙ by e is
  where
    by : (x : Event) → IsEvent x → (if edits (word x) || moves (word x) then Some (event_reply x ++ r) else (if pointwise nat_eq (word x) (codes "find") then after_reply (event_reply x ++ r) else None)) ≡ Some r
    by (Change (Load z)) fit = refl
    by (Change (Unload apex)) fit = refl
    by (Change (Add one)) fit = refl
    by (Change (Remove one)) fit = refl
    by (Hold endpoint ms) fit = refl
    by (Release endpoint) fit = refl
    by (Advance to) fit = refl
    by (Answered question words answer) fit = after-answer answer r fit.answers

pub event-kept : (e : Event) (r : Octets) → IsEvent e → after_kept_reply (first_line (event_lines e ++ r)) (event_reply e ++ r) ≡ Some r
event-kept e r is = ap (λ line. after_kept_reply line (event_reply e ++ r)) (event-line e r is) ∙ kept e r is

module _ (short : (question : Question) → IsAskable question → length (question_text question) ≤ 1030) where
  short-line : (e : Event) → IsEvent e → length (word e ++ 32 ∷ words_after e) ≤ 65536
  short-line (Change (Load z)) is =
      let few = is.few in
      omega (arith, length-append (text_of z.apex) (32 ∷ decimal (length z.records)), length-text_of z.apex is.apex, length-number (length z.records) (omega (arith, few)))
  short-line (Change (Unload apex)) is = omega (arith, length-text_of apex is)
  short-line (Change (Add r)) is = omega (arith, length-record r is)
  short-line (Change (Remove r)) is = omega (arith, length-record r is)
  short-line (Hold endpoint ms) is = omega (arith, length-append (endpoint_text endpoint) (32 ∷ decimal ms), length-endpoint endpoint is.0, length-number ms is.1)
  short-line (Release endpoint) is = omega (arith, length-endpoint endpoint is)
  short-line (Advance to) is = omega (arith, length-number to is)
  short-line (Answered question words answer) is =
      let draws = is.draws in
      omega (
        arith,
        draws,
        length-append (question_text question) (words_field words),
        short question is.askable,
        left-fewer words,
        length-listed (without_last_zeros words) (left-fit words (λ w. w < 2 ^ 32) is.words_fit),
      )

  -- the line takes the lines of a zone's records, or none
  pub taken : (e : Event) → IsEvent e → taken_by (word e ++ 32 ∷ words_after e) ≡ taken_by_fields (word e ∷ fields_of (words_after e))
  taken e is = taken-is (word e) (words_after e) (some-word e).0 (some-word e).1 (from-words e is) (short-line e is)

  one : (e : Event) (r : Octets) → IsEvent e → taken_by_fields (word e ∷ fields_of (words_after e)) ≡ 0 → after_command (event_lines e ++ r) ≡ Some (lines_after e ++ r)
  one e r is none = ap after_command (line-parts e r) ∙ one-line (word e ++ 32 ∷ words_after e) (lines_after e ++ r) (from-line e is) (taken e is ∙ none)

  pub event-command : (e : Event) (r : Octets) → IsEvent e → after_command (event_lines e ++ r) ≡ Some (event_reply e ++ r)
  event-command (Change (Load z)) r is =
      let few = is.few in
      let e : Event = Change (Load z) in
      let small : length z.records < 2 ^ 64 = omega (arith, few) in
      let fields : fields_of (words_after e) ≡ text_of z.apex ∷ decimal (length z.records) ∷ [] =
      first-field (text_of z.apex) (decimal (length z.records)) (some-name z.apex) (from-text_of z.apex)
      ∙ ap (λ (fs : List Octets). text_of z.apex ∷ fs) (only-field (decimal (length z.records)) (number-some (length z.records) small) (seen-number (length z.records) small)) in
      let count : taken_by (word e ++ 32 ∷ words_after e) ≡ length z.records =
      taken e is ∙ ap (λ (fs : List Octets). taken_by_fields (codes "zone" ∷ fs)) fields ∙ ap (λ (n : Option ℕ). unwrap_or n 0) (number-read (length z.records) 1048576 small few) in
      ap after_command (line-parts e r) ∙ zone-lines (word e ++ 32 ∷ words_after e) z.records r (from-line e is) is.records count
    where
      number-some : (n : ℕ) → n < 2 ^ 64 → 0 < length (decimal n)
      number-some n small = decimal_nonempty n small
  event-command (Change (Unload apex)) r is = one (Change (Unload apex)) r is refl
  event-command (Change (Add record_of_it)) r is = one (Change (Add record_of_it)) r is refl
  event-command (Change (Remove record_of_it)) r is = one (Change (Remove record_of_it)) r is refl
  event-command (Hold endpoint ms) r is = one (Hold endpoint ms) r is refl
  event-command (Release endpoint) r is = one (Release endpoint) r is refl
  event-command (Advance to) r is = one (Advance to) r is refl
  event-command (Answered question words answer) r is = one (Answered question words answer) r is refl

  module _ (reads : (address : Address) → IsAddress address → address_of (text_of_address address) ≡ Some address) where
    pub asks : (e : Event) → IsEvent e → request_of (word e ++ 32 ∷ words_after e) ≡ event_request e
    asks (Change (Load z)) is = zone-asks z.apex (length z.records) is.apex is.few
    asks (Change (Unload apex)) is = drop-asks apex is
    asks (Change (Add r)) is = add-asks r is
    asks (Change (Remove r)) is = del-asks r is
    asks (Hold endpoint ms) is = hold-asks reads endpoint ms is.0 is.1
    asks (Release endpoint) is = release-asks reads endpoint is
    asks (Advance to) is = clock-asks to is
    asks (Answered question words answer) is = find-asks short question words is.askable is.draws is.words_fit

    pub event-asks : (e : Event) (r : Octets) → IsEvent e → request_of (first_line (event_lines e ++ r)) ≡ event_request e
    event-asks e r is = ap request_of (event-line e r is) ∙ asks e is
