-- The first line of each event asks for what the event is.
use Rattle.std.proofs.Common.{◌≡◌, ℕ, ◌^◌, ◌<◌, ◌≤◌, List, [], ◌∷◌, ◌++◌, length, Option, Some, None, Result, Ok, map, refl, sym, ap, ◌∙◌, arith, append-nil, length-append, codes, decimal}
use Rattle.std.specs.List.{AllByRecursion}
use Rattle.std.proofs.lemmas.Fmt.{decimal_nonempty}
use Rattle.sipl_names.specs.Labels.{Octets, Labels, IsName}
use Rattle.sipl_names.specs.NamePrint.{text_of}
use Rattle.sipl_names.proofs.Public.{length-text_of}
use Rattle.sipl_records.specs.Addresses.{IsAddress, address_of, text_of_address}
use Rattle.sipl_records.specs.Fields.{fields_of, trim_start}
use Rattle.sipl_records.specs.Numbers.{number_of}
use Rattle.sipl_records.specs.declared.address.Address.{Address}
use Rattle.sipl_records.specs.declared.fault.AddressFault.{AddressFault}
use Rattle.sipl_records.specs.declared.record.Record.{Record}
use Rattle.sipl_masterfile.specs.RecordPrint.{IsRecord, record_text, spaced, spelled, written_data}
use Rattle.sipl_choice.specs.declared.endpoint.Endpoint.{Endpoint}
use Rattle.sipl_srv.specs.declared.fault.DrawsFault.{DrawsFault}
use Rattle.sipl_uri.specs.QuestionText.{IsAskable, question_text}
use Rattle.sipl_uri.specs.declared.question.Question.{Question}
use Rattle.sipl_book.specs.Words.{without_last_zeros}
use Rattle.sipl_lines.specs.Requests.{Request, unknown, zone, drop, add, del, find, hold, release, clock, add_request, del_request, hold_of, release_of, request_of}
use Rattle.sipl_lines.specs.CommandText.{endpoint_text, words_field}
use Rattle.sipl_laws.specs.Events.{IsEndpoint}
use Rattle.sipl_laws.proofs.Cuts.{From, from-lower, from-test}
use Rattle.sipl_laws.proofs.Octets.{from-question, from-text_of}
use Rattle.sipl_laws.proofs.FieldLists.{first-field, none-trimmed, number-read, only-field}
use Rattle.sipl_laws.proofs.LineLengths.{length-endpoint, length-number, length-record}
use Rattle.sipl_laws.proofs.LineRequests.{asked-fields, endpoint-fields, endpoint-read, hold-fields, seen-number, some-name, some-question}
use Rattle.sipl_laws.proofs.SameLines.{joined}
use Rattle.sipl_laws.proofs.SameZones.{left-fit}
use Rattle.sipl_laws.proofs.WordFields.{draws-read, left-fewer, length-listed, uri-fields, words-restored, word_fields}

lower : (text : Octets) → From 33 text → From 32 text
lower text all = from-lower 32 33 text (omega arith) all

-- the number of milliseconds of a hold or of the clock is read
time-read : (ms : ℕ) → ms < 2 ^ 64 → number_of (decimal ms) 18446744073709551615 ≡ Some ms
time-read ms small = number-read ms 18446744073709551615 small (omega (arith, small))

module _ (reads : (address : Address) → IsAddress address → address_of (text_of_address address) ≡ Some address) where
  pub hold-asks : (endpoint : Endpoint) (ms : ℕ) → IsEndpoint endpoint → ms < 2 ^ 64 → request_of (codes "hold " ++ (endpoint_text endpoint ++ 32 ∷ decimal ms)) ≡ hold (Ok endpoint) ms
  hold-asks endpoint ms is small =
      asked-fields (codes "hold") (endpoint_text endpoint ++ 32 ∷ decimal ms) _
      (omega (arith, length-append (endpoint_text endpoint) (32 ∷ decimal ms), length-endpoint endpoint is, length-number ms small))
      refl (omega arith) (from-test 33 (codes "hold") refl) (hold-fields reads endpoint ms is small)
      ∙ ap (λ (e : Option (Result Endpoint AddressFault)). hold_of e (number_of (decimal ms) 18446744073709551615)) (endpoint-read reads endpoint is)
      ∙ ap (λ (n : Option ℕ). hold_of (Some (Ok endpoint)) n) (time-read ms small)

  pub release-asks : (endpoint : Endpoint) → IsEndpoint endpoint → request_of (codes "release " ++ endpoint_text endpoint) ≡ release (Ok endpoint)
  release-asks endpoint is =
      asked-fields (codes "release") (endpoint_text endpoint) _ (omega (arith, length-endpoint endpoint is))
      refl (omega arith) (from-test 33 (codes "release") refl) (endpoint-fields reads endpoint is)
      ∙ ap release_of (endpoint-read reads endpoint is)

pub clock-asks : (to : ℕ) → to < 2 ^ 64 → request_of (codes "clock " ++ decimal to) ≡ clock to
clock-asks to small =
    asked-fields (codes "clock") (decimal to) (decimal to ∷ []) (omega (arith, length-number to small))
    refl (omega arith) (from-test 33 (codes "clock") refl) (only-field (decimal to) (decimal_nonempty to small) (seen-number to small))
    ∙ ap (λ (n : Option ℕ). elim n as (λ _. Request) [ Some time ↦ clock time | None ↦ unknown ]) (time-read to small)

pub drop-asks : (apex : Labels) → IsName apex → request_of (codes "drop " ++ text_of apex) ≡ drop (text_of apex)
drop-asks apex is =
    asked-fields (codes "drop") (text_of apex) (text_of apex ∷ []) (omega (arith, length-text_of apex is))
    refl (omega arith) (from-test 33 (codes "drop") refl) (only-field (text_of apex) (some-name apex) (from-text_of apex))

pub zone-asks : (apex : Labels) (count : ℕ) → IsName apex → count ≤ 1048576 → request_of (codes "zone " ++ (text_of apex ++ 32 ∷ decimal count)) ≡ zone (text_of apex) count
zone-asks apex count is few =
    let small : count < 2 ^ 64 = omega (arith, few) in
    asked-fields (codes "zone") (text_of apex ++ 32 ∷ decimal count) (text_of apex ∷ decimal count ∷ [])
    (omega (arith, length-append (text_of apex) (32 ∷ decimal count), length-text_of apex is, length-number count small))
    refl (omega arith) (from-test 33 (codes "zone") refl)
    (first-field (text_of apex) (decimal count) (some-name apex) (from-text_of apex)
    ∙ ap (λ (fs : List Octets). text_of apex ∷ fs) (only-field (decimal count) (decimal_nonempty count small) (seen-number count small)))
    ∙ ap (λ (n : Option ℕ). elim n as (λ _. Request) [ Some lines ↦ zone (text_of apex) lines | None ↦ unknown ]) (number-read count 1048576 small few)

-- the text of a record begins with its owner
first-spaced : (field : Octets) (fields : List Octets) → (rest : Octets) × (spaced (field ∷ fields) ≡ field ++ rest)
first-spaced field [] = ([], sym (append-nil field))
first-spaced field (next ∷ fields) = (codes " " ++ spaced (next ∷ fields), joined field (codes " ") (spaced (next ∷ fields)))

record-trimmed : (r : Record) → trim_start (record_text r) ≡ record_text r
record-trimmed r =
    let begins = first-spaced (text_of r.owner) (map spelled (written_data r.value)) in
    ap trim_start begins.1 ∙ none-trimmed (text_of r.owner) begins.0 (some-name r.owner) (from-text_of r.owner) ∙ sym begins.1

record-some : (r : Record) → 0 < length (record_text r)
record-some r =
    let begins = first-spaced (text_of r.owner) (map spelled (written_data r.value)) in
    let long : length (record_text r) ≡ length (text_of r.owner ++ begins.0) = ap length begins.1 in
    omega (arith, long, length-append (text_of r.owner) begins.0, some-name r.owner)

added : (text : Octets) → 0 < length text → add_request text ≡ add text
added [] some = absurd (omega (arith, some))
added (c ∷ text) some = refl

removed : (text : Octets) → 0 < length text → del_request text ≡ del text
removed [] some = absurd (omega (arith, some))
removed (c ∷ text) some = refl

pub add-asks : (r : Record) → IsRecord r → request_of (codes "add " ++ record_text r) ≡ add (record_text r)
add-asks r is =
    asked-fields (codes "add") (record_text r) (fields_of (record_text r)) (omega (arith, length-record r is))
    refl (omega arith) (from-test 33 (codes "add") refl) refl
    ∙ ap add_request (record-trimmed r)
    ∙ added (record_text r) (record-some r)

pub del-asks : (r : Record) → IsRecord r → request_of (codes "del " ++ record_text r) ≡ del (record_text r)
del-asks r is =
    asked-fields (codes "del") (record_text r) (fields_of (record_text r)) (omega (arith, length-record r is))
    refl (omega arith) (from-test 33 (codes "del") refl) refl
    ∙ ap del_request (record-trimmed r)
    ∙ removed (record_text r) (record-some r)

module _ (short : (question : Question) → IsAskable question → length (question_text question) ≤ 1030) where
  pub find-asks : (question : Question) (words : List ℕ) → IsAskable question → length words ≡ 32 → AllByRecursion (λ word. word < 2 ^ 32) words → request_of (codes "find " ++ (question_text question ++ words_field words)) ≡ find (question_text question) (Ok words)
  find-asks question words askable draws fit =
      let left : List ℕ = without_last_zeros words in
      let given = left-fit words (λ word. word < 2 ^ 32) fit in
      asked-fields (codes "find") (question_text question ++ words_field words) (question_text question ∷ word_fields left)
      (omega (arith, length-append (question_text question) (words_field words), short question askable, length-listed left given, left-fewer words, draws))
      refl (omega arith) (from-test 33 (codes "find") refl)
      (uri-fields (question_text question) left (some-question question) (from-question question askable) given)
      ∙ ap (λ (d : Option (Result (List ℕ) DrawsFault)). elim d as (λ _. Request) [ Some read ↦ find (question_text question) read | None ↦ unknown ]) (draws-read left given ∙ ap (λ read. Some read) (words-restored words draws))
