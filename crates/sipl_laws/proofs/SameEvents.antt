-- Where the lines of events begin two texts, and the texts are equal, the events are the same.
use Rattle.std.proofs.Common.{◌≡◌, ℕ, Bool, true, false, ◌+◌, ◌*◌, ◌^◌, ◌<◌, List, [], ◌∷◌, ◌++◌, length, map, get_or, Ok, Some, refl, sym, ap, ◌∙◌, arith, append_assoc, codes, decimal}
use Rattle.std.specs.Prelude.{◌==◌, ◌||◌}
use Rattle.std.specs.List.{AllByRecursion, flat_map}
use Rattle.std.proofs.lemmas.List.{append_cancel_left}
use Rattle.sipl_names.specs.Labels.{Octets, Labels}
use Rattle.sipl_names.specs.NamePrint.{text_of}
use Rattle.sipl_records.specs.Addresses.{IsAddress, address_of, text_of_address}
use Rattle.sipl_records.specs.declared.address.Address.{Address}
use Rattle.sipl_records.specs.declared.record.Record.{Record}
use Rattle.sipl_masterfile.specs.RecordPrint.{IsRecord, record_text}
use Rattle.sipl_masterfile.specs.RecordText.{record_of}
use Rattle.sipl_choice.specs.declared.endpoint.Endpoint.{Endpoint}
use Rattle.sipl_uri.specs.QuestionText.{IsAskable, question_text}
use Rattle.sipl_uri.specs.Uris.{question_of}
use Rattle.sipl_uri.specs.declared.question.Question.{Question}
use Rattle.sipl_plans.specs.declared.answer.Answer.{Answer}
use Rattle.sipl_book.specs.declared.edit.Edit.{Edit}
use Rattle.sipl_book.specs.declared.edit.Edit.TheVariants.{Load, Unload, Add, Remove}
use Rattle.sipl_book.specs.declared.event.Event.{Event}
use Rattle.sipl_book.specs.declared.event.Event.TheVariants.{Change, Hold, Release, Advance, Answer as Answered}
use Rattle.sipl_book.specs.Words.{without_last_zeros}
use Rattle.sipl_lines.specs.ReplyText.{answer_text, number_field}
use Rattle.sipl_lines.specs.CommandText.{clock_line, edit_lines, endpoint_text, event_lines, hold_line, record_line, release_line, words_field}
use Rattle.sipl_laws.specs.Events.{IsAnswered, IsEdit, IsEvent, kept_edit, kept_event}
use Rattle.sipl_laws.proofs.Cuts.{From, cut, from-append, from-lower}
use Rattle.sipl_laws.proofs.Octets.{from-question}
use Rattle.sipl_laws.proofs.SameLines.{same-answer, same-endpoint, same-name, same-number}
use Rattle.sipl_laws.proofs.SameZones.{from-listed, left-fit, opens-listed, same-listed, same-record, same-words, same-zone}

-- a text's first two octets tell events apart
apart : (x y : Octets) → x ≡ y → get_or x 0 0 + 256 * get_or x 1 0 ≡ get_or y 0 0 + 256 * get_or y 1 0
apart x y is = ap (λ text. get_or text 0 0 + 256 * get_or text 1 0) is

-- whether a text begins with `a`, `d` or `z`, as edits do
abbrev begins_edit : Octets → Bool
begins_edit [] = false
begins_edit (c ∷ text) = c == 97 || c == 100 || c == 122

edit-begins : (e : Edit) (r : Octets) → begins_edit (edit_lines e ++ r) ≡ true
edit-begins (Load z) r = refl
edit-begins (Unload a) r = refl
edit-begins (Add a) r = refl
edit-begins (Remove a) r = refl

-- what printed addresses, records and questions read back to
pub record Readers : Type 0 where
  pub addresses : (address : Address) → IsAddress address → address_of (text_of_address address) ≡ Some address
  pub records : (r : Record) (origin : Labels) → IsRecord r → record_of (record_text r) origin ≡ Ok r
  pub questions : (question : Question) → IsAskable question → question_of (question_text question) ≡ Ok question

word-parts : (word text r : Octets) → (word ++ text ++ 10 ∷ []) ++ r ≡ word ++ (text ++ 10 ∷ r)
word-parts word text r = simp append_assoc

line-parts : (word text more r : Octets) → (word ++ text ++ more ++ 10 ∷ []) ++ r ≡ word ++ (text ++ (more ++ 10 ∷ r))
line-parts word text more r = simp append_assoc

hold-parts : (endpoint : Endpoint) (ms : ℕ) (r : Octets) → hold_line endpoint ms ++ r ≡ codes "hold " ++ (endpoint_text endpoint ++ 32 ∷ (decimal ms ++ 10 ∷ r))
hold-parts endpoint ms r = line-parts (codes "hold ") (endpoint_text endpoint) (number_field ms) r

release-parts : (endpoint : Endpoint) (r : Octets) → release_line endpoint ++ r ≡ codes "release " ++ (endpoint_text endpoint ++ 10 ∷ r)
release-parts endpoint r = word-parts (codes "release ") (endpoint_text endpoint) r

clock-parts : (to : ℕ) (r : Octets) → clock_line to ++ r ≡ codes "clock " ++ (decimal to ++ 10 ∷ r)
clock-parts to r = word-parts (codes "clock ") (decimal to) r

find-parts : (word text more reply r : Octets) → (word ++ text ++ more ++ 10 ∷ reply) ++ r ≡ word ++ ((text ++ more) ++ 10 ∷ (reply ++ r))
find-parts word text more reply r = simp append_assoc

answer-parts : (question : Question) (words : List ℕ) (answer : Answer) (r : Octets) → event_lines (Answered question words answer) ++ r ≡ codes "find " ++ ((question_text question ++ words_field words) ++ 10 ∷ (answer_text answer ++ r))
answer-parts question words answer r = find-parts (codes "find ") (question_text question) (words_field words) (answer_text answer) r

module _ (reads : Readers) where
  same-edit : (e f : Edit) (r q : Octets) → IsEdit e → IsEdit f → edit_lines e ++ r ≡ edit_lines f ++ q → (kept_edit e ≡ kept_edit f) × (r ≡ q)
  same-edit (Load z) (Load y) r q is are same =
      let parts = same-zone reads.records z y r q is are same in
      (λ i. Load (record { apex = parts.0 i; records = parts.1 i; outside = 0; repeated = 0 }), parts.2)
  same-edit (Unload a) (Unload b) r q is are same =
      let line = append_cancel_left (codes "drop ") (text_of a ++ 10 ∷ r) (text_of b ++ 10 ∷ q) (sym (word-parts (codes "drop ") (text_of a) r) ∙ same ∙ word-parts (codes "drop ") (text_of b) q) in
      let parts = same-name a b 10 (10 ∷ r) (10 ∷ q) (omega arith) is are refl refl line in
      (ap (λ apex. Unload apex) parts.0, let rest = parts.1 in cc)
  same-edit (Add a) (Add b) r q is are same =
      let parts = same-record reads.records a b r q is are (append_cancel_left (codes "add ") (record_line a ++ r) (record_line b ++ q) same) in
      (ap (λ one. Add one) parts.0, parts.1)
  same-edit (Remove a) (Remove b) r q is are same =
      let parts = same-record reads.records a b r q is are (append_cancel_left (codes "del ") (record_line a ++ r) (record_line b ++ q) same) in
      (ap (λ one. Remove one) parts.0, parts.1)
  same-edit _ _ r q is are same = absurd (let tags = apart _ _ same in omega (arith, tags))

  same-question : (p o : Question) (words others : List ℕ) (a b : Answer) (r q : Octets) → IsAnswered p words a → IsAnswered o others b → (question_text p ++ words_field words) ++ 10 ∷ (answer_text a ++ r) ≡ (question_text o ++ words_field others) ++ 10 ∷ (answer_text b ++ q) → (p ≡ o) × (words ≡ others) × (a ≡ b) × (r ≡ q)
  same-question p o words others a b r q is are same =
      let left = left-fit words (λ word. word < 2 ^ 32) is.words_fit in
      let right = left-fit others (λ word. word < 2 ^ 32) are.words_fit in
      let line = cut 10 32 (omega arith) (question_text p ++ words_field words) (question_text o ++ words_field others) (10 ∷ (answer_text a ++ r)) (10 ∷ (answer_text b ++ q))
      (whole p words is.askable left) (whole o others are.askable right) refl refl same in
      let parts = cut 32 33 (omega arith) (question_text p) (question_text o) (words_field words) (words_field others) (from-question p is.askable) (from-question o are.askable)
      (opens-listed (without_last_zeros words)) (opens-listed (without_last_zeros others)) line.0 in
      let read : Ok p ≡ Ok o = sym (reads.questions p is.askable) ∙ ap question_of parts.0 ∙ reads.questions o are.askable in
      let draws = same-listed (without_last_zeros words) (without_last_zeros others) left right parts.1 in
      let long : length words ≡ length others = is.draws ∙ sym are.draws in
      let reply = same-answer reads.addresses a b r q is.answers are.answers (let all = line.1 in cc) in
      (let same_question = read in cc, same-words words others long draws, reply.0, reply.1)
    where
      whole : (question : Question) (ws : List ℕ) → IsAskable question → AllByRecursion (λ word. word < 2 ^ 32) (without_last_zeros ws) → From 32 (question_text question ++ words_field ws)
      whole question ws askable fit =
          from-append 32 (question_text question) (words_field ws) (from-lower 32 33 (question_text question) (omega arith) (from-question question askable)) (from-listed (without_last_zeros ws) fit)

  same-event : (e f : Event) (r q : Octets) → IsEvent e → IsEvent f → event_lines e ++ r ≡ event_lines f ++ q → (kept_event e ≡ kept_event f) × (r ≡ q)
  same-event (Change e) (Change f) r q is are same =
      let parts = same-edit e f r q is are same in
      (ap (λ edit. Change edit) parts.0, parts.1)
  same-event (Hold e ms) (Hold f more) r q is are same =
      let line = append_cancel_left (codes "hold ") (endpoint_text e ++ 32 ∷ (decimal ms ++ 10 ∷ r)) (endpoint_text f ++ 32 ∷ (decimal more ++ 10 ∷ q)) (sym (hold-parts e ms r) ∙ same ∙ hold-parts f more q) in
      let first = same-endpoint reads.addresses e f 32 (32 ∷ (decimal ms ++ 10 ∷ r)) (32 ∷ (decimal more ++ 10 ∷ q)) (omega arith) is.0 are.0 refl refl line in
      let last = same-number ms more 10 (10 ∷ r) (10 ∷ q) (omega arith) is.1 are.1 refl refl (let all = first.1 in cc) in
      (λ i. Hold (first.0 i) (last.0 i), let rest = last.1 in cc)
  same-event (Release e) (Release f) r q is are same =
      let line = append_cancel_left (codes "release ") (endpoint_text e ++ 10 ∷ r) (endpoint_text f ++ 10 ∷ q) (sym (release-parts e r) ∙ same ∙ release-parts f q) in
      let parts = same-endpoint reads.addresses e f 10 (10 ∷ r) (10 ∷ q) (omega arith) is are refl refl line in
      (ap (λ endpoint. Release endpoint) parts.0, let rest = parts.1 in cc)
  same-event (Advance to) (Advance other) r q is are same =
      let line = append_cancel_left (codes "clock ") (decimal to ++ 10 ∷ r) (decimal other ++ 10 ∷ q) (sym (clock-parts to r) ∙ same ∙ clock-parts other q) in
      let parts = same-number to other 10 (10 ∷ r) (10 ∷ q) (omega arith) is are refl refl line in
      (ap (λ time. Advance time) parts.0, let rest = parts.1 in cc)
  same-event (Answered p words a) (Answered o others b) r q is are same =
      let line = append_cancel_left (codes "find ") _ _ (sym (answer-parts p words a r) ∙ same ∙ answer-parts o others b q) in
      let parts = same-question p o words others a b r q is are line in
      (λ i. Answered (parts.0 i) (parts.1 i) (parts.2 i), parts.3)
  same-event (Change e) _ r q is are same = absurd (let never : true ≡ false = sym (edit-begins e r) ∙ ap begins_edit same in cc)
  same-event _ (Change f) r q is are same = absurd (let never : false ≡ true = ap begins_edit same ∙ edit-begins f q in cc)
  same-event _ _ r q is are same = absurd (let tags = apart _ _ same in omega (arith, tags))

  some-event : (e : Event) (r : Octets) → event_lines e ++ r ≡ [] → ⊥
  some-event (Change (Load z)) r is = cc
  some-event (Change (Unload a)) r is = cc
  some-event (Change (Add a)) r is = cc
  some-event (Change (Remove a)) r is = cc
  some-event (Hold e ms) r is = cc
  some-event (Release e) r is = cc
  some-event (Advance to) r is = cc
  some-event (Answered p words a) r is = cc

  pub same-events : (es fs : List Event) → AllByRecursion IsEvent es → AllByRecursion IsEvent fs → flat_map event_lines es ≡ flat_map event_lines fs → map kept_event es ≡ map kept_event fs
  same-events [] [] all each is = refl
  same-events [] (f ∷ fs) all each is = absurd (some-event f (flat_map event_lines fs) (sym is))
  same-events (e ∷ es) [] all each is = absurd (some-event e (flat_map event_lines es) is)
  same-events (e ∷ es) (f ∷ fs) all each is =
      let first = same-event e f (flat_map event_lines es) (flat_map event_lines fs) all.0 each.0 is in
      let rest = same-events es fs all.1 each.1 first.1 in
      λ i. first.0 i ∷ rest i
