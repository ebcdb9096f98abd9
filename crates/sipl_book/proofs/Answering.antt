-- Answers that are handed out: that of a current entry is the answer now, and the book stays consistent.
use Rattle.std.proofs.Common.{◌≡◌, ℕ, ◌<◌, true, List, [], ◌∷◌, ◌++◌, length, Some, refl, sym, ap, subst, ◌∙◌}
use Rattle.sipl_records.specs.Sets.{set_of}
use Rattle.sipl_evidence.specs.Looks.{Look}
use Rattle.sipl_uri.specs.declared.question.Question.{Question}
use Rattle.sipl_plans.specs.Plan.{draw}
use Rattle.sipl_plans.specs.Route.{route}
use Rattle.sipl_book.specs.Book.{BookState, IsConsistent, IsGoodEntry, answer_now}
use Rattle.sipl_book.specs.Calls.{answer_event}
use Rattle.sipl_book.specs.Entries.{EntryState, entry_of}
use Rattle.sipl_book.specs.declared.event.Event.{Event}
use Rattle.sipl_book.proofs.Committed.{All-entry_of, question-entry_of}
use Rattle.sipl_book.proofs.Journal.{consistent-recorded}

-- what a current entry's route draws is the answer on the records and the holds as they are
pub current_answer : (book : BookState) (question : Question) (words : List ℕ) (entry : EntryState) → IsConsistent book
    → entry_of book.entries question ≡ Some entry → entry.is_current ≡ true
    → draw entry.found.layout book.board.holds words book.held ≡ answer_now book question words
current_answer book question words entry good found current =
    let is = All-entry_of (IsGoodEntry book) question book.entries entry good.entries found in
    let own = question-entry_of question book.entries entry found in
    let look : Look = set_of book.store.zones.records in
    let routed : route look question book.client ≡ entry.found.layout =
    (λ i. route look (sym own i) (sym is.client i)) ∙ is.sound.route look (is.up_to_date current).agrees in
    ap (λ layout. draw layout book.board.holds words book.held) (sym routed)

-- a book stays consistent with the event of the answer now
pub consistent-answered : (book : BookState) (question : Question) (words : List ℕ) (journal : List Event) → IsConsistent book
    → length book.journal < book.max_events → journal ≡ book.journal ++ answer_event book question words ∷ []
    → IsConsistent (record book { journal = journal })
consistent-answered book question words journal good space is =
    subst (λ events. IsConsistent (record book { journal = events })) (sym is)
    (consistent-recorded book (answer_event book question words) book.board good good.board space refl refl)
