-- A book stays consistent when its queue changes, when a lease is settled, and when an entry is forgotten.
use Rattle.std.proofs.Common.{◌≡◌, ◌≢◌, ◌<◌, ◌≤◌, Bool, true, false, not, List, map, length, refl, sym, ◌∙◌, arith}
use Rattle.std.specs.List.{All, AllPairs}
use Rattle.std.proofs.Math.ListN.{length-map}
use Rattle.std.proofs.lemmas.List.Elements.{All-map, All-filter, All-weaker}
use Rattle.std.proofs.lemmas.List.Filters.{length-filter_both}
use Rattle.std.proofs.lemmas.List.Kept.{AllPairs-filter}
use Rattle.sipl_plans.specs.Findings.{Found, IsSound}
use Rattle.sipl_repair.specs.QueueState.{QueueState}
use Rattle.sipl_uri.specs.declared.question.Question.{Question}
use Rattle.sipl_book.specs.Book.{BookState, IsConsistent, IsGoodEntry}
use Rattle.sipl_book.specs.Entries.{EntryState, is_of, renewed}
use Rattle.sipl_book.specs.Honesty.{AreCurrent}
use Rattle.sipl_book.specs.Repairs.{without}
use Rattle.sipl_book.proofs.Committed.{AllPairs-map, renewed_cases, id-renewed, question-renewed}
use Rattle.sipl_book.proofs.Journal.{all_good-later}
use Rattle.sipl_book.proofs.Honest.{read-current, sets-sound}

-- other entries and another queue, where the entries are good and stand apart in their order
consistent-with : (book : BookState) (entries : List EntryState) (queue : QueueState) → IsConsistent book
    → All (IsGoodEntry book) entries → AllPairs (λ a b. a.found.question ≢ b.found.question) entries → AllPairs (λ a b. a.id < b.id) entries
    → length entries ≤ length book.entries → IsConsistent (record book { entries = entries; queue = queue })
consistent-with book entries queue so good apart order few =
    let new : BookState = record book { entries = entries; queue = queue } in
    record {
      legal = so.legal;
      replayed = so.replayed;
      store = so.store;
      board = so.board;
      entries = all_good-later book new refl refl refl refl (omega arith) entries good;
      questions = apart;
      ids = order;
      few_entries = omega (arith, few, so.few_entries);
      few_events = so.few_events;
      first_limit = so.first_limit;
      records_limit = so.records_limit;
      entries_limit = so.entries_limit;
      events_limit = so.events_limit;
    }

pub consistent-queued : (book : BookState) (queue : QueueState) → IsConsistent book → IsConsistent (record book { queue = queue })
consistent-queued book queue so = consistent-with book book.entries queue so so.entries so.questions so.ids (omega arith)

-- the entry of the finding's question gets the finding, whose sets are as the book has them
pub consistent-settled : (book : BookState) (found : Found) (queue : QueueState) → IsConsistent book → IsSound found → found.client ≡ book.client
    → AreCurrent book.store found.items → IsConsistent (record book { entries = map (renewed found) book.entries; queue = queue })
consistent-settled book found queue so sound client now =
    let read = read-current book.store found.items so.store (sets-sound found sound) now in
    let Apart : EntryState → EntryState → Type 0 = λ a b. a.found.question ≢ b.found.question in
    let Before : EntryState → EntryState → Type 0 = λ a b. a.id < b.id in
    consistent-with book (map (renewed found) book.entries) queue so
    (All-map (IsGoodEntry book) (renewed found) book.entries
    (All-weaker (IsGoodEntry book) (λ e. IsGoodEntry book (renewed found e)) (λ e good.
    renewed_cases found e (IsGoodEntry book)
    (λ _. record { client = client; sound = sound; read = read; up_to_date = λ _. now; made = good.made })
    (λ _. good)) book.entries so.entries))
    (AllPairs-map (renewed found) Apart Apart (λ a b apart same. apart (sym (question-renewed found a) ∙ same ∙ question-renewed found b)) book.entries so.questions)
    (AllPairs-map (renewed found) Before Before (λ a b before. omega (arith, id-renewed found a, id-renewed found b)) book.entries so.ids)
    (omega (arith, length-map book.entries (renewed found)))

-- the entry of a question goes
pub consistent-forgotten : (book : BookState) (question : Question) (queue : QueueState) → IsConsistent book
    → IsConsistent (record book { entries = without question book.entries; queue = queue })
consistent-forgotten book question queue so =
    let kept : EntryState → Bool = λ e. not (is_of question e) in
    consistent-with book (without question book.entries) queue so
    (All-filter kept (IsGoodEntry book) book.entries so.entries)
    (AllPairs-filter (λ a b. a.found.question ≢ b.found.question) kept book.entries so.questions)
    (AllPairs-filter (λ a b. a.id < b.id) kept book.entries so.ids)
    (omega (arith, length-filter_both kept (is_of question) (λ e. not_not (is_of question e)) book.entries))
  where
    not_not : (b : Bool) → b ≡ not (not b)
    not_not true = refl
    not_not false = refl
