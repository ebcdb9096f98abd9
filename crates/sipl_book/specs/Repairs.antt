-- The entries that are to be looked up again, and their queue.
use Rattle.std.specs.Prelude.{◌≡◌, ℕ, Bool, true, false, not, ◌&&◌, ◌==◌, nat_eq, if◌then◌else◌, List, [], ◌∷◌, map, filter, find, Option, None, Some}
use Rattle.std.specs.List.{All, IsDistinct, list_any}
use Rattle.sipl_records.specs.declared.record.Key.{Key}
use Rattle.sipl_uri.specs.declared.question.Question.{Question}
use Rattle.sipl_repair.specs.QueueState.{QueueState, is_queued, is_leased, is_held, after_mark, after_settle, after_requeue, after_give_back, after_forget}
use Rattle.sipl_book.specs.Entries.{EntryState, depends_on, entry_of, is_of}

-- the entry with an id, if there is one
abbrev pub entry_with : List EntryState → ℕ → Option EntryState
entry_with entries id = find (λ e. e.id == id) entries

-- whether an id is that of an outdated entry
abbrev pub is_outdated : List EntryState → ℕ → Bool
is_outdated entries id = list_any (λ e. e.id == id && not e.is_current) entries

-- whether an id is that of the question's entry, and is leased
abbrev pub is_leased_for : List EntryState → QueueState → ℕ → Question → Bool
is_leased_for entries queue id question =
    elim (entry_of entries question) [ Some e ↦ e.id == id && is_leased queue id | None ↦ false ]

-- the ids of the outdated entries, in their order
abbrev pub outdated : List EntryState → List ℕ
outdated entries = map (λ e. e.id) (filter (λ e. not e.is_current) entries)

-- the ids of the current entries whose evidence has one of these keys, in their order
abbrev pub dependents : List Key → List EntryState → List ℕ
dependents keys entries = map (λ e. e.id) (filter (λ e. e.is_current && depends_on keys e) entries)

-- the queue after ids were marked, one after the other
abbrev pub after_marks : QueueState → List ℕ → QueueState
after_marks queue [] = queue
after_marks queue (id ∷ ids) = after_marks (after_mark queue id) ids

-- the queue after the commit of a question: its entry, which is current now, is not queued
abbrev pub after_renewal : QueueState → Option EntryState → QueueState
after_renewal queue None = queue
after_renewal queue (Some e) = record queue { queued = filter (λ k. not (k == e.id)) queue.queued }

-- the queue after a lease was given back: the id is the next one, unless its entry is current or gone
abbrev pub queue_after_give_back : List EntryState → QueueState → ℕ → QueueState
queue_after_give_back entries queue id =
    if is_outdated entries id then after_give_back queue id else after_settle queue id

-- the queue after a lease was spent in vain: the id is the last one, unless its entry is current or
-- gone
abbrev pub after_failure : List EntryState → QueueState → ℕ → QueueState
after_failure entries queue id =
    if is_outdated entries id then after_requeue queue id else after_settle queue id

-- the queue without the id of an entry
abbrev pub after_removal : QueueState → Option EntryState → QueueState
after_removal queue None = queue
after_removal queue (Some e) = after_forget queue e.id

-- the entries without that of a question
abbrev pub without : Question → List EntryState → List EntryState
without question entries = filter (λ e. not (is_of question e)) entries

-- no id is queued twice, or both queued and leased, and all are those of entries
pub record IsQueueAmong (entries : List EntryState) (queue : QueueState) : Type 0 where
  pub distinct : IsDistinct nat_eq queue.queued
  pub apart : (id : ℕ) → is_leased queue id ≡ true → is_queued queue id ≡ false
  pub of_entries : (id : ℕ) → is_held queue id ≡ true → list_any (λ e. e.id == id) entries ≡ true

-- and what is queued is outdated, and each outdated entry is queued or leased
pub record IsQueueOf (entries : List EntryState) (queue : QueueState) : Type 0 where
  pub among : IsQueueAmong entries queue
  pub outdated : (id : ℕ) → is_queued queue id ≡ true → is_outdated entries id ≡ true
  pub waiting : All (λ e. e.is_current ≡ false → is_held queue e.id ≡ true) entries
