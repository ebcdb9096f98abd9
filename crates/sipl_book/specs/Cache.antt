-- The entries of a book with their queue.
use Rattle.std.specs.Prelude.{ℕ, ◌*◌, ◌≤◌, ◌<◌, List, [], ◌∷◌, length, IsTrue}
use Rattle.std.specs.FinSet as set
use Rattle.std.specs.List.{AllPairs}
use Rattle.sipl_repair.specs.QueueState.{QueueState, has_capacity_for, after_mark}
use Rattle.sipl_book.specs.Entries.{EntryState}
use Rattle.sipl_book.specs.Repairs.{IsQueueOf}

-- the entries, the queue of the outdated ones, and how many entries there may be
pub record CacheState : Type 0 where
  pub entries : List EntryState
  pub queue : QueueState
  pub max_entries : ℕ

-- a queue without ids, with this capacity
abbrev pub new_queue : ℕ → QueueState
new_queue max = record { queued = []; leased = set.empty; capacity = max }

-- no entries yet, of this maximum
abbrev pub new_cache : ℕ → CacheState
new_cache max = record { entries = []; queue = new_queue max; max_entries = max }

-- entries are in the order in which they were made
abbrev pub InOrder : List EntryState → Type 0
InOrder entries = AllPairs (λ a b. a.id < b.id) entries

-- the queue is that of the entries, and has space for the ids of all
pub record IsCache (entries : List EntryState) (queue : QueueState) : Type 0 where
  pub waits : IsQueueOf entries queue
  pub space : length entries ≤ queue.capacity

-- each id may be marked after those before it
abbrev pub AreMarkable : QueueState → List ℕ → Type 0
AreMarkable queue [] = Unit {0}
AreMarkable queue (id ∷ ids) = IsTrue (has_capacity_for queue id) × AreMarkable (after_mark queue id) ids

-- and each lease has space in the index for the pairs of a finding, and each vector of ids space for
-- those of all entries
pub record IsIndexedCache (entries : List EntryState) (queue : QueueState) (room places more : ℕ) : Type 0 where
  pub cache : IsCache entries queue
  pub leases : set.len queue.leased * 80648 ≤ room
  pub candidates : length entries ≤ places
  pub ids : length entries ≤ more
