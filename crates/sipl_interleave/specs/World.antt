-- A world: a book and its workers, and what always holds of them.
use Rattle.std.specs.Prelude.{◌≡◌, ◌⊎◌, ℕ, ◌<◌, ◌≤◌, true, List, [], ◌∷◌, length, Option, None, Some}
use Rattle.std.specs.Coded.{Coded, codes}
use Rattle.sipl_repair.specs.Codes.{queue_state_code}
use Rattle.sipl_repair.specs.QueueState.{is_leased}
use Rattle.sipl_book.specs.Book.{BookState, IsConsistent, next_event}
use Rattle.sipl_book.specs.Calls.{after_give_back}
use Rattle.sipl_book.specs.Honesty.{WereRead}
use Rattle.sipl_interleave.specs.Jobs.{Job, job_at, lease_of}
use Rattle.sipl_book.specs.Repairs.{entry_with}

-- a book, and the job of each worker, if it has one
pub record WorldState : Type 0 where
  pub book : BookState
  pub workers : List (Option Job)

pub world_code : Coded WorldState
world_code = hlevel (codes, queue_state_code)

-- a job is for the book's client, and its sets were read from the book
pub record IsGoodJob (book : BookState) (job : Job) : Type 0 where
  pub client : job.run.client ≡ book.client
  pub read : WereRead book.store job.run.items

-- a lease that is out: its id was that of an entry, and is leased unless the entry was forgotten
pub record IsLeaseOf (book : BookState) (id : ℕ) : Type 0 where
  pub made : id < next_event book
  pub leased : (entry_with book.entries id ≡ None) ⊎ (is_leased book.queue id ≡ true)

-- what always holds of a world
pub record IsWorld (world : WorldState) : Type 0 where
  -- what always holds of a book: its journal is legal and leads to its state, and its entries are good
  pub book : IsConsistent world.book
  -- each job is for the book's client, and its sets were read from the book
  pub jobs : (w : ℕ) (job : Job) → job_at world.workers w ≡ Some job → IsGoodJob world.book job
  -- the lease of a worker is leased in the book, unless its entry was forgotten
  pub leases : (w id : ℕ) → lease_of (job_at world.workers w) ≡ Some id → IsLeaseOf world.book id
  -- no two workers have one lease
  pub own : (v w id : ℕ) → lease_of (job_at world.workers v) ≡ Some id
      → lease_of (job_at world.workers w) ≡ Some id → v ≡ w
  -- each leased id is the lease of a worker
  pub held : (id : ℕ) → is_leased world.book.queue id ≡ true
      → (w : ℕ) × (lease_of (job_at world.workers w) ≡ Some id)
  -- there are 1 to 64 workers
  pub some : 1 ≤ length world.workers
  pub few : length world.workers ≤ 64

-- the book after a worker's lease was given back, if it has one
abbrev pub after_give_back_of : Option Job → BookState → BookState
after_give_back_of worker book =
    elim (lease_of worker) [ Some id ↦ after_give_back id book | None ↦ book ]

-- the book after the leases of all workers were given back, that of the last one first
abbrev pub after_give_back_of_all : List (Option Job) → BookState → BookState
after_give_back_of_all [] book = book
after_give_back_of_all (worker ∷ workers) book = after_give_back_of worker (after_give_back_of_all workers book)
