-- What the steps of a world do, and their replies.
use Rattle.std.specs.Prelude.{◌≡◌, ℕ, Bool, true, false, List, set, if◌then◌else◌, Option, None, Some, Result, Ok, Err, OnOk, OnErr, IfOk, IfErr, IfSome}
use Rattle.sipl_records.specs.Sets.{set_of}
use Rattle.sipl_uri.specs.declared.question.Question.{Question}
use Rattle.sipl_evidence.specs.Items.{Item}
use Rattle.sipl_outages.specs.Holds.BoardEvent.{Hold as HoldFor, Release as ReleaseOf, Advance as AdvanceTo}
use Rattle.sipl_plans.specs.Findings.{Found, IsFound}
use Rattle.sipl_zonestore.specs.Store.{number_in}
use Rattle.sipl_book.specs.Book.{BookState}
use Rattle.sipl_book.specs.Calls.{CountsLooks, IsChanged, MovesBoard, IsHanded, IsCommitted, IsLeased, IsSettled, IsForgotten, after_look, is_renumbered, with_looks}
use Rattle.sipl_book.specs.Honesty.{AreCurrent}
use Rattle.sipl_book.specs.Pages.{IsTurned, extent_of}
use Rattle.sipl_interleave.specs.Jobs.{Job, job_at, lease_of, new_run, refusal_of, wanted_by, with_item}
use Rattle.sipl_interleave.specs.World.{WorldState, after_give_back_of}
use Rattle.sipl_interleave.specs.declared.act.Act.TheVariants.{Start as ToStart, Read as ToRead, Commit as ToCommit, Settle as ToSettle, Abandon as ToAbandon}
use Rattle.sipl_book.specs.declared.fault.BookFault.{BookFault}
use Rattle.sipl_book.specs.declared.fault.BookFault.TheVariants.{JournalFull, NotCurrent, Stale, Unknown, Gone, PagesSpent, Queue, Store, Board, Memory}
use Rattle.sipl_book.specs.declared.outcome.Handed.{Handed}
use Rattle.sipl_book.specs.declared.outcome.Uncommitted.{Uncommitted}
use Rattle.sipl_interleave.specs.declared.reply.Reply.{Reply}
use Rattle.sipl_interleave.specs.declared.reply.Reply.TheVariants.{Changed, Moved, Answered, Started, Read as ReadSet, Leased, Settled, Abandoned, Forgotten, Paged, Uncommitted as NotCommitted, Refused}
use Rattle.sipl_interleave.specs.declared.step.Step.{Step}
use Rattle.sipl_interleave.specs.declared.step.Step.TheVariants.{Change, Hold, Release, Advance, Hand, Start, Read, Commit, Lease, Settle, Abandon, Forget, Page}
use Rattle.sipl_interleave.specs.declared.fault.WorldFault.{WorldFault}
use Rattle.sipl_interleave.specs.declared.fault.WorldFault.TheVariants.{Book as OfBook}

-- the fault of a step before it reaches the book: there is no such worker, or its job does not
-- allow it
abbrev pub worker_refusal : Step → List (Option Job) → Option WorldFault
worker_refusal (Start w question) workers = refusal_of w ToStart workers
worker_refusal (Lease w) workers = refusal_of w ToStart workers
worker_refusal (Read w) workers = refusal_of w ToRead workers
worker_refusal (Commit w words) workers = refusal_of w ToCommit workers
worker_refusal (Settle w) workers = refusal_of w ToSettle workers
worker_refusal (Abandon w) workers = refusal_of w ToAbandon workers
worker_refusal (Change edit) workers = None
worker_refusal (Hold endpoint ms) workers = None
worker_refusal (Release endpoint) workers = None
worker_refusal (Advance to) workers = None
worker_refusal (Hand question words) workers = None
worker_refusal (Forget question) workers = None
worker_refusal Page workers = None

-- the reply that shows the result of a call of the book
abbrev pub reply_of : {A : Type 0} → (A → Reply) → Result A BookFault → Reply
reply_of answer (Ok value) = answer value
reply_of answer (Err fault) = Refused (OfBook fault)

-- the reply shows a result of which this holds
pub record Replies {A : Type 0} (answer : A → Reply) (Holds : Result A BookFault → Type 0)
    (reply : Reply) : Type 0 where
  pub result : Result A BookFault
  pub shown : reply ≡ reply_of answer result
  pub holds : Holds result

-- a call of the book that leaves the workers as they are
pub record CallsBook {A : Type 0} (Call : BookState → BookState → Result A BookFault → Type 0)
    (old new : WorldState) (result : Result A BookFault) : Type 0 where
  pub call : Call old.book new.book result
  pub workers : new.workers ≡ old.workers

-- A worker begins a run that has read nothing. The only fault is a failed allocation, and then
-- nothing changes.
pub record IsStarted (w : ℕ) (question : Question) (old new : WorldState)
    (result : Result (Unit {0}) BookFault) : Type 0 where
  pub workers : OnOk result (new.workers
      ≡ set old.workers w (Some (record { run = new_run question old.book.client; lease = None })))
  pub book : new.book ≡ old.book
  pub memory : IfErr result (λ fault. fault ≡ Memory)
  pub unchanged : OnErr result (new ≡ old)

-- A worker reads the set that its run wants, as the book has it. The only fault is a failed
-- allocation, and then the workers are as they were. One look is counted, and else the book stays.
pub record IsRead (w : ℕ) (old new : WorldState) (result : Result Item BookFault) : Type 0 where
  pub key : IfOk result (λ item. wanted_by (job_at old.workers w) ≡ Some item.key)
  pub number : IfOk result (λ item. item.number ≡ number_in old.book.store item.key)
  pub content : IfOk result
      (λ item. item.content ≡ set_of old.book.store.zones.records item.key)
  pub workers : IfOk result
      (λ item. new.workers ≡ set old.workers w (with_item item (job_at old.workers w)))
  pub looked : OnOk result (new.book ≡ after_look old.book)
  pub book : new.book ≡ with_looks new.book.store.looks old.book
  pub counted : OnErr result (CountsLooks old.book new.book)
  pub memory : IfErr result (λ fault. fault ≡ Memory)
  pub unchanged : OnErr result (new.workers ≡ old.workers)

-- A worker gets a lease, and begins a run of the question of its entry that has read nothing. A
-- refused call changes nothing.
pub record IsLeasedBy (w : ℕ) (old new : WorldState) (result : Result (ℕ × Question) BookFault)
    : Type 0 where
  pub lease : IsLeased old.book new.book result
  pub workers : IfOk result (λ leased. new.workers
      ≡ set old.workers w
      (Some (record { run = new_run leased.1 old.book.client; lease = Some leased.0 })))
  pub unchanged : OnErr result (new.workers ≡ old.workers)

-- whether a fault is a failed allocation
abbrev pub is_memory : BookFault → Bool
is_memory Memory = true
is_memory JournalFull = false
is_memory NotCurrent = false
is_memory (Stale place) = false
is_memory Unknown = false
is_memory Gone = false
is_memory PagesSpent = false
is_memory (Queue fault) = false
is_memory (Store fault) = false
is_memory (Board fault) = false

-- the reply to a worker that commits: after a failed allocation it keeps its finding
abbrev pub commit_reply : Result Handed Uncommitted → Reply
commit_reply (Ok handed) = Answered handed
commit_reply (Err uncommitted) =
    if is_memory uncommitted.fault then Refused (OfBook Memory) else NotCommitted uncommitted

-- the workers after one has committed: it is idle, but after a failed allocation as it was
abbrev pub after_commit_by : ℕ → Result Handed Uncommitted → List (Option Job) → List (Option Job)
after_commit_by w (Ok handed) workers = set workers w None
after_commit_by w (Err uncommitted) workers =
    if is_memory uncommitted.fault then workers else set workers w None

-- A worker commits what its run found, by the numbers of its sets. Where it is accepted, the sets
-- and their numbers are those of the book at this step.
pub record IsCommittedBy (w : ℕ) (words : List ℕ) (old new : WorldState) (reply : Reply)
    : Type 0 where
  pub found : Found
  pub result : Result Handed Uncommitted
  pub of_run : IfSome (job_at old.workers w) (λ job. IsFound job.run found)
  pub commit : IsCommitted is_renumbered found words old.book old.book new.book result
  pub current : OnOk result (AreCurrent old.book.store found.items)
  pub shown : reply ≡ commit_reply result
  pub workers : new.workers ≡ after_commit_by w result old.workers

-- the reply to a worker that settles
abbrev pub settle_reply : Result (Unit {0}) Uncommitted → Reply
settle_reply (Ok done) = Settled
settle_reply (Err uncommitted) = NotCommitted uncommitted

-- A worker settles its lease with what its run found, by the numbers of its sets, and is idle then.
-- Where it is accepted, the sets and their numbers are those of the book at this step.
pub record IsSettledBy (w : ℕ) (old new : WorldState) (reply : Reply) : Type 0 where
  pub found : Found
  pub id : ℕ
  pub result : Result (Unit {0}) Uncommitted
  pub of_run : IfSome (job_at old.workers w) (λ job. IsFound job.run found)
  pub lease : lease_of (job_at old.workers w) ≡ Some id
  pub settle : IsSettled is_renumbered id found old.book old.book new.book result
  pub current : OnOk result (AreCurrent old.book.store found.items)
  pub shown : reply ≡ settle_reply result
  pub workers : new.workers ≡ set old.workers w None

-- A worker ends its run, and gives its lease back if it has one.
pub record IsAbandonedBy (w : ℕ) (old new : WorldState) (reply : Reply) : Type 0 where
  pub book : new.book ≡ after_give_back_of (job_at old.workers w) old.book
  pub workers : new.workers ≡ set old.workers w None
  pub shown : reply ≡ Abandoned

-- what a step does that no worker refuses: the call of the book that it names, by its worker
abbrev pub IsMade : Step → WorldState → WorldState → Reply → Type 0
IsMade (Change edit) old new = Replies Changed (CallsBook (IsChanged edit) old new)
IsMade (Hold endpoint ms) old new =
    Replies Moved (CallsBook (MovesBoard (HoldFor endpoint ms)) old new)
IsMade (Release endpoint) old new =
    Replies Moved (CallsBook (MovesBoard (ReleaseOf endpoint)) old new)
IsMade (Advance to) old new = Replies Moved (CallsBook (MovesBoard (AdvanceTo to)) old new)
IsMade (Hand question words) old new =
    Replies Answered (CallsBook (IsHanded question words) old new)
IsMade (Start w question) old new = Replies (λ _. Started) (IsStarted w question old new)
IsMade (Read w) old new = Replies ReadSet (IsRead w old new)
IsMade (Commit w words) old new = IsCommittedBy w words old new
IsMade (Lease w) old new = Replies (λ leased. Leased leased.1) (IsLeasedBy w old new)
IsMade (Settle w) old new = IsSettledBy w old new
IsMade (Abandon w) old new = IsAbandonedBy w old new
IsMade (Forget question) old new = Replies (λ _. Forgotten) (CallsBook (IsForgotten question) old new)
IsMade Page old new = Replies (λ page. Paged (extent_of page)) (CallsBook IsTurned old new)

-- A step that a worker refuses changes nothing. Any other is made.
pub record IsStep (step : Step) (old new : WorldState) (reply : Reply) : Type 0 where
  pub refused : (fault : WorldFault) → worker_refusal step old.workers ≡ Some fault
      → (reply ≡ Refused fault) × (new ≡ old)
  pub made : worker_refusal step old.workers ≡ None → IsMade step old new reply
