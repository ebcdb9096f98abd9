-- The runs of an archive: pages that follow one another.
use Rattle.std.specs.Prelude.{◌≡◌, ℕ, ◌+◌, Bool, ◌&&◌, List, [], ◌∷◌, ◌++◌, Option, None, Some, nat_lt, ◌==◌, if◌then◌else◌}
use Rattle.std.specs.Bool.{OnTrue, OnFalse}
use Rattle.sha2.specs.Sha256.{sha256}
use Rattle.sipl_names.specs.Labels.{Octets}
use Rattle.sipl_archive.specs.Archive.{IsHead, digest_line, page_named}
use Rattle.sipl_archive.specs.Replay.{IsFresh, RepeatsSome}
use Rattle.sipl_archive.specs.declared.runs.Replayed.{Replayed}
use Rattle.sipl_archive.specs.declared.runs.Run.{Run}

-- a run of this number and client, of which no page was replayed
pub record IsBegun (number : ℕ) (client : Octets) (run : Run) : Type 0 where
  pub number_is : run.number ≡ number
  pub next : run.next ≡ 0
  pub client_is : run.client.items ≡ client
  pub fresh : IsFresh client run.desk

-- the number of the last run; 0 where there is none
abbrev pub number_of_last : Option Run → ℕ
number_of_last None = 0
number_of_last (Some run) = run.number

-- the last run as it is counted: its first event has the number 0, so the next one has that of its events
abbrev pub counted : Option Run → List Replayed
counted None = []
counted (Some run) = record { number = run.number; events = run.next } ∷ []

-- whether a page of this run and first event begins its run: the first one of a later run than the last
abbrev pub begins_run : ℕ → ℕ → Option Run → Bool
begins_run number first last = first == 0 && nat_lt (number_of_last last) number

-- the runs that a page of this run and first event ends, as they are counted: the last one, if it begins
-- another
abbrev pub ended_by : Option (ℕ × ℕ) → Option Run → List Replayed
ended_by None last = []
ended_by (Some page) last = if begins_run page.0 page.1 last then counted last else []

-- the last run is one that begins where the page begins it, and else the one before
pub record BeginsRun (number first : ℕ) (client : Octets) (old new : Option Run) : Type 0 where
  pub begun : OnTrue (begins_run number first old)
      ((run : Run) × (new ≡ Some run) × IsBegun number client run)
  pub same : OnFalse (begins_run number first old) (new ≡ old)

-- the page of this run, first event and client is the next one of a run
pub record IsNext (number first : ℕ) (client : Octets) (run : Run) : Type 0 where
  pub number_is : run.number ≡ number
  pub next : run.next ≡ first
  pub client_is : run.client.items ≡ client

-- once its run has begun, the page of this run, first event and client is the next one of the last run
pub record Follows (number first : ℕ) (client : Octets) (old new : Option Run) : Type 0 where
  pub begins : BeginsRun number first client old new
  pub run : Run
  pub last : new ≡ Some run
  pub is_next : IsNext number first client run

-- A run goes on with a text: its machine carries so many events out, as is expected, and nothing else is in
-- the text. The number of the next event is as many later; the run's number and client are as they were.
pub record GoesOn (text : Octets) (count : ℕ) (before after : Run) : Type 0 where
  pub repeats : RepeatsSome text [] count before.desk after.desk
  pub next : after.next ≡ before.next + count
  pub number_is : after.number ≡ before.number
  pub client_is : after.client.items ≡ before.client.items

-- the last run goes on with so many events of a text
pub record ReplaysEvents (text : Octets) (count : ℕ) (old new : Option Run) : Type 0 where
  pub before : Run
  pub after : Run
  pub old_is : old ≡ Some before
  pub new_is : new ≡ Some after
  pub goes_on : GoesOn text count before after

-- A text under a name is an archived page that follows the pages before it: its last line is the digest of
-- all before, its head is as its name says and as the last run goes on or begins, and its events are carried
-- out again.
pub record ReplaysPage (name text : Octets) (old new : Option Run) : Type 0 where
  pub body : Octets
  pub digested : text ≡ body ++ digest_line (sha256 body)
  pub number : ℕ
  pub first : ℕ
  pub count : ℕ
  pub client : Octets
  pub events : Octets
  pub named : page_named name ≡ Some (number, first)
  pub head : IsHead body first count client events
  pub between : Option Run
  pub follows : Follows number first client old between
  pub replays : ReplaysEvents events count between new
