-- Pages that are read again.
use Rattle.std.specs.Prelude.{◌≡◌, ℕ, [], ◌++◌, Some, length}
use Rattle.sha2.specs.Sha256.{sha256}
use Rattle.sipl_names.specs.Labels.{Octets}
use Rattle.sipl_book.specs.Pages.{PageState}
use Rattle.sipl_archive.specs.Archive.{IsHead, digest_line, page_named}
use Rattle.sipl_archive.specs.Plain.{PlainState}
use Rattle.sipl_archive.specs.Replay.{RepeatsSome}

-- A text under a name is a page of a run: the name has the numbers of the run and of the page's first
-- event, the last line is the digest of all before, the head is the page's, and the events lead a plain
-- machine from one state to another. So a replay asks for it (`ReplaysPage` of `sipl_archive`), but for
-- the run that goes on with it.
pub record ReadsBack (name text : Octets) (run : ℕ) (client : Octets) (page : PageState)
    (before after : PlainState) : Type 0 where
  pub named : page_named name ≡ Some (run, page.first)
  pub body : Octets
  pub digested : text ≡ body ++ digest_line (sha256 body)
  pub events : Octets
  pub head : IsHead body page.first (length page.events) client events
  pub replays : RepeatsSome events [] (length page.events) before after
