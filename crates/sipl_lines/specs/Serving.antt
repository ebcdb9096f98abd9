-- What `serve` promises, for any protocol.
use Rattle.std.specs.Prelude.{◌≡◌, ℕ, false, ◌+◌, ◌-◌, ◌^◌, ◌≤◌, ◌||◌, ◌↔◌, min, Option, Result, IfOk, OnOk, OnErr, IsTrue}
use Rattle.std.specs.Io.KnownBytes.{IsAtEnd}
use Rattle.sipl_names.specs.Labels.{Octets}
use Rattle.sipl_lines.specs.Desk.{DeskRules}
use Rattle.sipl_lines.specs.Protocol.{Protocol}
use Rattle.sipl_lines.specs.Session.{SessionState, new_session, session_protocol}
use Rattle.sipl_lines.specs.Streams.{ServesAll, ServesPrefix, ServesRead}
use Rattle.sipl_lines.specs.Tapped.{tapped_inner, has_failed, read_count}
use Rattle.sipl_lines.specs.ServeFault.{is_read_fault, is_write_fault, OnReadFault, OnTooManyTurns}
use Rattle.sipl_lines.specs.Ended.{OnEndOfInput}
use Rattle.sipl_lines.specs.declared.server.Ended.{Ended}
use Rattle.sipl_lines.specs.declared.server.Ended.TheVariants.{Quit}
use Rattle.sipl_lines.specs.declared.server.ServeFault.{ServeFault}
use Rattle.sipl_lines.specs.declared.tapped.Tapped.{Tapped}

-- Serving went so, with at most `limit` reads, from a state, a reader and a writer to others.
pub record ServesWithin {A B : Type 0} (p : Protocol) (limit : ℕ) (result : Result Ended ServeFault)
    (remaining : A → Option Octets) (contents : B → Option Octets) (before after : p.State)
    (reader reader' : Tapped A) (writer writer' : Tapped B) : Type 0 where
  -- the replies to the whole input, where its end was reached
  pub served : OnOk result (ServesAll p before (remaining (tapped_inner reader))
      (contents (tapped_inner writer)) after (contents (tapped_inner writer')))
  pub quit : IfOk result (λ ended. (ended ≡ Quit) ↔ IsTrue (p.has_ended after))
  pub end_of_input : OnEndOfInput result (IsAtEnd (remaining (tapped_inner reader')))
  -- a prefix of the replies to the first items, where it was aborted
  pub prefix : OnErr result (ServesPrefix p before (remaining (tapped_inner reader))
      (contents (tapped_inner writer)) after (contents (tapped_inner writer')))
  -- the replies to all lines that were complete, where it was to read on
  pub interactive : OnReadFault result (ServesRead p before (remaining (tapped_inner reader))
      (remaining (tapped_inner reader')) (contents (tapped_inner writer)) after
      (contents (tapped_inner writer')))
  pub all_turns : OnTooManyTurns result (ServesRead p before (remaining (tapped_inner reader))
      (remaining (tapped_inner reader')) (contents (tapped_inner writer)) after
      (contents (tapped_inner writer')))
  -- where a read failed, or there were too many, the state has not ended
  pub reads_until_ended : OnReadFault result (p.has_ended after ≡ false)
  pub turns_until_ended : OnTooManyTurns result (p.has_ended after ≡ false)
  -- which fault it is, and how many reads there were
  pub reader_failed : has_failed reader' ≡ (has_failed reader || is_read_fault result)
  pub writer_failed : has_failed writer' ≡ (has_failed writer || is_write_fault result)
  pub too_many : OnTooManyTurns result
      (read_count reader' ≡ min (read_count reader + limit) (2 ^ 64 - 1))
  pub at_most : read_count reader' ≤ read_count reader + limit

-- Serving a session at a desk went so, from a session that has had no line to one at the desk as it
-- is then.
pub record ServesDesk {A B D F : Type 0} (rules : DeskRules D F) (limit : ℕ)
    (result : Result Ended ServeFault) (remaining : A → Option Octets) (contents : B → Option Octets)
    (before after : D) (reader reader' : Tapped A) (writer writer' : Tapped B) : Type 0 where
  pub session : SessionState D
  pub desk : session.desk ≡ after
  pub serves : ServesWithin (session_protocol rules) limit result remaining contents
      (new_session before) session reader reader' writer writer'
