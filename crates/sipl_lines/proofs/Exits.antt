-- How serving ends, for any protocol: each exit of the loop over turns keeps what `serve` promises.
use Rattle.std.proofs.Common.{◌≡◌, ℕ, ◌+◌, ◌-◌, ◌^◌, ◌<◌, ◌≤◌, ◌||◌, [], Bool, true, false, Ok, Err, refl, sym, ap, ◌∙◌, subst, min, arith}
use Rattle.std.specs.Prelude.{Option, IsTrue, ◌↔◌}
use Rattle.std.proofs.Math.Bool.{or-false}
use Rattle.sipl_names.specs.Labels.{Octets}
use Rattle.sipl_lines.specs.Protocol.{IsLineProtocol, Protocol}
use Rattle.sipl_lines.specs.Tapped.{tapped_inner, has_failed, read_count}
use Rattle.sipl_lines.specs.Turns.{CompletesTurn, FailsTurn, HasServed}
use Rattle.sipl_lines.specs.ServeFault.{is_read_fault, is_write_fault}
use Rattle.sipl_lines.specs.Serving.{ServesWithin}
use Rattle.sipl_lines.specs.declared.server.Ended.{Ended}
use Rattle.sipl_lines.specs.declared.server.Ended.TheVariants.{Quit, EndOfInput}
use Rattle.sipl_lines.specs.declared.server.ServeFault.{ServeFault}
use Rattle.sipl_lines.specs.declared.server.ServeFault.TheVariants.{Read, Write, TooManyTurns, Memory}
use Rattle.sipl_lines.specs.declared.tapped.Tapped.{Tapped}
use Rattle.sipl_lines.proofs.Turning.{served_none, served_more, served_end, served_ended, served_prefix, served_read, served_kept, served_failed, served_paused}

-- so many turns were made, and all that they read is served
pub record Progress {A B : Type 0} (p : Protocol) (remaining : A → Option Octets) (contents : B → Option Octets)
    (before now : p.State) (kept : Octets) (reader reader' : Tapped A) (writer writer' : Tapped B) (made : ℕ) : Type 0 where
  pub served : HasServed p before (remaining (tapped_inner reader)) (remaining (tapped_inner reader'))
      (contents (tapped_inner writer)) now kept (contents (tapped_inner writer'))
  pub reader_failed : has_failed reader' ≡ has_failed reader
  pub writer_failed : has_failed writer' ≡ has_failed writer
  pub counted : read_count reader' ≡ min (read_count reader + made) (2 ^ 64 - 1)

still_of : (failed first : Bool) → failed ≡ first → failed ≡ (first || false)
still_of failed first same = same ∙ sym (or-false first)

no_fault_of : (failed before first : Bool) → failed ≡ (before || false) → before ≡ first → failed ≡ (first || false)
no_fault_of failed before first is same = is ∙ ap (λ b. b || false) same

a_fault_of : (failed before first : Bool) → failed ≡ (before || true) → before ≡ first → failed ≡ (first || true)
a_fault_of failed before first is same = is ∙ ap (λ b. b || true) same

-- nothing was made
pub progress_none : {A B : Type 0} (p : Protocol) (remaining : A → Option Octets) (contents : B → Option Octets) (s : p.State) (kept : Octets) (reader : Tapped A) (writer : Tapped B)
    → kept ≡ [] → read_count reader ≤ 2 ^ 64 - 1 → Progress p remaining contents s s kept reader reader writer writer 0
progress_none p remaining contents s kept reader writer none within =
    let unread = remaining (tapped_inner reader) in
    let held = contents (tapped_inner writer) in
    record {
      served = subst (λ k. HasServed p s unread unread held s k held) (sym none) (served_none p s unread held);
      reader_failed = refl;
      writer_failed = refl;
      counted = omega arith;
    }

pub progress_more : {A B : Type 0} {p : Protocol} {remaining : A → Option Octets} {contents : B → Option Octets} {before now : p.State} {kept : Octets} {reader reader' : Tapped A} {writer writer' : Tapped B} {made : ℕ}
    → IsLineProtocol p → (later : p.State) (kept' : Octets) (reader'' : Tapped A) (writer'' : Tapped B)
    → Progress p remaining contents before now kept reader reader' writer writer' made
    → CompletesTurn p true now kept (remaining (tapped_inner reader')) (remaining (tapped_inner reader'')) (contents (tapped_inner writer')) later kept' (contents (tapped_inner writer''))
    → has_failed reader'' ≡ (has_failed reader' || false) → has_failed writer'' ≡ (has_failed writer' || false)
    → read_count reader'' ≡ min (read_count reader' + 1) (2 ^ 64 - 1)
    → Progress p remaining contents before later kept' reader reader'' writer writer'' (made + 1)
progress_more {reader' = reader'} {writer' = writer'} rules later kept' reader'' writer'' progress turn no_read_fault no_write_fault count =
    let so_far = progress.counted in
    record {
      served = served_more rules progress.served turn;
      reader_failed = no_read_fault ∙ or-false (has_failed reader') ∙ progress.reader_failed;
      writer_failed = no_write_fault ∙ or-false (has_failed writer') ∙ progress.writer_failed;
      counted = omega arith;
    }

-- a pause was made, before the next turn
pub progress_paused : {A B : Type 0} {p : Protocol} {remaining : A → Option Octets} {contents : B → Option Octets} {before now : p.State} {kept : Octets} {reader reader' : Tapped A} {writer writer' : Tapped B} {made : ℕ}
    → (later : p.State) → Progress p remaining contents before now kept reader reader' writer writer' made → p.MayPause now later
    → Progress p remaining contents before later kept reader reader' writer writer' made
progress_paused later progress pause =
    record {
      served = served_paused later progress.served pause;
      reader_failed = progress.reader_failed;
      writer_failed = progress.writer_failed;
      counted = progress.counted;
    }

-- the session had ended
pub exit_ended : {A B : Type 0} {p : Protocol} {remaining : A → Option Octets} {contents : B → Option Octets} {before now : p.State} {kept : Octets} {reader reader' : Tapped A} {writer writer' : Tapped B} {made : ℕ}
    → IsLineProtocol p → (limit : ℕ) → made ≤ limit
    → Progress p remaining contents before now kept reader reader' writer writer' made → p.has_ended now ≡ true
    → ServesWithin p limit (Ok Quit) remaining contents before now reader reader' writer writer'
exit_ended {reader = reader} {reader' = reader'} {writer = writer} {writer' = writer'} rules limit within progress ended =
    let so_far = progress.counted in
    record {
      served = served_ended rules progress.served ended;
      quit = (λ _. ended, λ _. refl);
      end_of_input = tt;
      prefix = tt;
      interactive = tt;
      all_turns = tt;
      reads_until_ended = tt;
      turns_until_ended = tt;
      reader_failed = still_of (has_failed reader') (has_failed reader) progress.reader_failed;
      writer_failed = still_of (has_failed writer') (has_failed writer) progress.writer_failed;
      too_many = tt;
      at_most = omega arith;
    }

-- all turns that are allowed were made
pub exit_too_many : {A B : Type 0} {p : Protocol} {remaining : A → Option Octets} {contents : B → Option Octets} {before now : p.State} {kept : Octets} {reader reader' : Tapped A} {writer writer' : Tapped B} {made : ℕ}
    → (limit : ℕ) → made ≡ limit
    → Progress p remaining contents before now kept reader reader' writer writer' made → p.has_ended now ≡ false
    → ServesWithin p limit (Err TooManyTurns) remaining contents before now reader reader' writer writer'
exit_too_many {reader = reader} {reader' = reader'} {writer = writer} {writer' = writer'} limit all progress ongoing =
    let so_far = progress.counted in
    record {
      served = tt;
      quit = tt;
      end_of_input = tt;
      prefix = served_prefix progress.served;
      interactive = tt;
      all_turns = served_read progress.served;
      reads_until_ended = tt;
      turns_until_ended = ongoing;
      reader_failed = still_of (has_failed reader') (has_failed reader) progress.reader_failed;
      writer_failed = still_of (has_failed writer') (has_failed writer) progress.writer_failed;
      too_many = omega arith;
      at_most = omega arith;
    }

-- the space to serve in could not be had
pub exit_without_space : {A B : Type 0} (p : Protocol) (limit : ℕ) (remaining : A → Option Octets) (contents : B → Option Octets) (s : p.State) (reader : Tapped A) (writer : Tapped B)
    → ServesWithin p limit (Err Memory) remaining contents s s reader reader writer writer
exit_without_space p limit remaining contents s reader writer =
    record {
      served = tt;
      quit = tt;
      end_of_input = tt;
      prefix = served_prefix (served_none p s (remaining (tapped_inner reader)) (contents (tapped_inner writer)));
      interactive = tt;
      all_turns = tt;
      reads_until_ended = tt;
      turns_until_ended = tt;
      reader_failed = still_of (has_failed reader) (has_failed reader) refl;
      writer_failed = still_of (has_failed writer) (has_failed writer) refl;
      too_many = tt;
      at_most = omega arith;
    }

-- a turn failed
pub exit_failed : {A B : Type 0} {p : Protocol} {remaining : A → Option Octets} {contents : B → Option Octets} {before now : p.State} {kept : Octets} {reader reader' : Tapped A} {writer writer' : Tapped B} {made : ℕ}
    → (fault : ServeFault) → IsLineProtocol p → (limit : ℕ) → made < limit → (later : p.State) (reader'' : Tapped A) (writer'' : Tapped B)
    → Progress p remaining contents before now kept reader reader' writer writer' made → p.has_ended now ≡ false
    → FailsTurn fault p now kept (remaining (tapped_inner reader')) (remaining (tapped_inner reader'')) (contents (tapped_inner writer')) later (contents (tapped_inner writer''))
    → has_failed reader'' ≡ (has_failed reader' || is_read_fault {T = Bool} (Err fault)) → has_failed writer'' ≡ (has_failed writer' || is_write_fault {T = Bool} (Err fault))
    → read_count reader'' ≡ min (read_count reader' + 1) (2 ^ 64 - 1)
    → ServesWithin p limit (Err fault) remaining contents before later reader reader'' writer writer''
exit_failed {p = p} {remaining = remaining} {contents = contents} {reader = reader} {reader' = reader'} {writer = writer} {writer' = writer'} Read rules limit below later reader'' writer'' progress ongoing fails read_fault write_fault count =
    let so_far = progress.counted in
    record {
      served = tt;
      quit = tt;
      end_of_input = tt;
      prefix = served_prefix (served_kept progress.served fails);
      interactive = served_read (served_kept progress.served fails);
      all_turns = tt;
      reads_until_ended = ap p.has_ended fails.state ∙ ongoing;
      turns_until_ended = tt;
      reader_failed = a_fault_of (has_failed reader'') (has_failed reader') (has_failed reader) read_fault progress.reader_failed;
      writer_failed = no_fault_of (has_failed writer'') (has_failed writer') (has_failed writer) write_fault progress.writer_failed;
      too_many = tt;
      at_most = omega arith;
    }
exit_failed {p = p} {remaining = remaining} {contents = contents} {reader = reader} {reader' = reader'} {writer = writer} {writer' = writer'} Write rules limit below later reader'' writer'' progress ongoing fails read_fault write_fault count =
    let so_far = progress.counted in
    record {
      served = tt;
      quit = tt;
      end_of_input = tt;
      prefix = served_failed Write rules (remaining (tapped_inner reader'')) later (contents (tapped_inner writer'')) progress.served fails;
      interactive = tt;
      all_turns = tt;
      reads_until_ended = tt;
      turns_until_ended = tt;
      reader_failed = no_fault_of (has_failed reader'') (has_failed reader') (has_failed reader) read_fault progress.reader_failed;
      writer_failed = a_fault_of (has_failed writer'') (has_failed writer') (has_failed writer) write_fault progress.writer_failed;
      too_many = tt;
      at_most = omega arith;
    }
exit_failed TooManyTurns rules limit below later reader'' writer'' progress ongoing fails read_fault write_fault count = absurd fails
exit_failed {p = p} {remaining = remaining} {contents = contents} {reader = reader} {reader' = reader'} {writer = writer} {writer' = writer'} Memory rules limit below later reader'' writer'' progress ongoing fails read_fault write_fault count =
    let so_far = progress.counted in
    record {
      served = tt;
      quit = tt;
      end_of_input = tt;
      prefix = served_failed Memory rules (remaining (tapped_inner reader'')) later (contents (tapped_inner writer'')) progress.served fails;
      interactive = tt;
      all_turns = tt;
      reads_until_ended = tt;
      turns_until_ended = tt;
      reader_failed = no_fault_of (has_failed reader'') (has_failed reader') (has_failed reader) read_fault progress.reader_failed;
      writer_failed = no_fault_of (has_failed writer'') (has_failed writer') (has_failed writer) write_fault progress.writer_failed;
      too_many = tt;
      at_most = omega arith;
    }

-- the input came to its end
pub exit_at_end : {A B : Type 0} {p : Protocol} {remaining : A → Option Octets} {contents : B → Option Octets} {before now : p.State} {kept : Octets} {reader reader' : Tapped A} {writer writer' : Tapped B} {made : ℕ}
    → (ended : Ended) → IsLineProtocol p → (limit : ℕ) → made < limit → (later : p.State) (kept' : Octets) (reader'' : Tapped A) (writer'' : Tapped B)
    → Progress p remaining contents before now kept reader reader' writer writer' made
    → CompletesTurn p false now kept (remaining (tapped_inner reader')) (remaining (tapped_inner reader'')) (contents (tapped_inner writer')) later kept' (contents (tapped_inner writer''))
    → has_failed reader'' ≡ (has_failed reader' || false) → has_failed writer'' ≡ (has_failed writer' || false)
    → read_count reader'' ≡ min (read_count reader' + 1) (2 ^ 64 - 1)
    → ((ended ≡ Quit) ↔ IsTrue (p.has_ended later))
    → ServesWithin p limit (Ok ended) remaining contents before later reader reader'' writer writer''
exit_at_end {reader = reader} {reader' = reader'} {writer = writer} {writer' = writer'} Quit rules limit below later kept' reader'' writer'' progress turn no_read_fault no_write_fault count is_quit =
    let so_far = progress.counted in
    record {
      served = served_end rules progress.served turn;
      quit = is_quit;
      end_of_input = tt;
      prefix = tt;
      interactive = tt;
      all_turns = tt;
      reads_until_ended = tt;
      turns_until_ended = tt;
      reader_failed = no_fault_of (has_failed reader'') (has_failed reader') (has_failed reader) no_read_fault progress.reader_failed;
      writer_failed = no_fault_of (has_failed writer'') (has_failed writer') (has_failed writer) no_write_fault progress.writer_failed;
      too_many = tt;
      at_most = omega arith;
    }
exit_at_end {reader = reader} {reader' = reader'} {writer = writer} {writer' = writer'} EndOfInput rules limit below later kept' reader'' writer'' progress turn no_read_fault no_write_fault count is_quit =
    let so_far = progress.counted in
    record {
      served = served_end rules progress.served turn;
      quit = is_quit;
      end_of_input = turn.ends.1;
      prefix = tt;
      interactive = tt;
      all_turns = tt;
      reads_until_ended = tt;
      turns_until_ended = tt;
      reader_failed = no_fault_of (has_failed reader'') (has_failed reader') (has_failed reader) no_read_fault progress.reader_failed;
      writer_failed = no_fault_of (has_failed writer'') (has_failed writer') (has_failed writer) no_write_fault progress.writer_failed;
      too_many = tt;
      at_most = omega arith;
    }
