-- The timers of RFC 3261, section 17.1 and table 4, in milliseconds: T1 is 500, T2 is 4,000 and T4
-- is 5,000.
use Rattle.std.specs.Prelude.{ℕ, ◌+◌, ◌*◌, ◌≤◌, ◌^◌, Bool, true, false, min, Option, Some, None}
use Rattle.sipl_tx.specs.declared.parts.Kind.{Kind}
use Rattle.sipl_tx.specs.declared.parts.Kind.TheVariants.{Invite, Other}
use Rattle.sipl_tx.specs.declared.parts.State.{State}
use Rattle.sipl_tx.specs.declared.parts.State.TheVariants.{Calling, Trying, Proceeding, Completed}

-- how long the timer runs that ends the transaction: B and F 64 * T1, D 32 seconds, K T4
abbrev pub ending_timer : Kind → State → Option ℕ
ending_timer Invite Calling = Some 32000
ending_timer Invite Completed = Some 32000
ending_timer Other Trying = Some 32000
ending_timer Other Proceeding = Some 32000
ending_timer Other Completed = Some 5000
ending_timer _ _ = None

-- timer A runs in Calling, timer E in Trying and Proceeding, each over an unreliable transport only
abbrev pub retransmits : Kind → Bool → State → Bool
retransmits Invite false Calling = true
retransmits Other false Trying = true
retransmits Other false Proceeding = true
retransmits _ _ _ = false

-- the first interval of timers A and E: T1
abbrev pub first_interval : ℕ
first_interval = 500

-- timer A doubles, timer E doubles up to T2 in Trying and is T2 in Proceeding
abbrev pub next_interval : Kind → State → ℕ → ℕ
next_interval Invite _ interval = 2 * interval
next_interval Other Proceeding interval = 4000
next_interval Other _ interval = min (2 * interval) 4000

-- the times of a transaction: no timer counts from a later time than that of the last tick, which
-- is at most 2^52, and the interval of timer A or E fits a u64
pub record AreTimely (moment since sent interval : ℕ) : Type 0 where
  pub since_before : since ≤ moment
  pub sent_before : sent ≤ moment
  pub moment_limit : moment ≤ 2 ^ 52
  pub interval_limit : interval ≤ sent + 4000
