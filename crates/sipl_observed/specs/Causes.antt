-- Why a client has no session, or not any more.
use Rattle.std.specs.Prelude.{ℕ, List, codes}
use Rattle.sipl_observed.specs.declared.cause.Cause.{Cause}
use Rattle.sipl_observed.specs.declared.cause.Cause.TheVariants.{Busy, Threads, Idle, Slow, Http}

-- its name, in the log and in metrics
abbrev pub cause_name : Cause → List ℕ
cause_name Busy = codes "busy"
cause_name Threads = codes "threads"
cause_name Idle = codes "idle"
cause_name Slow = codes "slow"
cause_name Http = codes "http"
