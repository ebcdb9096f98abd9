-- How a call from C ends: the numbers of `siploc_embedded.h`.
use Rattle.std.specs.Prelude.{ℕ, Result, Ok, Err}
use Rattle.sipl_lines.specs.declared.server.Ended.{Ended}
use Rattle.sipl_lines.specs.declared.server.ServeFault.{ServeFault}
use Rattle.sipl_lines.specs.declared.server.ServeFault.TheVariants as fault
use Rattle.siploc_c.specs.declared.status.Status.{Status}
use Rattle.siploc_c.specs.declared.status.Status.TheVariants.{Done, Read, Write, TooManyTurns, Memory, Settings, NoRoom}

-- the number of a status
abbrev pub number_of : Status → ℕ
number_of Done = 0
number_of Read = 1
number_of Write = 2
number_of TooManyTurns = 3
number_of Memory = 4
number_of Settings = 5
number_of NoRoom = 6

-- the status of a session that has ended so, or was aborted
abbrev pub status_of : Result Ended ServeFault → Status
status_of (Ok ended) = Done
status_of (Err fault.Read) = Read
status_of (Err fault.Write) = Write
status_of (Err fault.TooManyTurns) = TooManyTurns
status_of (Err fault.Memory) = Memory
