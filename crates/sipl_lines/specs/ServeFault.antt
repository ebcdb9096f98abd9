-- The faults of serving: their codes, and what a clause says of one of them.
use Rattle.std.specs.Prelude.{Bool, true, false, Result, Ok, Err, codes}
use Rattle.sipl_names.specs.Labels.{Octets}
use Rattle.sipl_lines.specs.declared.server.ServeFault.{ServeFault}
use Rattle.sipl_lines.specs.declared.server.ServeFault.TheVariants.{Read, Write, TooManyTurns, Memory}

-- what programs write on standard error after `fault `
abbrev pub code_of : ServeFault → Octets
code_of Read = codes "read"
code_of Write = codes "write"
code_of TooManyTurns = codes "turns"
code_of Memory = codes "memory"

-- a read failed
abbrev pub is_read_fault : {T : Type 0} → Result T ServeFault → Bool
is_read_fault (Ok value) = false
is_read_fault (Err Read) = true
is_read_fault (Err Write) = false
is_read_fault (Err TooManyTurns) = false
is_read_fault (Err Memory) = false

-- a write failed
abbrev pub is_write_fault : {T : Type 0} → Result T ServeFault → Bool
is_write_fault (Ok value) = false
is_write_fault (Err Read) = false
is_write_fault (Err Write) = true
is_write_fault (Err TooManyTurns) = false
is_write_fault (Err Memory) = false

-- a fact, where a read failed
abbrev pub OnReadFault : {T : Type 0} → Result T ServeFault → Type 0 → Type 0
OnReadFault (Ok value) fact = Unit {0}
OnReadFault (Err Read) fact = fact
OnReadFault (Err Write) fact = Unit {0}
OnReadFault (Err TooManyTurns) fact = Unit {0}
OnReadFault (Err Memory) fact = Unit {0}

-- a fact, where all reads that are allowed were made
abbrev pub OnTooManyTurns : {T : Type 0} → Result T ServeFault → Type 0 → Type 0
OnTooManyTurns (Ok value) fact = Unit {0}
OnTooManyTurns (Err Read) fact = Unit {0}
OnTooManyTurns (Err Write) fact = Unit {0}
OnTooManyTurns (Err TooManyTurns) fact = fact
OnTooManyTurns (Err Memory) fact = Unit {0}
