-- Why a connection is refused, and the code that is sent.
use Rattle.std.specs.Prelude.{codes, List, ℕ}
use Rattle.sipl_listen.specs.declared.fault.ConnectionFault.{ConnectionFault}
use Rattle.sipl_listen.specs.declared.fault.ConnectionFault.TheVariants.{Busy}

-- why a connection has no session
abbrev pub connection_code : ConnectionFault → List ℕ
connection_code Busy = codes "Busy"
