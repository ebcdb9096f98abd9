-- The faults of the daemon, and their codes.
use Rattle.std.specs.Prelude.{codes}
use Rattle.sipl_names.specs.Labels.{Octets}
use Rattle.sipl_service.specs.Faults.{service_code}
use Rattle.sipl_daemon.specs.declared.fault.DeskFault.{DeskFault}
use Rattle.sipl_daemon.specs.declared.fault.DeskFault.TheVariants.{AsksOnly, HostTime, NotKept, Service}

-- why a line of a session is refused
abbrev pub desk_code : DeskFault → Octets
desk_code HostTime = codes "D1"
desk_code NotKept = codes "D2"
desk_code AsksOnly = codes "D3"
desk_code (Service fault) = service_code fault
