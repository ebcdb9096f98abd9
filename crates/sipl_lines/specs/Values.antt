-- The values of settings: transports, families, the policy on held endpoints, numbers, and where to
-- listen.
use Rattle.std.specs.Prelude.{ℕ, pos, ◌/◌, ◌&&◌, List, [], ◌∷◌, Option, None, Some, codes, nat_eq, nat_le, is_none, option_and_then, if◌then◌else◌, ◌==◌}
use Rattle.std.specs.Int.{w32, to_be_bytes}
use Rattle.std.specs.declared.net.socket_addr.SocketAddrV4.{SocketAddrV4}
use lib.Pointwise.{pointwise}
use Rattle.toml.specs.Data.{Data, integer, array, as_str, Items, no_items, item}
use Rattle.sipl_names.specs.Labels.{Octets}
use Rattle.sipl_records.specs.Ipv4.{number_of_text}
use Rattle.sipl_records.specs.Numbers.{number_of}
use Rattle.sipl_records.specs.Parts.{split_once}
use Rattle.sipl_choice.specs.declared.transport.Transport.{Transport}
use Rattle.sipl_choice.specs.declared.families.Families.{Families}
use Rattle.sipl_choice.specs.declared.families.Families.TheVariants.{V4, V6, V4ThenV6, V6ThenV4}
use Rattle.sipl_choice.specs.Transports.{transport_named}
use Rattle.sipl_choice.specs.Abilities.{abilities_fault}
use Rattle.sipl_outages.specs.declared.held.Held.{Held}
use Rattle.sipl_outages.specs.declared.held.Held.TheVariants.{Out, Last}

-- a number that is not negative
abbrev pub number_in : Data → Option ℕ
number_in (integer (pos n)) = Some n
number_in _ = None

-- a number from low to high
abbrev pub number_from : ℕ → ℕ → Data → Option ℕ
number_from low high d =
    option_and_then (λ n. if nat_le low n && nat_le n high then Some n else None) (number_in d)

-- a transport by its name
abbrev pub transport_in : Data → Option Transport
transport_in d = option_and_then transport_named (as_str d)

-- the transport, and those after it
abbrev pub with_first : Option Transport → Option (List Transport) → Option (List Transport)
with_first (Some transport) (Some others) = Some (transport ∷ others)
with_first _ _ = None

-- the transports of a list, which may be empty or repeat one
abbrev pub transports_named : Items → Option (List Transport)
transports_named no_items = Some []
transports_named (item d ds) = with_first (transport_in d) (transports_named ds)

abbrev pub transports_listed : Data → Option (List Transport)
transports_listed (array ds) = transports_named ds
transports_listed _ = None

-- a list of transports, not empty and none twice
abbrev pub transports_in : Data → Option (List Transport)
transports_in d =
    option_and_then (λ ts. if is_none (abilities_fault ts) then Some ts else None) (transports_listed d)

-- the families of addresses by their word
abbrev pub families_named : Octets → Option Families
families_named word =
    if pointwise nat_eq word (codes "v4") then Some V4
    else (if pointwise nat_eq word (codes "v6") then Some V6
    else (if pointwise nat_eq word (codes "v4v6") then Some V4ThenV6
    else (if pointwise nat_eq word (codes "v6v4") then Some V6ThenV4 else None)))

abbrev pub families_in : Data → Option Families
families_in d = option_and_then families_named (as_str d)

-- the policy on held endpoints, by its word
abbrev pub held_named : Octets → Option Held
held_named word =
    if pointwise nat_eq word (codes "out") then Some Out
    else (if pointwise nat_eq word (codes "last") then Some Last else None)

abbrev pub held_in : Data → Option Held
held_in d = option_and_then held_named (as_str d)

-- the socket address of four octets and a port
abbrev pub socket : List ℕ → ℕ → SocketAddrV4
socket octets port = record { ip = record { octets = octets }; port = port }

-- an address in 127.0.0.0/8 and a port from 1 to 65,535
abbrev pub loopback_at : Option ℕ → Option ℕ → Option SocketAddrV4
loopback_at (Some address) (Some port) =
    if (address / 16777216 == 127) && nat_le 1 port then Some (socket (to_be_bytes w32 address) port) else None
loopback_at _ _ = None

-- `ADDRESS:PORT`
abbrev pub listen_at : Octets → Option SocketAddrV4
listen_at text =
    loopback_at (number_of_text (split_once 58 text).0)
    (option_and_then (λ digits. number_of digits 65535) (split_once 58 text).1)

abbrev pub listen_in : Data → Option SocketAddrV4
listen_in d = option_and_then listen_at (as_str d)
