-- Transports and their ports (RFC 3261, 18 and 19.1.2).
use Rattle.std.specs.Prelude.{ℕ, Bool, true, false, [], ◌∷◌, Option, codes, nat_eq, find}
use lib.Pointwise.{pointwise}
use Rattle.sipl_names.specs.Labels.{Octets}
use Rattle.sipl_choice.specs.declared.transport.Transport.{Transport}
use Rattle.sipl_choice.specs.declared.transport.Transport.TheVariants.{Udp, Tcp, Tls, Sctp}

-- RFC 3261, 19.1.2: 5061 for TLS, else 5060
abbrev pub default_port : Transport → ℕ
default_port Udp = 5060
default_port Tcp = 5060
default_port Tls = 5061
default_port Sctp = 5060

-- RFC 3261, 19.1.1: the transport's name in URIs, lines, replies and settings
abbrev pub transport_text : Transport → Octets
transport_text Udp = codes "udp"
transport_text Tcp = codes "tcp"
transport_text Tls = codes "tls"
transport_text Sctp = codes "sctp"

-- the transport of a name in lower case
abbrev pub transport_named : Octets → Option Transport
transport_named name =
    find (λ transport. pointwise nat_eq name (transport_text transport)) (Udp ∷ Tcp ∷ Tls ∷ Sctp ∷ [])

-- whether two transports are the same
abbrev pub same_transport : Transport → Transport → Bool
same_transport Udp Udp = true
same_transport Tcp Tcp = true
same_transport Tls Tls = true
same_transport Sctp Sctp = true
same_transport _ _ = false
