-- Names of services (RFC 2782, "Name"; RFC 3263, 4.1).
use Rattle.std.specs.Prelude.{[], ◌∷◌, Option, None, Some, Ok, Err, codes}
use Rattle.sipl_names.specs.Labels.{Labels, prefixed_of}
use Rattle.sipl_choice.specs.declared.transport.Transport.{Transport}
use Rattle.sipl_choice.specs.declared.transport.Transport.TheVariants.{Udp, Tcp, Tls, Sctp}

-- the service and the protocol of a transport
abbrev pub service_labels : Transport → Labels
service_labels Udp = codes "_sip" ∷ codes "_udp" ∷ []
service_labels Tcp = codes "_sip" ∷ codes "_tcp" ∷ []
service_labels Tls = codes "_sips" ∷ codes "_tcp" ∷ []
service_labels Sctp = codes "_sip" ∷ codes "_sctp" ∷ []

-- the name of the SRV records of a target and a transport, if it is not too long
abbrev pub service_name_of : Labels → Transport → Option Labels
service_name_of target transport =
    elim (prefixed_of (service_labels transport) target) [ Ok name ↦ Some name | Err fault ↦ None ]
