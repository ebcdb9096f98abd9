-- SIP and SIPS URIs (RFC 3261, 19.1.1): the question that a text asks, or its first fault.
use Rattle.std.specs.Prelude.{ℕ, Bool, true, false, ◌&&◌, Option, None, Some, Result, Ok, Err, codes, count_by, nat_le, if◌then◌else◌, ◌==◌}
use Rattle.std.specs.List.{list_all}
use Rattle.std.specs.Option.{is_some, unwrap_or}
use Rattle.std.specs.Str.{str_to_ascii_lowercase}
use Rattle.sipl_names.specs.Labels.{Octets}
use Rattle.sipl_records.specs.Numbers.{number_of}
use Rattle.sipl_records.specs.Parts.{split_once}
use Rattle.sipl_choice.specs.declared.transport.Transport.{Transport}
use Rattle.sipl_choice.specs.declared.transport.Transport.TheVariants.{Udp, Tcp, Tls, Sctp}
use Rattle.sipl_uri.specs.declared.question.Question.{Question}
use Rattle.sipl_uri.specs.declared.question.Target.{Target}
use Rattle.sipl_uri.specs.declared.fault.UriFault.{UriFault}
use Rattle.sipl_uri.specs.declared.fault.UriFault.TheVariants.{Scheme, Characters, Host, Port, SipsTransport}
use Rattle.sipl_uri.specs.UriOctets.{is_uri_octet}
use Rattle.sipl_uri.specs.Hosts.{host_of}
use Rattle.sipl_uri.specs.UriParts.{Parts, parts_of}
use Rattle.sipl_uri.specs.Params.{Settings, no_settings, same_text, take_params}

-- whether the scheme is `sips`: it is `sip` or `sips`, in either case
abbrev pub security_of : Octets → Option Bool
security_of scheme =
    if same_text (str_to_ascii_lowercase scheme) (codes "sip") then Some false
    else (if same_text (str_to_ascii_lowercase scheme) (codes "sips") then Some true else None)

-- a port is a number, here from 1 to 65,535
abbrev pub port_of : Octets → Option ℕ
port_of digits =
    elim (number_of digits 65535) [ Some port ↦ (if port == 0 then None else Some port) | None ↦ None ]

-- the port after the colon, if there is one
abbrev pub port_part : Option Octets → Result (Option ℕ) UriFault
port_part None = Ok None
port_part (Some digits) = elim (port_of digits) [ Some port ↦ Ok (Some port) | None ↦ Err Port ]

-- RFC 3261, 26.2.2: with `sips`, TCP is TLS over TCP; UDP and SCTP cannot be secure here
abbrev pub transport_with : Bool → Transport → Option Transport
transport_with false transport = Some transport
transport_with true Tcp = Some Tls
transport_with true Tls = Some Tls
transport_with true Udp = None
transport_with true Sctp = None

-- the question of a target, a port and a transport, if one is given: its fault is the last
abbrev pub question_over : Bool → Target → Option ℕ → Option Transport
    → Result Question UriFault
question_over secure target port None =
    Ok (record { secure = secure; target = target; port = port; transport = None })
question_over secure target port (Some transport) =
    elim (transport_with secure transport) [
      | Some used ↦
          Ok (record { secure = secure; target = target; port = port; transport = Some used })
      | None ↦ Err SipsTransport
    ]

-- the question of a host and a port with what the parameters say: the target is `maddr`, if it is
-- given, otherwise the host
abbrev pub question_with : Bool → Target → Option ℕ → Settings → Result Question UriFault
question_with secure host port settings =
    question_over secure (unwrap_or settings.target host) port settings.transport

-- the question of a host and a port: the fault of a parameter comes first
abbrev pub question_at : Bool → Target → Option ℕ → Result Settings UriFault
    → Result Question UriFault
question_at secure host port (Err fault) = Err fault
question_at secure host port (Ok settings) = question_with secure host port settings

-- the question of a host: the fault of the port comes first
abbrev pub question_to : Bool → Target → Result (Option ℕ) UriFault → Result Settings UriFault
    → Result Question UriFault
question_to secure host (Err fault) settings = Err fault
question_to secure host (Ok port) settings = question_at secure host port settings

-- the question of the parts of a URI: the fault of the host comes first
abbrev pub question_of_parts : Bool → Parts → Result Question UriFault
question_of_parts secure parts =
    elim (host_of parts.host) [
      | Some host ↦
          question_to secure host (port_part parts.port) (take_params parts.params no_settings)
      | None ↦ Err Host
    ]

-- whether the octets after the scheme's colon are allowed: at most one is `@` (64)
abbrev pub has_allowed_octets : Octets → Bool
has_allowed_octets text = list_all is_uri_octet text && nat_le (count_by (λ c. c == 64) text) 1

-- whether a scheme is one of a URI, and its octets after the colon are allowed
abbrev pub is_scheme_and_octets : Octets × Option Octets → Bool
is_scheme_and_octets (scheme, None) = false
is_scheme_and_octets (scheme, Some text) = is_some (security_of scheme) && has_allowed_octets text

-- whether a text has the scheme of a URI, and after its colon only octets that are allowed
abbrev pub has_scheme_and_octets : Octets → Bool
has_scheme_and_octets uri = is_scheme_and_octets (split_once 58 uri)

-- the question of the text after the scheme's colon: the fault of an octet comes first
abbrev pub question_after_scheme : Bool → Octets → Result Question UriFault
question_after_scheme secure text =
    if has_allowed_octets text then question_of_parts secure (parts_of text) else Err Characters

-- the question of a scheme and the text after its colon (58 is `:`), if there is one
abbrev pub question_of_split : Octets × Option Octets → Result Question UriFault
question_of_split (scheme, None) = Err Scheme
question_of_split (scheme, Some text) =
    elim (security_of scheme) [ Some secure ↦ question_after_scheme secure text | None ↦ Err Scheme ]

-- the question of a URI: the fault of the scheme comes first
abbrev pub question_of : Octets → Result Question UriFault
question_of uri = question_of_split (split_once 58 uri)
