-- The grammar of SIP and SIPS URIs (RFC 3261, 25.1): which text asks which question.
--     SIP-URI     = "sip:" [ userinfo "@" ] hostport *( ";" param ) [ "?" headers ]
--     SIPS-URI    = "sips:" [ userinfo "@" ] hostport *( ";" param ) [ "?" headers ]
--     hostport    = host [ ":" port ]
--     host        = hostname / IPv4address / IPv6reference
--     hostname    = *( domainlabel "." ) toplabel [ "." ]
--     port        = 1*DIGIT
--     param       = pname [ "=" pvalue ]
use Rattle.std.specs.Prelude.{◌≡◌, ◌≢◌, ℕ, ◌<◌, ◌≤◌, Bool, true, false, ◌⊎◌, List, [], ◌∷◌, ◌++◌, length, map, Option, None, Some, codes, IsTrue, IsFalse, ◌==◌}
use Rattle.std.specs.List.{AllByRecursion, AllPairs, find, flat_map, list_all, list_any}
use Rattle.std.specs.Str.{str_to_ascii_lowercase, all_ascii_digits}
use Rattle.std.specs.Str.Parse.{digits_value}
use Rattle.sipl_names.specs.Labels.{Octets, Labels, wire_length}
use Rattle.sipl_names.specs.Hostnames.{is_label_octet, begins_with_letter}
use Rattle.sipl_records.specs.declared.address.Address.TheVariants.{V4, V6}
use Rattle.sipl_records.specs.Ipv4.{number_of_text}
use Rattle.sipl_records.specs.Ipv6.{address6_of_text}
use Rattle.sipl_choice.specs.Transports.{transport_text}
use Rattle.sipl_choice.specs.declared.transport.Transport.{Transport}
use Rattle.sipl_uri.specs.declared.question.Question.{Question}
use Rattle.sipl_uri.specs.declared.question.Target.{Target}
use Rattle.sipl_uri.specs.declared.question.Target.TheVariants.{Numeric, Domain}
use Rattle.sipl_uri.specs.UriOctets.{is_free_octet, is_param_octet}
use Rattle.sipl_uri.specs.Params.{Param, same_text}
use Rattle.sipl_uri.specs.Uris.{transport_with}

-- [ part ]: the text is the part, or empty
abbrev pub IsOptional : Octets → Octets → Type 0
IsOptional part text = (text ≡ part) ⊎ (text ≡ [])

-- domainlabel: 1 to 63 octets (RFC 1035, 2.3.4). As an extension, hyphens may be at its ends, and
-- underscores in it
pub record IsDomainLabel (label : Octets) : Type 0 where
  pub nonempty : 0 < length label
  pub short : length label ≤ 63
  pub octets : IsTrue (list_all is_label_octet label)

-- toplabel: a domainlabel that begins with a letter
pub record IsTopLabel (label : Octets) : Type 0 where
  pub domain_label : IsDomainLabel label
  pub letter : IsTrue (begins_with_letter label)

-- domainlabel "."
abbrev pub dotted : Octets → Octets
dotted label = label ++ codes "."

-- hostname: the labels of an absolute name of at most 255 octets (RFC 1035, 2.3.4), in lower case
pub record IsHostname (text : Octets) (labels : Labels) : Type 0 where
  pub domains : List Octets
  pub top : Octets
  pub final : Octets
  pub written : text ≡ flat_map dotted domains ++ top ++ final
  pub domain_labels : AllByRecursion IsDomainLabel domains
  pub top_label : IsTopLabel top
  pub final_dot : IsOptional (codes ".") final
  pub name : labels ≡ map str_to_ascii_lowercase (domains ++ top ∷ [])
  pub short : wire_length labels ≤ 255

-- IPv6reference: "[" IPv6address "]"
pub record IsReference (text : Octets) (number : ℕ) : Type 0 where
  pub address : Octets
  pub written : text ≡ codes "[" ++ address ++ codes "]"
  pub is_address : address6_of_text address ≡ Some number

-- host
abbrev pub IsHost : Octets → Target → Type 0
IsHost text (Numeric (V4 n)) = number_of_text text ≡ Some n
IsHost text (Numeric (V6 n)) = IsReference text n
IsHost text (Domain labels) = IsHostname text labels

-- port: one or more digits, of a value from 1 to 65,535
pub record IsPort (digits : Octets) (port : ℕ) : Type 0 where
  pub nonempty : 0 < length digits
  pub digits_only : IsTrue (all_ascii_digits digits)
  pub value : digits_value 10 digits ≡ port
  pub least : 1 ≤ port
  pub greatest : port ≤ 65535

-- ":" port
pub record IsColonPort (text : Octets) (port : ℕ) : Type 0 where
  pub digits : Octets
  pub written : text ≡ codes ":" ++ digits
  pub is_port : IsPort digits port

-- [ ":" port ]
abbrev pub IsPortPart : Octets → Option ℕ → Type 0
IsPortPart text (Some port) = IsColonPort text port
IsPortPart text None = text ≡ []

-- the scheme, in either case: a question of `sips` asks for security
abbrev pub IsScheme : Octets → Bool → Type 0
IsScheme text false = str_to_ascii_lowercase text ≡ codes "sip"
IsScheme text true = str_to_ascii_lowercase text ≡ codes "sips"

-- userinfo "@": its octets are not looked into
pub record IsUserinfo (text : Octets) : Type 0 where
  pub userinfo : Octets
  pub written : text ≡ userinfo ++ codes "@"
  pub octets : IsTrue (list_all is_free_octet userinfo)

-- [ userinfo "@" ]
abbrev pub IsUserinfoPart : Octets → Type 0
IsUserinfoPart text = IsUserinfo text ⊎ (text ≡ [])

-- "?" headers: their octets are not looked into
pub record IsHeaders (text : Octets) : Type 0 where
  pub headers : Octets
  pub written : text ≡ codes "?" ++ headers
  pub octets : IsTrue (list_all is_free_octet headers)

-- [ "?" headers ]
abbrev pub IsHeadersPart : Octets → Type 0
IsHeadersPart text = IsHeaders text ⊎ (text ≡ [])

-- [ "=" pvalue ]
abbrev pub IsValuePart : Octets → Option Octets → Type 0
IsValuePart text (Some value) = text ≡ codes "=" ++ value
IsValuePart text None = text ≡ []

-- param: a name, which is compared without case, and its value, if it has one
pub record IsParam (text : Octets) (param : Param) : Type 0 where
  pub pname : Octets
  pub rest : Octets
  pub written : text ≡ pname ++ rest
  pub nonempty : 0 < length pname
  pub without_equals : IsFalse (list_any (λ c. c == 61) pname)
  pub octets : IsTrue (list_all is_param_octet text)
  pub name : param.name ≡ str_to_ascii_lowercase pname
  pub value : IsValuePart rest param.value

-- *( ";" param )
abbrev pub AreParams : Octets → List Param → Type 0
AreParams text [] = text ≡ []
AreParams text (param ∷ params) =
    (first : Octets) × (rest : Octets) × (text ≡ codes ";" ++ first ++ rest)
    × IsParam first param × AreParams rest params

-- the parameter of a name, if it is given
abbrev pub param_named : Octets → List Param → Option Param
param_named name params = find (λ param. same_text param.name name) params

-- RFC 3263, 4: the target is that of `maddr`, if it is given, otherwise the host
abbrev pub IsTargetOf : Option Param → Target → Target → Type 0
IsTargetOf None host target = target ≡ host
IsTargetOf (Some maddr) host target =
    (value : Octets) × (maddr.value ≡ Some value) × IsHost value target

-- a `transport` parameter, in either case, and the transport that it means with this security
pub record IsTransport (secure : Bool) (param : Param) (used : Option Transport) : Type 0 where
  pub value : Octets
  pub transport : Transport
  pub given : param.value ≡ Some value
  pub is : str_to_ascii_lowercase value ≡ transport_text transport
  pub allowed : used ≢ None
  pub means : used ≡ transport_with secure transport

-- the transport is that of `transport`, if it is given
abbrev pub IsTransportOf : Bool → Option Param → Option Transport → Type 0
IsTransportOf secure None used = used ≡ None
IsTransportOf secure (Some param) used = IsTransport secure param used

-- SIP-URI and SIPS-URI
pub record IsUri (text : Octets) (question : Question) : Type 0 where
  pub scheme : Octets
  pub userinfo : Octets
  pub host : Octets
  pub port : Octets
  pub params : Octets
  pub headers : Octets
  pub given : List Param
  pub host_target : Target
  pub written : text ≡ scheme ++ codes ":" ++ userinfo ++ host ++ port ++ params ++ headers
  pub is_scheme : IsScheme scheme question.secure
  pub is_userinfo : IsUserinfoPart userinfo
  pub is_host : IsHost host host_target
  pub is_port : IsPortPart port question.port
  pub are_params : AreParams params given
  pub is_headers : IsHeadersPart headers
  pub once : AllPairs (λ a b. a.name ≢ b.name) given
  pub is_target : IsTargetOf (param_named (codes "maddr") given) host_target question.target
  pub is_transport :
      IsTransportOf question.secure (param_named (codes "transport") given) question.transport
