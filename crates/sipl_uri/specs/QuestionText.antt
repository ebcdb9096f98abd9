-- Questions as URIs (RFC 3261, 19.1.1).
use Rattle.std.specs.Prelude.{◌≡◌, ℕ, ◌≤◌, Bool, true, false, [], ◌++◌, Option, None, Some, codes, decimal, IsTrue, IfSome}
use Rattle.std.specs.List.{AllByRecursion, list_all}
use Rattle.sipl_names.specs.Labels.{Octets, Labels, IsName}
use Rattle.sipl_names.specs.NamePrint.{text_of}
use Rattle.sipl_names.specs.Hostnames.{is_label_octet, has_alphabetic_top}
use Rattle.sipl_records.specs.Addresses.{IsAddress, text_of_address}
use Rattle.sipl_records.specs.declared.address.Address.TheVariants.{V4, V6}
use Rattle.sipl_choice.specs.Transports.{transport_text}
use Rattle.sipl_choice.specs.declared.transport.Transport.{Transport}
use Rattle.sipl_choice.specs.declared.transport.Transport.TheVariants.{Tls}
use Rattle.sipl_uri.specs.declared.question.Question.{Question}
use Rattle.sipl_uri.specs.declared.question.Target.{Target}
use Rattle.sipl_uri.specs.declared.question.Target.TheVariants.{Numeric, Domain}

-- the scheme and its colon
abbrev pub scheme_text : Bool → Octets
scheme_text false = codes "sip:"
scheme_text true = codes "sips:"

-- a host: an IPv6 address is in brackets, a name has its final dot
abbrev pub host_text : Target → Octets
host_text (Numeric (V4 n)) = text_of_address (V4 n)
host_text (Numeric (V6 n)) = codes "[" ++ text_of_address (V6 n) ++ codes "]"
host_text (Domain labels) = text_of labels

-- the port after its colon, if there is one
abbrev pub port_text : Option ℕ → Octets
port_text None = []
port_text (Some port) = codes ":" ++ decimal port

-- the transport parameter, if there is one
abbrev pub transport_param : Option Transport → Octets
transport_param None = []
transport_param (Some transport) = codes ";transport=" ++ transport_text transport

-- the text of a question
abbrev pub question_text : Question → Octets
question_text question =
    scheme_text question.secure ++ host_text question.target ++ port_text question.port
    ++ transport_param question.transport

-- a name that a hostname can give: its labels are of letters, digits, `-` and `_`, and the one next
-- to the root begins with a letter
pub record IsHostnameLabels (labels : Labels) : Type 0 where
  pub name : IsName labels
  pub octets : AllByRecursion (λ label. IsTrue (list_all is_label_octet label)) labels
  pub top : IsTrue (has_alphabetic_top labels)

-- a target that a host can give
abbrev pub IsHostTarget : Target → Type 0
IsHostTarget (Numeric address) = IsAddress address
IsHostTarget (Domain labels) = IsHostnameLabels labels

-- a question that a URI can ask: with `sips`, the only transport is TLS
pub record IsAskable (question : Question) : Type 0 where
  pub target : IsHostTarget question.target
  pub port : IfSome question.port (λ port. (1 ≤ port) × (port ≤ 65535))
  pub transport : IsTrue question.secure → IfSome question.transport (λ used. used ≡ Tls)
