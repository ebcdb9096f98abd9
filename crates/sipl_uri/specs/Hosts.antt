-- Hosts (RFC 3261, 25.1): the target that a text names, if it is a host.
use Rattle.std.specs.Prelude.{[], ◌∷◌, Option, None, Some, option_map, if◌then◌else◌, ◌==◌}
use Rattle.std.specs.Option.{option_or}
use Rattle.sipl_names.specs.Labels.{Octets}
use Rattle.sipl_names.specs.Hostnames.{hostname_of}
use Rattle.sipl_records.specs.declared.address.Address.TheVariants.{V4, V6}
use Rattle.sipl_records.specs.Ipv4.{number_of_text}
use Rattle.sipl_records.specs.Ipv6.{address6_of_text}
use Rattle.sipl_records.specs.Parts.{split_once}
use Rattle.sipl_uri.specs.declared.question.Target.{Target}
use Rattle.sipl_uri.specs.declared.question.Target.TheVariants.{Numeric, Domain}

-- the text within brackets, if all of it is (91 is `[`, 93 is `]`)
abbrev pub bracketed_text : Octets → Option Octets
bracketed_text [] = None
bracketed_text (c ∷ text) =
    if c == 91
    then elim (split_once 93 text).1 [
      | Some [] ↦ Some (split_once 93 text).0
      | Some (d ∷ after) ↦ None
      | None ↦ None
    ] else None

-- IPv6reference: an IPv6 address in brackets
abbrev pub reference_of : Octets → Option Target
reference_of text =
    elim (bracketed_text text) [
      | Some address ↦ option_map (λ n. Numeric (V6 n)) (address6_of_text address)
      | None ↦ None
    ]

-- a host is an IPv4 address, an IPv6 address in brackets, or a hostname
abbrev pub host_of : Octets → Option Target
host_of text =
    option_or (option_map (λ n. Numeric (V4 n)) (number_of_text text))
    (option_or (reference_of text) (option_map (λ labels. Domain labels) (hostname_of text)))
