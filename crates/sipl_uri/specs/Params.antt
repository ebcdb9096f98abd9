-- The parameters of a URI (RFC 3261, 19.1.1): what they say, or the first fault.
use Rattle.std.specs.Prelude.{Bool, List, [], ◌∷◌, Option, None, Some, Result, Ok, Err, codes, nat_eq, if◌then◌else◌}
use Rattle.std.specs.List.{list_any}
use Rattle.std.specs.Str.{str_to_ascii_lowercase}
use lib.Pointwise.{pointwise}
use Rattle.sipl_names.specs.Labels.{Octets}
use Rattle.sipl_records.specs.Parts.{split_once}
use Rattle.sipl_choice.specs.declared.transport.Transport.{Transport}
use Rattle.sipl_choice.specs.Transports.{transport_named}
use Rattle.sipl_uri.specs.declared.question.Target.{Target}
use Rattle.sipl_uri.specs.declared.fault.UriFault.{UriFault}
use Rattle.sipl_uri.specs.declared.fault.UriFault.TheVariants.{Characters, Host, Repeated, Transport as BadTransport}
use Rattle.sipl_uri.specs.Hosts.{host_of}

-- a parameter: its name in lower case, and the value after `=`, if it has one
pub record Param : Type 0 where
  pub name : Octets
  pub value : Option Octets

-- the parameter of a text (61 is `=`)
abbrev pub param_of : Octets → Param
param_of text =
    record {
      name = str_to_ascii_lowercase (split_once 61 text).0;
      value = (split_once 61 text).1;
    }

-- what parameters say: their names, the transport, and the target in place of the host
pub record Settings : Type 0 where
  pub names : List Octets
  pub transport : Option Transport
  pub target : Option Target

-- no parameter says anything
abbrev pub no_settings : Settings
no_settings = record { names = []; transport = None; target = None }

-- whether two texts are the same
abbrev pub same_text : Octets → Octets → Bool
same_text = pointwise nat_eq

-- the transport of a value, in either case
abbrev pub transport_of_value : Option Octets → Option Transport
transport_of_value None = None
transport_of_value (Some value) = transport_named (str_to_ascii_lowercase value)

-- the target of a value, which is a host
abbrev pub target_of_value : Option Octets → Option Target
target_of_value None = None
target_of_value (Some value) = host_of value

-- the name is among those of the parameters
abbrev pub with_name : Octets → Settings → Settings
with_name name settings =
    record settings { names = name ∷ settings.names }

-- a transport is given
abbrev pub with_transport : Option Transport → Settings → Result Settings UriFault
with_transport None settings = Err BadTransport
with_transport (Some transport) settings =
    Ok (record settings { transport = Some transport })

-- a target is given
abbrev pub with_target : Option Target → Settings → Result Settings UriFault
with_target None settings = Err Host
with_target (Some target) settings =
    Ok (record settings { target = Some target })

-- the value of a parameter: that of `transport` is one, that of `maddr` a host; others are accepted
abbrev pub take_value : Param → Settings → Result Settings UriFault
take_value param settings =
    if same_text param.name (codes "transport")
    then with_transport (transport_of_value param.value) settings
    else (if same_text param.name (codes "maddr")
    then with_target (target_of_value param.value) settings else Ok settings)

-- one parameter: its name is not empty, and is not that of an earlier one; then its value
abbrev pub take_param : Param → Settings → Result Settings UriFault
take_param param settings =
    elim param.name [
      | [] ↦ Err Characters
      | c ∷ name ↦ if list_any (same_text (c ∷ name)) settings.names then Err Repeated
          else take_value param (with_name (c ∷ name) settings)
    ]

-- parameters from left to right, up to the first fault
abbrev pub take_params : List Octets → Settings → Result Settings UriFault
take_params [] settings = Ok settings
take_params (text ∷ texts) settings =
    elim (take_param (param_of text) settings) [
      | Ok taken ↦ take_params texts taken
      | Err fault ↦ Err fault
    ]
