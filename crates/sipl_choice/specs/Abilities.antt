-- What a client can do (RFC 3263, 4.1): its transports in the order of preference, and its families.
use Rattle.std.specs.Prelude.{Bool, true, false, ◌||◌, ◌&&◌, List, [], ◌∷◌, Option, None, Some, if◌then◌else◌}
use Rattle.std.specs.List.{list_any}
use lib.Pointwise.{pointwise}
use Rattle.sipl_choice.specs.declared.transport.Transport.{Transport}
use Rattle.sipl_choice.specs.declared.families.Families.{Families}
use Rattle.sipl_choice.specs.declared.families.Families.TheVariants.{V4, V6, V4ThenV6, V6ThenV4}
use Rattle.sipl_choice.specs.declared.fault.AbilitiesFault.{AbilitiesFault}
use Rattle.sipl_choice.specs.declared.fault.AbilitiesFault.TheVariants.{EmptyAbilities, RepeatedTransport}
use Rattle.sipl_choice.specs.Transports.{same_transport}

-- what callers see of a client's abilities
pub record Client : Type 0 where
  pub preference : List Transport
  pub families : Families

-- whether the transport is in the list
abbrev pub supports : List Transport → Transport → Bool
supports preference transport = list_any (same_transport transport) preference

-- whether a transport is in the list twice
abbrev pub repeats_transport : List Transport → Bool
repeats_transport [] = false
repeats_transport (transport ∷ others) = supports others transport || repeats_transport others

-- why the list is invalid as an order of preference
abbrev pub abilities_fault : List Transport → Option AbilitiesFault
abilities_fault [] = Some EmptyAbilities
abilities_fault (transport ∷ others) =
    if repeats_transport (transport ∷ others) then Some RepeatedTransport else None

-- whether two choices of families are the same
abbrev pub same_families : Families → Families → Bool
same_families V4 V4 = true
same_families V6 V6 = true
same_families V4ThenV6 V4ThenV6 = true
same_families V6ThenV4 V6ThenV4 = true
same_families _ _ = false

-- whether two clients have the same transports in the same order, and the same families
abbrev pub same_client : Client → Client → Bool
same_client a b =
    pointwise same_transport a.preference b.preference && same_families a.families b.families
