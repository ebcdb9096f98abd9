-- Which NAPTR record decides the transport (RFC 3263, 4.1; RFC 3403, 4.1).
use Rattle.std.specs.Prelude.{ℕ, Bool, true, false, not, ◌||◌, ◌&&◌, List, [], ◌∷◌, length, Option, None, Some, slice_get, codes, nat_eq, nat_lt, if◌then◌else◌, ◌==◌}
use Rattle.std.specs.List.{find, list_all, range_with_len}
use Rattle.std.specs.Str.{str_to_ascii_lowercase}
use lib.Pointwise.{pointwise}
use Rattle.sipl_names.specs.Labels.{Octets, Labels}
use Rattle.sipl_records.specs.declared.data.Data.{Data}
use Rattle.sipl_records.specs.declared.data.Data.TheVariants.{Pointer}
use Rattle.sipl_choice.specs.Abilities.{Client, supports}
use Rattle.sipl_choice.specs.Transports.{same_transport}
use Rattle.sipl_choice.specs.declared.transport.Transport.{Transport}
use Rattle.sipl_choice.specs.declared.transport.Transport.TheVariants.{Udp, Tcp, Tls, Sctp}

-- whether the octets are these in lower case
abbrev pub is_without_case : Octets → Octets → Bool
is_without_case text word = pointwise nat_eq (str_to_ascii_lowercase text) word

-- RFC 3263, 4.1: the transport of a services field, in either case
abbrev pub transport_of_services : Octets → Option Transport
transport_of_services services =
    if is_without_case services (codes "sip+d2u") then Some Udp
    else (if is_without_case services (codes "sip+d2t") then Some Tcp
    else (if is_without_case services (codes "sip+d2s") then Some Sctp
    else (if is_without_case services (codes "sips+d2t") then Some Tls else None)))

-- RFC 3263, 4.1: whether a client may use a transport for a URI: it supports it, and for `sips` it is TLS
abbrev pub is_usable : Bool → Client → Transport → Bool
is_usable secure client transport =
    supports client.preference transport && (not secure || same_transport transport Tls)

-- whether a name is the root
abbrev pub is_root_name : Labels → Bool
is_root_name labels = elim labels [ [] ↦ true | label ∷ others ↦ false ]

-- what a record that applies says: its order and preference, the transport, and the name of the SRV
-- records
pub record Choice : Type 0 where
  pub order : ℕ
  pub preference : ℕ
  pub transport : Transport
  pub replacement : Labels

-- RFC 3403, 4.1: the record is terminal (`s`, in either case), has no regular expression, and its
-- replacement is not the root
abbrev pub is_terminal : Octets → Octets → Labels → Bool
is_terminal flags regexp replacement =
    is_without_case flags (codes "s") && (length regexp == 0) && not (is_root_name replacement)

-- a choice by a transport, if there is one that the client may use
abbrev pub choice_over : Bool → Client → ℕ → ℕ → Labels → Option Transport → Option Choice
choice_over secure client order preference replacement None = None
choice_over secure client order preference replacement (Some transport) =
    if is_usable secure client transport
    then Some (record { order = order; preference = preference; transport = transport; replacement = replacement })
    else None

-- RFC 3263, 4.1: what NAPTR data choose, where they apply
abbrev pub choice_of : Bool → Client → Data → Option Choice
choice_of secure client (Pointer order preference flags services regexp replacement) =
    if is_terminal flags regexp replacement
    then choice_over secure client order preference replacement (transport_of_services services)
    else None
choice_of secure client _ = None

-- RFC 3403, 4.1: a lesser order comes first, and among equal orders a lesser preference
abbrev pub is_before : Choice → Choice → Bool
is_before a b = nat_lt a.order b.order || ((a.order == b.order) && nat_lt a.preference b.preference)

-- the choice of the data at a place
abbrev pub choice_at : Bool → Client → List Data → ℕ → Option Choice
choice_at secure client set place = elim (slice_get set place) [ Some datum ↦ choice_of secure client datum | None ↦ None ]

-- whether no data of the set choose something before this
abbrev pub is_least : Bool → Client → List Data → Choice → Bool
is_least secure client set choice =
    list_all (λ datum. elim (choice_of secure client datum) [ Some other ↦ not (is_before other choice) | None ↦ true ]) set

-- whether the data at a place apply, and none that apply come before them by order and preference
abbrev pub is_chosen : Bool → Client → List Data → ℕ → Bool
is_chosen secure client set place =
    elim (choice_at secure client set place) [ Some choice ↦ is_least secure client set choice | None ↦ false ]

-- the place of the data that are chosen: the first of equal ones
abbrev pub chosen_pointer : Bool → Client → List Data → Option ℕ
chosen_pointer secure client set =
    find (is_chosen secure client set) (range_with_len 0 (length set))

-- what is chosen
abbrev pub chosen : Bool → Client → List Data → Option Choice
chosen secure client set =
    elim (chosen_pointer secure client set) [ Some place ↦ choice_at secure client set place | None ↦ None ]
