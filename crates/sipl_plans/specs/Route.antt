-- Where a request is sent: the transport, and the servers with their addresses (RFC 3263, 4). Each
-- step is a computation that asks for record sets; the route and the keys that it reads both follow.
use Rattle.std.specs.Prelude.{ℕ, Bool, true, false, not, List, [], ◌∷◌, ◌++◌, filter, Option, None, Some, if◌then◌else◌}
use Rattle.std.specs.List.{filter_map}
use Rattle.sipl_names.specs.Labels.{Labels}
use Rattle.sipl_records.specs.Sets.{same_key}
use Rattle.sipl_records.specs.Unique.{unique}
use Rattle.sipl_records.specs.declared.address.Address.{Address}
use Rattle.sipl_records.specs.declared.address.Address.TheVariants.{V4 as v4, V6 as v6}
use Rattle.sipl_records.specs.declared.data.Data.{Data}
use Rattle.sipl_records.specs.declared.data.Data.TheVariants.{Address4 as data_address4, Address6 as data_address6}
use Rattle.sipl_records.specs.declared.kind.Kind.{Kind}
use Rattle.sipl_records.specs.declared.kind.Kind.TheVariants.{Service, Pointer}
use Rattle.sipl_records.specs.declared.record.Key.{Key}
use Rattle.sipl_choice.specs.Abilities.{Client, supports}
use Rattle.sipl_choice.specs.FamilyKinds.{address_kinds}
use Rattle.sipl_choice.specs.Pointers.{Choice, chosen}
use Rattle.sipl_choice.specs.ServiceNames.{service_name_of}
use Rattle.sipl_choice.specs.Transports.{default_port, same_transport}
use Rattle.sipl_choice.specs.declared.transport.Transport.{Transport}
use Rattle.sipl_choice.specs.declared.transport.Transport.TheVariants.{Udp, Tls}
use Rattle.sipl_srv.specs.Offers.{offer_of}
use Rattle.sipl_srv.specs.declared.pick.Pick.{Pick}
use Rattle.sipl_srv.specs.declared.pick.Offer.{Offer}
use Rattle.sipl_srv.specs.declared.pick.Offer.TheVariants.{Nothing, Closed, Picks}
use Rattle.sipl_evidence.specs.Looks.{Look, Asking, done, and_then, result_of, asked}
use Rattle.sipl_evidence.specs.Answers.{asking}
use Rattle.sipl_uri.specs.declared.question.Question.{Question}
use Rattle.sipl_uri.specs.declared.question.Target.TheVariants.{Numeric, Domain}
use Rattle.sipl_plans.specs.declared.answer.Reason.TheVariants.{NotAvailable, NoTransport}
use Rattle.sipl_plans.specs.declared.layout.Layout.{Layout}
use Rattle.sipl_plans.specs.declared.layout.Layout.TheVariants.{Refused, Servers}
use Rattle.sipl_plans.specs.declared.layout.Source.{Source}

-- the address of A or AAAA data
abbrev pub address_of_data : Data → Option Address
address_of_data (data_address4 n) = Some (v4 n)
address_of_data (data_address6 n) = Some (v6 n)
address_of_data _ = None

-- RFC 3263, 4.2: a name's addresses of these kinds, one kind after the other
abbrev pub asking_addresses : List Kind → Labels → Asking (List Address)
asking_addresses [] name = done []
asking_addresses (kind ∷ kinds) name =
    and_then (asking name kind) (λ set.
    and_then (asking_addresses kinds name) (λ others.
    done (filter_map address_of_data set ++ others)))

-- a name's addresses, where this is known of the records
abbrev pub addresses : Look → List Kind → Labels → List Address
addresses look kinds name = result_of look (asking_addresses kinds name)

-- RFC 2782: what the SRV records of a name offer; a name that is too long has none, and nothing is read
abbrev pub asking_offer : Option Labels → Asking Offer
asking_offer None = done Nothing
asking_offer (Some name) = and_then (asking name Service) (λ set. done (offer_of set))

-- what the SRV records of a name offer, where this is known of the records
abbrev pub offer_at : Look → Option Labels → Offer
offer_at look name = result_of look (asking_offer name)

-- the server of a pick, at these addresses
abbrev pub source_of : Pick → List Address → Source
source_of pick found =
    record { priority = pick.priority; weight = pick.weight; port = pick.port; addresses = found }

-- RFC 3263, 4.2: the servers of picks, in the order of the set, with the addresses of their targets
abbrev pub asking_sources : List Kind → List Pick → Asking (List Source)
asking_sources kinds [] = done []
asking_sources kinds (pick ∷ picks) =
    and_then (asking_addresses kinds pick.target) (λ found.
    and_then (asking_sources kinds picks) (λ others. done (source_of pick found ∷ others)))

-- the servers of picks, where this is known of the records
abbrev pub sources : Look → List Kind → List Pick → List Source
sources look kinds picks = result_of look (asking_sources kinds picks)

-- the servers of picks over a transport
abbrev pub asking_served : Client → Transport → List Pick → Asking Layout
asking_served client transport picks =
    and_then (asking_sources (address_kinds client.families) picks)
    (λ servers. done (Servers transport servers))

-- RFC 3263, 4.2: one server, at these addresses and one port
abbrev pub sole_server : Transport → ℕ → List Address → Layout
sole_server transport port found =
    Servers transport (record { priority = 0; weight = 0; port = port; addresses = found } ∷ [])

-- a domain itself, at one port, as the only pick
abbrev pub sole_pick : ℕ → Labels → Pick
sole_pick port name = record { priority = 0; weight = 0; port = port; target = name }

-- RFC 3263, 4.2: the addresses of a domain at one port
abbrev pub asking_own : Client → Transport → ℕ → Labels → Asking Layout
asking_own client transport port name = asking_served client transport (sole_pick port name ∷ [])

-- RFC 3263, 4.1: UDP for `sip` and TLS for `sips`, where nothing else decides
abbrev pub default_transport : Bool → Transport
default_transport secure = if secure then Tls else Udp

-- RFC 3263, 4.1: the transport that the URI gives, else that of the scheme
abbrev pub transport_of : Question → Transport
transport_of question = elim question.transport [
  | Some transport ↦ transport
  | None ↦ default_transport question.secure
]

-- RFC 3263, 4.2: the port that the URI gives, else that of the transport
abbrev pub port_of : Question → Transport → ℕ
port_of question transport = elim question.port [ Some port ↦ port | None ↦ default_port transport ]

-- RFC 3263, 4.1: what follows over a transport that the client supports, else `NoTransport`
abbrev pub asking_over : Client → Transport → Asking Layout → Asking Layout
asking_over client transport next =
    if supports client.preference transport then next else done (Refused NoTransport)

-- RFC 3263, 4.2: what an offer leads to: its picks, or that it is not available, or without records
-- the addresses of the domain at the default port
abbrev pub asking_offered : Client → Labels → Transport → Offer → Asking Layout
asking_offered client name transport (Picks picks) = asking_served client transport picks
asking_offered client name transport Closed = done (Refused NotAvailable)
asking_offered client name transport Nothing =
    asking_own client transport (default_port transport) name

-- RFC 3263, 4.1: whether a transport is tried where nothing chooses one: TLS for `sips`, and every
-- other for `sip`
abbrev pub is_tried : Bool → Transport → Bool
is_tried secure transport =
    if secure then same_transport transport Tls else not (same_transport transport Tls)

-- RFC 3263, 4.1 and 4.2: no transport has picks: the service is not available where it is closed
-- over one of them, else the addresses of the domain are used, over the transport of the scheme
abbrev pub asking_unserved : Client → Labels → Bool → Bool → Asking Layout
asking_unserved client name secure true = done (Refused NotAvailable)
asking_unserved client name secure false =
    let transport = default_transport secure in
    asking_over client transport (asking_own client transport (default_port transport) name)

-- RFC 3263, 4.1: what an offer over one of the client's transports leads to: its picks, or else what
-- the later ones offer; and whether one of the services was closed
abbrev pub asking_tried : Client → Transport → (Bool → Asking Layout) → Bool → Offer → Asking Layout
asking_tried client transport later closed (Picks picks) = asking_served client transport picks
asking_tried client transport later closed Closed = later true
asking_tried client transport later closed Nothing = later closed

-- RFC 3263, 4.1: the first of the transports with picks; and whether one before it was closed
abbrev pub asking_services : Client → Labels → Bool → Bool → List Transport → Asking Layout
asking_services client name secure closed [] = asking_unserved client name secure closed
asking_services client name secure closed (transport ∷ others) =
    and_then (asking_offer (service_name_of name transport))
    (asking_tried client transport (λ now. asking_services client name secure now others) closed)

-- RFC 3263, 4.1: the service of the NAPTR record that is chosen, else of the client's transports
abbrev pub asking_chosen : Client → Labels → Bool → Option Choice → Asking Layout
asking_chosen client name secure (Some choice) =
    and_then (asking_offer (Some choice.replacement)) (asking_offered client name choice.transport)
asking_chosen client name secure None =
    asking_services client name secure false (filter (is_tried secure) client.preference)

-- RFC 3263, 4: the route to a domain name: with a port its addresses; else with a transport what is
-- offered over it; else what NAPTR records or the client's transports lead to
abbrev pub asking_domain : Client → Labels → Question → Asking Layout
asking_domain client name question = elim question.port [
  | Some port ↦ let transport = transport_of question in
      asking_over client transport (asking_own client transport port name)
  | None ↦ elim question.transport [
    | Some transport ↦ asking_over client transport
        (and_then (asking_offer (service_name_of name transport)) (asking_offered client name transport))
    | None ↦ and_then (asking name Pointer)
        (λ set. asking_chosen client name question.secure (chosen question.secure client set))
  ]
]

-- RFC 3263, 4.1 and 4.2: a numeric target is its own address; nothing is read
abbrev pub asking_numeric : Client → Question → Address → Asking Layout
asking_numeric client question address =
    let transport = transport_of question in
    asking_over client transport
    (done (sole_server transport (port_of question transport) (address ∷ [])))

-- RFC 3263, 4: the route of a question
abbrev pub asking_route : Question → Client → Asking Layout
asking_route question client = elim question.target [
  | Numeric address ↦ asking_numeric client question address
  | Domain name ↦ asking_domain client name question
]

-- RFC 3263, 4: the route, where this is known of the records
abbrev pub route : Look → Question → Client → Layout
route look question client = result_of look (asking_route question client)

-- the keys that the route looks at, in order, each at its first place
abbrev pub reads : Look → Question → Client → List Key
reads look question client = unique same_key (asked look (asking_route question client))
