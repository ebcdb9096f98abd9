-- A route has few servers, each with few addresses, where each set has at most 32 data.
use Rattle.std.proofs.Common.{◌≡◌, ℕ, zero, suc, ◌*◌, ◌≤◌, Bool, true, false, not, List, [], ◌∷◌, length, length-append, filter, Option, None, Some, refl, sym, ap, subst, ◌∙◌, inl, inr, arith}
use Rattle.std.specs.List.{All, cons_option, filter_map, list_all}
use Rattle.std.proofs.lemmas.Bool.{cases_Bool}
use Rattle.std.proofs.lemmas.List.Elements.{All-nil, All-cons}
use Rattle.std.proofs.lemmas.List.Sums.{length-filter, count_by-le-length}
use Rattle.sipl_names.specs.Labels.{Labels, wildcard_at}
use Rattle.sipl_records.specs.declared.address.Address.{Address}
use Rattle.sipl_records.specs.declared.data.Data.{Data}
use Rattle.sipl_records.specs.declared.kind.Kind.{Kind}
use Rattle.sipl_records.specs.declared.kind.Kind.TheVariants.{Service, Pointer, Alias, Exists}
use Rattle.sipl_records.specs.declared.record.Key.{Key}
use Rattle.sipl_choice.specs.Abilities.{Client, supports}
use Rattle.sipl_choice.specs.FamilyKinds.{address_kinds}
use Rattle.sipl_choice.specs.Pointers.{Choice, chosen}
use Rattle.sipl_choice.specs.ServiceNames.{service_name_of}
use Rattle.sipl_choice.specs.Transports.{default_port}
use Rattle.sipl_choice.specs.declared.families.Families.{Families}
use Rattle.sipl_choice.specs.declared.families.Families.TheVariants.{V4, V6, V4ThenV6, V6ThenV4}
use Rattle.sipl_choice.specs.declared.transport.Transport.{Transport}
use Rattle.sipl_srv.specs.Offers.{pick_of, is_unavailable, offer_of_picks}
use Rattle.sipl_srv.specs.declared.pick.Pick.{Pick}
use Rattle.sipl_srv.specs.declared.pick.Offer.{Offer}
use Rattle.sipl_srv.specs.declared.pick.Offer.TheVariants.{Nothing, Closed, Picks}
use Rattle.sipl_evidence.specs.Looks.{Look, key, Asking, done, and_then, result_of}
use Rattle.sipl_evidence.specs.Answers.{Next, answer, answering, asking, asking_within, at_alias, at_encloser, at_name, at_source, first_target, max_aliases, max_ancestors, unless_exists}
use Rattle.sipl_evidence.proofs.Public.{result_of-and_then}
use Rattle.sipl_uri.specs.declared.question.Question.{Question}
use Rattle.sipl_uri.specs.declared.question.Target.{Target}
use Rattle.sipl_uri.specs.declared.question.Target.TheVariants.{Numeric, Domain}
use Rattle.sipl_plans.specs.Route.{address_of_data, addresses, asking_offer, offer_at, source_of, sources, asking_served, asking_own, sole_pick, default_transport, transport_of, port_of, sole_server, asking_over, asking_offered, is_tried, asking_unserved, asking_tried, asking_services, asking_chosen, asking_domain, asking_numeric, route}
use Rattle.sipl_plans.specs.Servers.{HasFewServers}
use Rattle.sipl_plans.specs.declared.layout.Layout.{Layout}
use Rattle.sipl_plans.specs.declared.layout.Source.{Source}
use Rattle.sipl_plans.proofs.Equations.{addresses_cons, offer_at_some, sources_cons, served_is}

length-filter_map : {X Y : Type 0} (f : X → Option Y) (xs : List X) → length (filter_map f xs) ≤ length xs
length-filter_map f [] = omega arith
length-filter_map {Y = Y} f (x ∷ xs) = from (f x) (length-filter_map f xs)
  where
    from : (o : Option Y) → length (filter_map f xs) ≤ length xs → length (cons_option o (filter_map f xs)) ≤ suc (length xs)
    from None few = omega arith
    from (Some y) few = omega arith

-- an offer has at most 32 picks
abbrev pub IsFew : Offer → Type 0
IsFew offer = (picks : List Pick) → offer ≡ Picks picks → length picks ≤ 32

offer_of_picks-few : (all : List Pick) → length all ≤ 32 → IsFew (offer_of_picks all)
offer_of_picks-few [] few picks is = let never : Nothing ≡ Picks picks = is in cc
offer_of_picks-few (pick ∷ all) few picks is = elim (cases_Bool (list_all is_unavailable (pick ∷ all))) [
  | inl closed ↦ let never : Closed ≡ Picks picks = rw closed at is in cc
  | inr open' ↦
      let own : Picks (filter (λ p. not (is_unavailable p)) (pick ∷ all)) ≡ Picks picks = rw open' at is in
      let same : filter (λ p. not (is_unavailable p)) (pick ∷ all) ≡ picks = cc in
      omega (arith, few, ap length same, length-filter (λ p. not (is_unavailable p)) (pick ∷ all), count_by-le-length (λ p. not (is_unavailable p)) (pick ∷ all))
]

-- addresses of at most two kinds
pub length-address_kinds : (families : Families) → length (address_kinds families) ≤ 2
length-address_kinds V4 = omega arith
length-address_kinds V6 = omega arith
length-address_kinds V4ThenV6 = omega arith
length-address_kinds V6ThenV4 = omega arith

module _ (look : Look) (few : (k : Key) → length (look k) ≤ 32) where
  -- an answer is one of the sets, or nothing
  abbrev HasFew : Asking (List Data) → Type 0
  HasFew asking = length (result_of look asking) ≤ 32

  abbrev HasFewAt : Next → Type 0
  HasFewAt None = Unit {0}
  HasFewAt (Some next) = (target : Labels) → HasFew (next target)

  alias-few : (next : Next) (name : Labels) (otherwise : Asking (List Data)) → HasFewAt next → HasFew otherwise → HasFew (at_alias next name otherwise)
  alias-few None name otherwise targets rest = rest
  alias-few (Some next) name otherwise targets rest = by (first_target (look (key name Alias)))
    where
      by : (target : Option Labels) → length (result_of look (elim target as (λ _. Asking (List Data)) [ Some target ↦ next target | None ↦ otherwise ])) ≤ 32
      by None = rest
      by (Some target) = targets target

  name-few : (next : Next) (kind : Kind) (name : Labels) (otherwise : Asking (List Data)) → HasFewAt next → HasFew otherwise → HasFew (at_name next kind name otherwise)
  name-few next kind name otherwise targets rest = by (look (key name kind)) (few (key name kind))
    where
      by : (set : List Data) → length set ≤ 32 → length (result_of look (elim set as (λ _. Asking (List Data)) [ datum ∷ others ↦ done (datum ∷ others) | [] ↦ at_alias next name otherwise ])) ≤ 32
      by [] own = alias-few next name otherwise targets rest
      by (datum ∷ others) own = own

  encloser-few : (ancestors : ℕ) (name : Labels) (next : Labels → Asking (List Data)) → ((encloser : Labels) → HasFew (next encloser)) → HasFew (at_encloser ancestors name next)
  encloser-few zero name next enclosers = omega arith
  encloser-few (suc more) [] next enclosers = omega arith
  encloser-few (suc more) (label ∷ parent) next enclosers = by (look (key parent Exists)) (encloser-few more parent next enclosers)
    where
      by : (found : List Data) → HasFew (at_encloser more parent next) → length (result_of look (elim found as (λ _. Asking (List Data)) [ datum ∷ others ↦ next parent | [] ↦ at_encloser more parent next ])) ≤ 32
      by [] rest = rest
      by (datum ∷ others) rest = enclosers parent

  unless_exists-few : (ancestors : ℕ) (name : Labels) (next : Labels → Asking (List Data)) → ((encloser : Labels) → HasFew (next encloser)) → HasFew (unless_exists ancestors name next)
  unless_exists-few ancestors name next enclosers = by (look (key name Exists))
    where
      by : (found : List Data) → length (result_of look (elim found as (λ _. Asking (List Data)) [ datum ∷ others ↦ done [] | [] ↦ at_encloser ancestors name next ])) ≤ 32
      by [] = encloser-few ancestors name next enclosers
      by (datum ∷ others) = omega arith

  answering-few : (ancestors : ℕ) (next : Next) (kind : Kind) (name : Labels) → HasFewAt next → HasFew (answering ancestors next kind name)
  answering-few ancestors next kind name targets =
      name-few next kind name (unless_exists ancestors name (at_source next kind)) targets
      (unless_exists-few ancestors name (at_source next kind) (λ encloser. name-few next kind (wildcard_at encloser) (done []) targets (omega arith)))

  within-few : (ancestors left : ℕ) (name : Labels) (kind : Kind) → HasFew (asking_within ancestors left name kind)
  within-few ancestors zero name kind = answering-few ancestors None kind name tt
  within-few ancestors (suc left) name kind =
      answering-few ancestors (Some (λ target. asking_within ancestors left target kind)) kind name (λ target. within-few ancestors left target kind)

  answer-few : (name : Labels) (kind : Kind) → length (answer look name kind) ≤ 32
  answer-few name kind = within-few max_ancestors max_aliases name kind

  addresses-few : (kinds : List Kind) (name : Labels) → length (addresses look kinds name) ≤ length kinds * 32
  addresses-few [] name = omega arith
  addresses-few (kind ∷ kinds) name =
      let here : List Address = filter_map address_of_data (answer look name kind) in
      let others : List Address = addresses look kinds name in
      omega (arith, ap length (addresses_cons look kind kinds name), length-append here others, length-filter_map address_of_data (answer look name kind), answer-few name kind, addresses-few kinds name)

  pub offer_at-few : (name : Option Labels) → IsFew (offer_at look name)
  offer_at-few None = λ picks is. let never : Nothing ≡ Picks picks = is in cc
  offer_at-few (Some name) =
      let set : List Data = answer look name Service in
      subst IsFew (sym (offer_at_some look name))
      (offer_of_picks-few (filter_map pick_of set) (omega (arith, length-filter_map pick_of set, answer-few name Service)))

  length-sources : (kinds : List Kind) (picks : List Pick) → length (sources look kinds picks) ≡ length picks
  length-sources kinds [] = refl
  length-sources kinds (pick ∷ picks) = ap length (sources_cons look kinds pick picks) ∙ ap suc (length-sources kinds picks)

  sources-addresses : (kinds : List Kind) → length kinds ≤ 2 → (picks : List Pick) → All (λ server. length server.addresses ≤ 64) (sources look kinds picks)
  sources-addresses kinds two [] = All-nil (λ (server : Source). length server.addresses ≤ 64)
  sources-addresses kinds two (pick ∷ picks) =
      let server : Source = source_of pick (addresses look kinds pick.target) in
      subst (All (λ server. length server.addresses ≤ 64)) (sym (sources_cons look kinds pick picks))
      (All-cons (λ server. length server.addresses ≤ 64) server (sources look kinds picks)
      (omega (arith, two, addresses-few kinds pick.target)) (sources-addresses kinds two picks))

  module _ (client : Client) where
    served-few : (transport : Transport) (picks : List Pick) → length picks ≤ 32 → HasFewServers (result_of look (asking_served client transport picks))
    served-few transport picks some =
        let kinds : List Kind = address_kinds client.families in
        subst HasFewServers (sym (served_is look client transport picks))
        (record { servers = omega (arith, some, length-sources kinds picks); addresses = sources-addresses kinds (length-address_kinds client.families) picks })

    own-few : (transport : Transport) (port : ℕ) (name : Labels) → HasFewServers (result_of look (asking_own client transport port name))
    own-few transport port name = served-few transport (sole_pick port name ∷ []) (omega arith)

    over-few : (transport : Transport) (next : Asking Layout) → HasFewServers (result_of look next) → HasFewServers (result_of look (asking_over client transport next))
    over-few transport next own = elim (cases_Bool (supports client.preference transport)) [
      | inl supported ↦ rw supported own
      | inr other ↦ rw other tt
    ]

    offered-few : (name : Labels) (transport : Transport) (offer : Offer) → IsFew offer → HasFewServers (result_of look (asking_offered client name transport offer))
    offered-few name transport (Picks picks) own = served-few transport picks (own picks refl)
    offered-few name transport Closed own = tt
    offered-few name transport Nothing own = own-few transport (default_port transport) name

    -- what follows an offer
    after_offer-few : (name : Option Labels) (next : Offer → Asking Layout) → ((offer : Offer) → IsFew offer → HasFewServers (result_of look (next offer))) → HasFewServers (result_of look (and_then (asking_offer name) next))
    after_offer-few name next own =
        subst HasFewServers (sym (result_of-and_then look (asking_offer name) next)) (own (offer_at look name) (offer_at-few name))

    unserved-few : (name : Labels) (secure closed : Bool) → HasFewServers (result_of look (asking_unserved client name secure closed))
    unserved-few name secure true = tt
    unserved-few name secure false = over-few (default_transport secure) _ (own-few (default_transport secure) (default_port (default_transport secure)) name)

    tried-few : (transport : Transport) (later : Bool → Asking Layout) → ((now : Bool) → HasFewServers (result_of look (later now))) → (closed : Bool) (offer : Offer) → IsFew offer → HasFewServers (result_of look (asking_tried client transport later closed offer))
    tried-few transport later rest closed (Picks picks) own = served-few transport picks (own picks refl)
    tried-few transport later rest closed Closed own = rest true
    tried-few transport later rest closed Nothing own = rest closed

    services-few : (name : Labels) (secure closed : Bool) (transports : List Transport) → HasFewServers (result_of look (asking_services client name secure closed transports))
    services-few name secure closed [] = unserved-few name secure closed
    services-few name secure closed (transport ∷ others) =
        after_offer-few (service_name_of name transport) _
        (tried-few transport (λ now. asking_services client name secure now others) (λ now. services-few name secure now others) closed)

    chosen-few : (name : Labels) (secure : Bool) (choice : Option Choice) → HasFewServers (result_of look (asking_chosen client name secure choice))
    chosen-few name secure (Some choice) = after_offer-few (Some choice.replacement) _ (offered-few name choice.transport)
    chosen-few name secure None = services-few name secure false (filter (is_tried secure) client.preference)

    domain-few : (name : Labels) (question : Question) → HasFewServers (result_of look (asking_domain client name question))
    domain-few name question = at question.port
      where
        over : (transport : Option Transport) → HasFewServers (result_of look (elim transport as (λ _. Asking Layout) [
          | Some transport ↦ asking_over client transport (and_then (asking_offer (service_name_of name transport)) (asking_offered client name transport))
          | None ↦ and_then (asking name Pointer) (λ set. asking_chosen client name question.secure (chosen question.secure client set))
        ]))
        over (Some transport) = over-few transport _ (after_offer-few (service_name_of name transport) _ (offered-few name transport))
        over None =
            subst HasFewServers (sym (result_of-and_then look (asking name Pointer) (λ set. asking_chosen client name question.secure (chosen question.secure client set))))
            (chosen-few name question.secure (chosen question.secure client (answer look name Pointer)))

        at : (port : Option ℕ) → HasFewServers (result_of look (elim port as (λ _. Asking Layout) [
          | Some port ↦ asking_over client (transport_of question) (asking_own client (transport_of question) port name)
          | None ↦ elim question.transport [
            | Some transport ↦ asking_over client transport (and_then (asking_offer (service_name_of name transport)) (asking_offered client name transport))
            | None ↦ and_then (asking name Pointer) (λ set. asking_chosen client name question.secure (chosen question.secure client set))
          ]
        ]))
        at (Some port) = over-few (transport_of question) _ (own-few (transport_of question) port name)
        at None = over question.transport

    numeric-few : (question : Question) (address : Address) → HasFewServers (result_of look (asking_numeric client question address))
    numeric-few question address =
        let transport : Transport = transport_of question in
        let server : Source = record { priority = 0; weight = 0; port = port_of question transport; addresses = address ∷ [] } in
        over-few transport (done (sole_server transport (port_of question transport) (address ∷ [])))
        (record { servers = omega arith; addresses = All-cons (λ server. length server.addresses ≤ 64) server [] (omega arith) (All-nil (λ (server : Source). length server.addresses ≤ 64)) })

pub route-few : (look : Look) (question : Question) (client : Client) → ((key : Key) → length (look key) ≤ 32) → HasFewServers (route look question client)
route-few look question client few = from question.target
  where
    from : (target : Target) → HasFewServers (result_of look (elim target as (λ _. Asking Layout) [
      | Numeric address ↦ asking_numeric client question address
      | Domain name ↦ asking_domain client name question
    ]))
    from (Numeric address) = numeric-few look few client question address
    from (Domain name) = domain-few look few client name question
