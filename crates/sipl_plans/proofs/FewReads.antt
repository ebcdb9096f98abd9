-- A route asks for few sets: those of 68 walks over aliases, of at most 1,186 sets each.
use Rattle.std.proofs.Common.{◌≡◌, ℕ, ◌+◌, ◌*◌, ◌≤◌, Bool, true, false, ◌||◌, List, [], ◌∷◌, ◌++◌, length, length-append, filter, Option, None, Some, refl, ap, ◌∙◌, inl, inr, arith}
use Rattle.std.proofs.lemmas.Bool.{cases_Bool}
use Rattle.std.specs.List.{filter_map}
use Rattle.sipl_names.specs.Labels.{Labels}
use Rattle.sipl_records.specs.declared.address.Address.{Address}
use Rattle.sipl_records.specs.declared.data.Data.{Data}
use Rattle.sipl_records.specs.declared.kind.Kind.{Kind}
use Rattle.sipl_records.specs.declared.kind.Kind.TheVariants.{Service, Pointer}
use Rattle.sipl_records.specs.declared.record.Key.{Key}
use Rattle.sipl_choice.specs.Abilities.{Client, supports, repeats_transport, abilities_fault}
use Rattle.sipl_choice.specs.FamilyKinds.{address_kinds}
use Rattle.sipl_choice.specs.Pointers.{Choice, chosen}
use Rattle.sipl_choice.specs.ServiceNames.{service_name_of}
use Rattle.sipl_choice.specs.Transports.{default_port}
use Rattle.sipl_choice.specs.declared.fault.AbilitiesFault.TheVariants.{EmptyAbilities, RepeatedTransport}
use Rattle.sipl_choice.specs.declared.transport.Transport.{Transport}
use Rattle.sipl_choice.specs.declared.transport.Transport.TheVariants.{Udp, Tcp, Tls, Sctp}
use Rattle.sipl_srv.specs.Offers.{offer_of}
use Rattle.sipl_srv.specs.declared.pick.Pick.{Pick}
use Rattle.sipl_srv.specs.declared.pick.Offer.{Offer}
use Rattle.sipl_srv.specs.declared.pick.Offer.TheVariants.{Nothing, Closed, Picks}
use Rattle.sipl_evidence.specs.Looks.{Look, Asking, done, and_then, result_of, asked}
use Rattle.sipl_evidence.specs.Answers.{asking}
use Rattle.sipl_evidence.proofs.Public.{length-asking, asked-and_then}
use Rattle.sipl_uri.specs.declared.question.Question.{Question}
use Rattle.sipl_uri.specs.declared.question.Target.{Target}
use Rattle.sipl_uri.specs.declared.question.Target.TheVariants.{Numeric, Domain}
use Rattle.sipl_plans.specs.Route.{address_of_data, asking_addresses, asking_offer, offer_at, source_of, asking_sources, asking_served, asking_own, sole_pick, default_transport, transport_of, port_of, sole_server, asking_over, asking_offered, is_tried, asking_unserved, asking_tried, asking_services, asking_chosen, asking_domain, asking_numeric, asking_route}
use Rattle.sipl_plans.specs.declared.layout.Layout.{Layout}
use Rattle.sipl_plans.specs.declared.layout.Layout.TheVariants.{Servers}
use Rattle.sipl_plans.specs.declared.layout.Source.{Source}
use Rattle.sipl_plans.proofs.FewServers.{IsFew, offer_at-few, length-address_kinds}

-- 1 where it is so, else 0
abbrev one_if : Bool → ℕ
one_if true = 1
one_if false = 0

one_if-le : (b : Bool) → one_if b ≤ 1
one_if-le true = omega arith
one_if-le false = omega arith

-- neither of two facts holds
or-left : (a b : Bool) → (a || b) ≡ false → a ≡ false
or-left false b neither = refl
or-left true b neither = neither

or-right : (a b : Bool) → (a || b) ≡ false → b ≡ false
or-right false b neither = neither
or-right true b neither = let never : true ≡ false = neither in cc

-- the transports that are tried are among three of which each is there at most once
tried-other : (transports : List Transport) → repeats_transport transports ≡ false → length (filter (is_tried false) transports) ≤ one_if (supports transports Udp) + one_if (supports transports Tcp) + one_if (supports transports Sctp)
tried-other [] once = omega arith
tried-other (Udp ∷ others) once = omega (arith, tried-other others (or-right (supports others Udp) (repeats_transport others) once), ap one_if (or-left (supports others Udp) (repeats_transport others) once))
tried-other (Tcp ∷ others) once = omega (arith, tried-other others (or-right (supports others Tcp) (repeats_transport others) once), ap one_if (or-left (supports others Tcp) (repeats_transport others) once))
tried-other (Tls ∷ others) once = omega (arith, tried-other others (or-right (supports others Tls) (repeats_transport others) once))
tried-other (Sctp ∷ others) once = omega (arith, tried-other others (or-right (supports others Sctp) (repeats_transport others) once), ap one_if (or-left (supports others Sctp) (repeats_transport others) once))

-- for `sips` TLS alone is tried
tried-tls : (transports : List Transport) → repeats_transport transports ≡ false → length (filter (is_tried true) transports) ≤ one_if (supports transports Tls)
tried-tls [] once = omega arith
tried-tls (Udp ∷ others) once = omega (arith, tried-tls others (or-right (supports others Udp) (repeats_transport others) once))
tried-tls (Tcp ∷ others) once = omega (arith, tried-tls others (or-right (supports others Tcp) (repeats_transport others) once))
tried-tls (Tls ∷ others) once = omega (arith, tried-tls others (or-right (supports others Tls) (repeats_transport others) once), ap one_if (or-left (supports others Tls) (repeats_transport others) once))
tried-tls (Sctp ∷ others) once = omega (arith, tried-tls others (or-right (supports others Sctp) (repeats_transport others) once))

length-tried : (secure : Bool) (transports : List Transport) → repeats_transport transports ≡ false → length (filter (is_tried secure) transports) ≤ 3
length-tried true transports once = omega (arith, tried-tls transports once, one_if-le (supports transports Tls))
length-tried false transports once =
    omega (arith, tried-other transports once, one_if-le (supports transports Udp), one_if-le (supports transports Tcp), one_if-le (supports transports Sctp))

-- a client has no transport twice
preference-once : (preference : List Transport) → abilities_fault preference ≡ None → repeats_transport preference ≡ false
preference-once [] valid = let never : Some EmptyAbilities ≡ None = valid in cc
preference-once (transport ∷ others) valid = elim (cases_Bool (repeats_transport (transport ∷ others))) [
  | inl twice ↦ let never : Some RepeatedTransport ≡ None = rw twice at valid in cc
  | inr once ↦ once
]

module _ (look : Look) where
  length-asked : {A B : Type 0} (first : Asking A) (next : A → Asking B) → length (asked look (and_then first next)) ≡ length (asked look first) + length (asked look (next (result_of look first)))
  length-asked first next = ap length (asked-and_then look first next) ∙ length-append (asked look first) (asked look (next (result_of look first)))

  answer-asked : (name : Labels) (kind : Kind) → length (asked look (asking name kind)) ≤ 1186
  answer-asked name kind = length-asking look name kind

  addresses-asked : (kinds : List Kind) (name : Labels) → length (asked look (asking_addresses kinds name)) ≤ length kinds * 1186
  addresses-asked [] name = omega arith
  addresses-asked (kind ∷ kinds) name =
      let next : List Data → Asking (List Address) = λ set. and_then (asking_addresses kinds name) (λ others. done (filter_map address_of_data set ++ others)) in
      let set : List Data = result_of look (asking name kind) in
      omega (arith, length-asked (asking name kind) next, length-asked (asking_addresses kinds name) (λ others. done (filter_map address_of_data set ++ others)), answer-asked name kind, addresses-asked kinds name)

  sources-asked : (kinds : List Kind) → length kinds ≤ 2 → (picks : List Pick) → length (asked look (asking_sources kinds picks)) ≤ length picks * 2372
  sources-asked kinds two [] = omega arith
  sources-asked kinds two (pick ∷ picks) =
      let next : List Address → Asking (List Source) = λ found. and_then (asking_sources kinds picks) (λ others. done (source_of pick found ∷ others)) in
      let found : List Address = result_of look (asking_addresses kinds pick.target) in
      omega (arith, two, length-asked (asking_addresses kinds pick.target) next, length-asked (asking_sources kinds picks) (λ others. done (source_of pick found ∷ others)), addresses-asked kinds pick.target, sources-asked kinds two picks)

  offer-asked : (name : Option Labels) → length (asked look (asking_offer name)) ≤ 1186
  offer-asked None = omega arith
  offer-asked (Some name) = omega (arith, length-asked (asking name Service) (λ set. done (offer_of set)), answer-asked name Service)

  module _ (client : Client) where
    served-asked : (transport : Transport) (picks : List Pick) → length (asked look (asking_served client transport picks)) ≤ length picks * 2372
    served-asked transport picks =
        let kinds : List Kind = address_kinds client.families in
        omega (arith, length-asked (asking_sources kinds picks) (λ servers. done (Servers transport servers)), sources-asked kinds (length-address_kinds client.families) picks)

    own-asked : (transport : Transport) (port : ℕ) (name : Labels) → length (asked look (asking_own client transport port name)) ≤ 2372
    own-asked transport port name = served-asked transport (sole_pick port name ∷ [])

    over-asked : (transport : Transport) (next : Asking Layout) (n : ℕ) → length (asked look next) ≤ n → length (asked look (asking_over client transport next)) ≤ n
    over-asked transport next n own = elim (cases_Bool (supports client.preference transport)) [
      | inl supported ↦ rw supported own
      | inr other ↦ rw other (omega arith)
    ]

    offered-asked : (name : Labels) (transport : Transport) (offer : Offer) → IsFew offer → length (asked look (asking_offered client name transport offer)) ≤ 75904
    offered-asked name transport (Picks picks) own = omega (arith, own picks refl, served-asked transport picks)
    offered-asked name transport Closed own = omega arith
    offered-asked name transport Nothing own = omega (arith, own-asked transport (default_port transport) name)

    unserved-asked : (name : Labels) (secure closed : Bool) → length (asked look (asking_unserved client name secure closed)) ≤ 2372
    unserved-asked name secure true = omega arith
    unserved-asked name secure false =
        let transport : Transport = default_transport secure in
        over-asked transport (asking_own client transport (default_port transport) name) 2372 (own-asked transport (default_port transport) name)

    tried-asked : (transport : Transport) (later : Bool → Asking Layout) (n : ℕ) → 75904 ≤ n → ((now : Bool) → length (asked look (later now)) ≤ n) → (closed : Bool) (offer : Offer) → IsFew offer → length (asked look (asking_tried client transport later closed offer)) ≤ n
    tried-asked transport later n large rest closed (Picks picks) own = omega (arith, own picks refl, served-asked transport picks)
    tried-asked transport later n large rest closed Closed own = rest true
    tried-asked transport later n large rest closed Nothing own = rest closed

    module _ (few : (k : Key) → length (look k) ≤ 32) where
      -- what follows an offer asks for at most 1,186 sets more
      after_offer-asked : (name : Option Labels) (next : Offer → Asking Layout) (n : ℕ) → ((offer : Offer) → IsFew offer → length (asked look (next offer)) ≤ n) → length (asked look (and_then (asking_offer name) next)) ≤ 1186 + n
      after_offer-asked name next n own =
          omega (arith, length-asked (asking_offer name) next, offer-asked name, own (offer_at look name) (offer_at-few look few name))

      services-asked : (name : Labels) (secure closed : Bool) (transports : List Transport) → length (asked look (asking_services client name secure closed transports)) ≤ length transports * 1186 + 75904
      services-asked name secure closed [] = omega (arith, unserved-asked name secure closed)
      services-asked name secure closed (transport ∷ others) =
          let n : ℕ = length others * 1186 + 75904 in
          let later : Bool → Asking Layout = λ now. asking_services client name secure now others in
          omega (
            arith,
            after_offer-asked (service_name_of name transport) (asking_tried client transport later closed) n
                (tried-asked transport later n (omega arith) (λ now. services-asked name secure now others) closed),
          )

      chosen-asked : abilities_fault client.preference ≡ None → (name : Labels) (secure : Bool) (choice : Option Choice) → length (asked look (asking_chosen client name secure choice)) ≤ 79462
      chosen-asked valid name secure (Some choice) =
          omega (arith, after_offer-asked (Some choice.replacement) (asking_offered client name choice.transport) 75904 (offered-asked name choice.transport))
      chosen-asked valid name secure None =
          let tried : List Transport = filter (is_tried secure) client.preference in
          omega (arith, services-asked name secure false tried, length-tried secure client.preference (preference-once client.preference valid))

      domain-asked : abilities_fault client.preference ≡ None → (name : Labels) (question : Question) → length (asked look (asking_domain client name question)) ≤ 80648
      domain-asked valid name question = at question.port
        where
          over : (transport : Option Transport) → length (asked look (elim transport as (λ _. Asking Layout) [
            | Some transport ↦ asking_over client transport (and_then (asking_offer (service_name_of name transport)) (asking_offered client name transport))
            | None ↦ and_then (asking name Pointer) (λ set. asking_chosen client name question.secure (chosen question.secure client set))
          ])) ≤ 80648
          over (Some transport) =
              over-asked transport _ 80648
              (omega (arith, after_offer-asked (service_name_of name transport) (asking_offered client name transport) 75904 (offered-asked name transport)))
          over None =
              let next : List Data → Asking Layout = λ set. asking_chosen client name question.secure (chosen question.secure client set) in
              omega (arith, length-asked (asking name Pointer) next, answer-asked name Pointer, chosen-asked valid name question.secure (chosen question.secure client (result_of look (asking name Pointer))))

          at : (port : Option ℕ) → length (asked look (elim port as (λ _. Asking Layout) [
            | Some port ↦ asking_over client (transport_of question) (asking_own client (transport_of question) port name)
            | None ↦ elim question.transport [
              | Some transport ↦ asking_over client transport (and_then (asking_offer (service_name_of name transport)) (asking_offered client name transport))
              | None ↦ and_then (asking name Pointer) (λ set. asking_chosen client name question.secure (chosen question.secure client set))
            ]
          ])) ≤ 80648
          at (Some port) = over-asked (transport_of question) _ 80648 (omega (arith, own-asked (transport_of question) port name))
          at None = over question.transport

      numeric-asked : (question : Question) (address : Address) → length (asked look (asking_numeric client question address)) ≤ 80648
      numeric-asked question address =
          let transport : Transport = transport_of question in
          over-asked transport (done (sole_server transport (port_of question transport) (address ∷ []))) 80648 (omega arith)

pub asked-few : (look : Look) (question : Question) (client : Client) → ((key : Key) → length (look key) ≤ 32) → abilities_fault client.preference ≡ None → length (asked look (asking_route question client)) ≤ 80648
asked-few look question client few valid = from question.target
  where
    from : (target : Target) → length (asked look (elim target as (λ _. Asking Layout) [
      | Numeric address ↦ asking_numeric client question address
      | Domain name ↦ asking_domain client name question
    ])) ≤ 80648
    from (Numeric address) = numeric-asked look client few question address
    from (Domain name) = domain-asked look client few valid name question
