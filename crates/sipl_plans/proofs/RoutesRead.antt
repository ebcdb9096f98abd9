-- Where routes lead, where the sets are read one after another.
use Rattle.std.proofs.Common.{◌≡◌, ℕ, Bool, true, false, if◌then◌else◌, List, [], ◌∷◌, ◌++◌, filter, Option, None, Some, option_map, append_assoc, refl, sym, ap, ◌∙◌}
use Rattle.std.specs.List.{filter_map}
use Rattle.sipl_names.specs.Labels.{Labels}
use Rattle.sipl_records.specs.declared.address.Address.{Address}
use Rattle.sipl_records.specs.declared.data.Data.{Data}
use Rattle.sipl_records.specs.declared.kind.Kind.{Kind}
use Rattle.sipl_records.specs.declared.kind.Kind.TheVariants.{Pointer, Service}
use Rattle.sipl_choice.specs.Abilities.{Client, supports}
use Rattle.sipl_choice.specs.FamilyKinds.{address_kinds}
use Rattle.sipl_choice.specs.Pointers.{Choice, chosen}
use Rattle.sipl_choice.specs.ServiceNames.{service_name_of}
use Rattle.sipl_choice.specs.declared.transport.Transport.{Transport}
use Rattle.sipl_srv.specs.Offers.{offer_of}
use Rattle.sipl_srv.specs.declared.pick.Pick.{Pick}
use Rattle.sipl_srv.specs.declared.pick.Offer.{Offer}
use Rattle.sipl_evidence.specs.Answers.{asking}
use Rattle.sipl_evidence.specs.Items.{Item}
use Rattle.sipl_evidence.specs.Looks.{Asking, done, and_then}
use Rattle.sipl_plans.specs.declared.layout.Layout.{Layout}
use Rattle.sipl_plans.specs.declared.layout.Layout.TheVariants.{Servers}
use Rattle.sipl_plans.specs.declared.layout.Source.{Source as server}
use Rattle.sipl_plans.specs.Readings.{Source, Outcome, outcome, Reads}
use Rattle.sipl_plans.specs.Route.{address_of_data, asking_addresses, asking_chosen, asking_offer, asking_offered, asking_over, asking_own, asking_served, asking_services, asking_sources, asking_tried, is_tried, sole_pick, sole_server, source_of}
use Rattle.sipl_plans.proofs.Outcomes.{outcome-and_then, outcome_with, reads_then}

-- the transport and the name of the SRV records of a choice
abbrev pub choice_service : Choice → Transport × Labels
choice_service choice = (choice.transport, choice.replacement)

-- an outcome with other addresses in front
abbrev pub after_found : {S : Type 0} → List Address → Outcome S (List Address) → Outcome S (List Address)
after_found found o = record { value = found ++ o.value; items = o.items; sets = o.sets }

-- an outcome with other servers in front
abbrev pub after_servers : {S : Type 0} → List server → Outcome S (List server) → Outcome S (List server)
after_servers before o = record { value = before ++ o.value; items = o.items; sets = o.sets }

module _ {S : Type 0} (source : Source S) where
  -- over a transport that the client supports
  pub over_supported-read : (client : Client) (transport : Transport) (next : Asking Layout) (items : List Item) (sets : S) → supports client.preference transport ≡ true → outcome source (asking_over client transport next) items sets ≡ outcome source next items sets
  over_supported-read client transport next items sets supported = rw supported refl

  -- the addresses that are found, after those of one kind more
  pub addresses_next-read : (here rest : List Kind) (kind : Kind) (name : Labels) (found : List Address) (items later : List Item) (sets sets_later : S) (set : List Data) (all : Outcome S (List Address))
      → here ≡ kind ∷ rest → Reads source (asking name kind) items sets set later sets_later
      → after_found found (outcome source (asking_addresses here name) items sets) ≡ all
      → after_found (found ++ filter_map address_of_data set) (outcome source (asking_addresses rest name) later sets_later) ≡ all
  addresses_next-read here rest kind name found items later sets sets_later set all is read so =
      let others : Outcome S (List Address) = outcome source (asking_addresses rest name) later sets_later in
      let next : List Data → Asking (List Address) = λ set. and_then (asking_addresses rest name) (λ others. done (filter_map address_of_data set ++ others)) in
      let one : outcome source (asking_addresses (kind ∷ rest) name) items sets ≡ after_found (filter_map address_of_data set) others =
      reads_then source (asking name kind) next items sets set later sets_later read
      ∙ outcome-and_then source (asking_addresses rest name) (λ others. done (filter_map address_of_data set ++ others)) later sets_later in
      ap (outcome_with others.items others.sets) (append_assoc found (filter_map address_of_data set) others.value)
      ∙ ap (after_found found) (sym one)
      ∙ ap (λ kinds. after_found found (outcome source (asking_addresses kinds name) items sets)) (sym is)
      ∙ so

  -- the offer of a name is that of its SRV answer
  pub offer-read : (name : Labels) (items later : List Item) (sets sets_later : S) (set : List Data) → Reads source (asking name Service) items sets set later sets_later → Reads source (asking_offer (Some name)) items sets (offer_of set) later sets_later
  offer-read name items later sets sets_later set read =
      reads_then source (asking name Service) (λ set. done (offer_of set)) items sets set later sets_later read

  -- the servers of the picks before, after that of one pick more
  pub sources_next-read : (kinds : List Kind) (here rest : List Pick) (pick : Pick) (before : List server) (items later : List Item) (sets sets_later : S) (found : List Address) (all : Outcome S (List server))
      → here ≡ pick ∷ rest → Reads source (asking_addresses kinds pick.target) items sets found later sets_later
      → after_servers before (outcome source (asking_sources kinds here) items sets) ≡ all
      → after_servers (before ++ source_of pick found ∷ []) (outcome source (asking_sources kinds rest) later sets_later) ≡ all
  sources_next-read kinds here rest pick before items later sets sets_later found all is read so =
      let others : Outcome S (List server) = outcome source (asking_sources kinds rest) later sets_later in
      let next : List Address → Asking (List server) = λ found. and_then (asking_sources kinds rest) (λ others. done (source_of pick found ∷ others)) in
      let one : outcome source (asking_sources kinds (pick ∷ rest)) items sets ≡ after_servers (source_of pick found ∷ []) others =
      reads_then source (asking_addresses kinds pick.target) next items sets found later sets_later read
      ∙ outcome-and_then source (asking_sources kinds rest) (λ others. done (source_of pick found ∷ others)) later sets_later in
      ap (outcome_with others.items others.sets) (append_assoc before (source_of pick found ∷ []) others.value)
      ∙ ap (after_servers before) (sym one)
      ∙ ap (λ picks. after_servers before (outcome source (asking_sources kinds picks) items sets)) (sym is)
      ∙ so

  -- the servers of picks are served
  pub served-read : (client : Client) (transport : Transport) (picks : List Pick) (items later : List Item) (sets sets_later : S) (servers : List server)
      → outcome source (asking_sources (address_kinds client.families) picks) items sets ≡ outcome_with later sets_later servers
      → Reads source (asking_served client transport picks) items sets (Servers transport servers) later sets_later
  served-read client transport picks items later sets sets_later servers read =
      reads_then source (asking_sources (address_kinds client.families) picks) (λ servers. done (Servers transport servers)) items sets servers later sets_later read

  -- a domain's own addresses are the only server
  pub own-read : (client : Client) (transport : Transport) (port : ℕ) (name : Labels) (items later : List Item) (sets sets_later : S) (found : List Address)
      → Reads source (asking_addresses (address_kinds client.families) name) items sets found later sets_later
      → Reads source (asking_own client transport port name) items sets (sole_server transport port found) later sets_later
  own-read client transport port name items later sets sets_later found read =
      let kinds = address_kinds client.families in
      let next : List Address → Asking (List server) = λ found. and_then (asking_sources kinds []) (λ others. done (source_of (sole_pick port name) found ∷ others)) in
      served-read client transport (sole_pick port name ∷ []) items later sets sets_later (source_of (sole_pick port name) found ∷ [])
      (reads_then source (asking_addresses kinds name) next items sets found later sets_later read)

  module _ (client : Client) (name : Labels) where
    -- what the offer of a service leads to
    pub offered-read : (transport : Transport) (service : Option Labels) (items later : List Item) (sets sets_later : S) (offer : Offer)
        → Reads source (asking_offer service) items sets offer later sets_later
        → outcome source (and_then (asking_offer service) (asking_offered client name transport)) items sets ≡ outcome source (asking_offered client name transport offer) later sets_later
    offered-read transport service items later sets sets_later offer read =
        reads_then source (asking_offer service) (asking_offered client name transport) items sets offer later sets_later read

    -- the same, where the client supports the transport
    pub offered_supported-read : (transport : Transport) (service : Option Labels) (items later : List Item) (sets sets_later : S) (offer : Offer)
        → supports client.preference transport ≡ true → service ≡ service_name_of name transport
        → Reads source (asking_offer service) items sets offer later sets_later
        → outcome source (asking_over client transport (and_then (asking_offer (service_name_of name transport)) (asking_offered client name transport))) items sets ≡ outcome source (asking_offered client name transport offer) later sets_later
    offered_supported-read transport service items later sets sets_later offer supported own read =
        over_supported-read client transport (and_then (asking_offer (service_name_of name transport)) (asking_offered client name transport)) items sets supported
        ∙ ap (λ s. outcome source (and_then (asking_offer s) (asking_offered client name transport)) items sets) (sym own)
        ∙ offered-read transport service items later sets sets_later offer read

    module _ (secure : Bool) where
      -- the route over the transports that are left
      abbrev pub outcome_over : Bool → List Transport → List Item → S → Outcome S Layout
      outcome_over closed transports items sets = outcome source (asking_services client name secure closed (filter (is_tried secure) transports)) items sets

      -- what an offer over one transport leads to
      abbrev pub after_tried : Transport → List Transport → Bool → Offer → Asking Layout
      after_tried transport others closed offer = asking_tried client transport (λ now. asking_services client name secure now (filter (is_tried secure) others)) closed offer

      -- a transport that is not tried is left out
      pub over_other-read : (closed : Bool) (here : List Transport) (transport : Transport) (others : List Transport) (items : List Item) (sets : S) → here ≡ transport ∷ others → is_tried secure transport ≡ false
          → outcome_over closed here items sets ≡ outcome_over closed others items sets
      over_other-read closed here transport others items sets is out =
          ap (λ transports. outcome_over closed transports items sets) is
          ∙ ap (λ b. outcome source (asking_services client name secure closed (if b then transport ∷ filter (is_tried secure) others else filter (is_tried secure) others)) items sets) out

      -- the offer over a transport that is tried decides
      pub over_tried-read : (closed : Bool) (here : List Transport) (transport : Transport) (others : List Transport) (service : Option Labels) (offer : Offer) (items later : List Item) (sets sets_later : S)
          → here ≡ transport ∷ others → is_tried secure transport ≡ true → service ≡ service_name_of name transport
          → Reads source (asking_offer service) items sets offer later sets_later
          → outcome_over closed here items sets ≡ outcome source (after_tried transport others closed offer) later sets_later
      over_tried-read closed here transport others service offer items later sets sets_later is tried own read =
          ap (λ transports. outcome_over closed transports items sets) is
          ∙ ap (λ b. outcome source (asking_services client name secure closed (if b then transport ∷ filter (is_tried secure) others else filter (is_tried secure) others)) items sets) tried
          ∙ ap (λ s. outcome source (and_then (asking_offer s) (after_tried transport others closed)) items sets) (sym own)
          ∙ reads_then source (asking_offer service) (after_tried transport others closed) items sets offer later sets_later read

      -- where the choice of a NAPTR answer leads
      abbrev pub after_pointers : List Data → Asking Layout
      after_pointers set = asking_chosen client name secure (chosen secure client set)

      -- by its service
      pub by_choice-read : (choice : Option Choice) (transport : Transport) (service : Labels) (offer : Offer) (items later : List Item) (sets sets_later : S)
          → Some (transport, service) ≡ option_map choice_service choice
          → Reads source (asking_offer (Some service)) items sets offer later sets_later
          → outcome source (asking_chosen client name secure choice) items sets ≡ outcome source (asking_offered client name transport offer) later sets_later
      by_choice-read None transport service offer items later sets sets_later is read = cc
      by_choice-read (Some choice) transport service offer items later sets sets_later is read =
          let same : (transport, service) ≡ choice_service choice = cc in
          ap (λ pair. outcome source (and_then (asking_offer (Some pair.1)) (asking_offered client name pair.0)) items sets) (sym same)
          ∙ offered-read transport (Some service) items later sets sets_later offer read

      -- without a choice
      pub without_choice-read : (choice : Option Choice) (items : List Item) (sets : S) → None ≡ option_map choice_service choice
          → outcome source (asking_chosen client name secure choice) items sets ≡ outcome_over false client.preference items sets
      without_choice-read None items sets is = refl
      without_choice-read (Some choice) items sets is = cc

      -- the NAPTR answer is read first
      pub pointers-read : (items later : List Item) (sets sets_later : S) (set : List Data) → Reads source (asking name Pointer) items sets set later sets_later
          → outcome source (and_then (asking name Pointer) after_pointers) items sets ≡ outcome source (after_pointers set) later sets_later
      pointers-read items later sets sets_later set read =
          reads_then source (asking name Pointer) after_pointers items sets set later sets_later read
