-- Where routes lead, by the offers of services.
use Rattle.std.proofs.Common.{◌≡◌, ℕ, Bool, true, false, List, ◌∷◌, filter, if◌then◌else◌, Option, None, Some, option_map, refl, sym, ap, ◌∙◌}
use Rattle.sipl_names.specs.Labels.{Labels}
use Rattle.sipl_records.specs.declared.data.Data.{Data}
use Rattle.sipl_records.specs.declared.kind.Kind.TheVariants.{Pointer}
use Rattle.sipl_choice.specs.Abilities.{Client, supports}
use Rattle.sipl_choice.specs.FamilyKinds.{address_kinds}
use Rattle.sipl_choice.specs.Pointers.{Choice, chosen}
use Rattle.sipl_choice.specs.ServiceNames.{service_name_of}
use Rattle.sipl_choice.specs.declared.transport.Transport.{Transport}
use Rattle.sipl_srv.specs.declared.pick.Offer.{Offer}
use Rattle.sipl_evidence.specs.Looks.{Look, Asking, and_then, result_of}
use Rattle.sipl_evidence.specs.Answers.{answer, asking}
use Rattle.sipl_evidence.proofs.Public.{result_of-and_then}
use Rattle.sipl_plans.specs.declared.layout.Layout.{Layout}
use Rattle.sipl_plans.specs.Route.{addresses, asking_chosen, asking_offer, asking_offered, asking_over, asking_own, asking_services, asking_tried, is_tried, offer_at, sole_server}
use Rattle.sipl_plans.proofs.Equations.{own_is}

-- over a transport that the client supports
pub over_supported : (look : Look) (client : Client) (transport : Transport) (next : Asking Layout) → supports client.preference transport ≡ true → result_of look (asking_over client transport next) ≡ result_of look next
over_supported look client transport next supported = rw supported refl

-- the addresses of a domain, over a transport that the client supports
pub own_supported : (look : Look) (client : Client) (transport : Transport) (port : ℕ) (name : Labels) → supports client.preference transport ≡ true
    → result_of look (asking_over client transport (asking_own client transport port name)) ≡ sole_server transport port (addresses look (address_kinds client.families) name)
own_supported look client transport port name supported =
    over_supported look client transport (asking_own client transport port name) supported ∙ own_is look client transport port name

-- what the offer of a service leads to
pub offered_at : (look : Look) (client : Client) (name : Labels) (transport : Transport) (service : Option Labels) → result_of look (and_then (asking_offer service) (asking_offered client name transport)) ≡ result_of look (asking_offered client name transport (offer_at look service))
offered_at look client name transport service = result_of-and_then look (asking_offer service) (asking_offered client name transport)

-- the same, where the client supports the transport
pub offered_supported : (look : Look) (client : Client) (name : Labels) (transport : Transport) (service : Option Labels) (offer : Offer) → supports client.preference transport ≡ true → offer ≡ offer_at look service → service ≡ service_name_of name transport
    → result_of look (asking_offered client name transport offer) ≡ result_of look (asking_over client transport (and_then (asking_offer (service_name_of name transport)) (asking_offered client name transport)))
offered_supported look client name transport service offer supported at own =
    let next = λ (s : Option Labels). and_then (asking_offer s) (asking_offered client name transport) in
    ap (λ o. result_of look (asking_offered client name transport o)) at
    ∙ sym (offered_at look client name transport service)
    ∙ ap (λ s. result_of look (next s)) own
    ∙ sym (over_supported look client transport (next (service_name_of name transport)) supported)

module _ (look : Look) (client : Client) (name : Labels) (secure : Bool) where
  -- the route over the transports that are left
  abbrev pub route_over : Bool → List Transport → Layout
  route_over closed transports = result_of look (asking_services client name secure closed (filter (is_tried secure) transports))

  -- the offer over a transport that is tried decides
  pub over_tried : (closed : Bool) (here : List Transport) (transport : Transport) (others : List Transport) (service : Option Labels) (offer : Offer) → here ≡ transport ∷ others → is_tried secure transport ≡ true
      → offer ≡ offer_at look service → service ≡ service_name_of name transport
      → route_over closed here ≡ result_of look (asking_tried client transport (λ now. asking_services client name secure now (filter (is_tried secure) others)) closed offer)
  over_tried closed here transport others service offer is tried at own =
      let next = asking_tried client transport (λ now. asking_services client name secure now (filter (is_tried secure) others)) closed in
      ap (route_over closed) is
      ∙ ap (λ b. result_of look (asking_services client name secure closed (if b then transport ∷ filter (is_tried secure) others else filter (is_tried secure) others))) tried
      ∙ result_of-and_then look (asking_offer (service_name_of name transport)) next
      ∙ ap (λ o. result_of look (next o)) (sym (at ∙ ap (offer_at look) own))

-- the transport and the name of the SRV records of a choice
abbrev choice_service : Choice → Transport × Labels
choice_service choice = (choice.transport, choice.replacement)

module _ (look : Look) (client : Client) (name : Labels) (secure : Bool) where
  -- where the choice leads by its service
  pub by_choice : (choice : Option Choice) (transport : Transport) (service : Labels) (offer : Offer) → Some (transport, service) ≡ option_map choice_service choice → offer ≡ offer_at look (Some service)
      → result_of look (asking_offered client name transport offer) ≡ result_of look (asking_chosen client name secure choice)
  by_choice None transport service offer is at = cc
  by_choice (Some choice) transport service offer is at =
      let same : (transport, service) ≡ choice_service choice = cc in
      ap (λ o. result_of look (asking_offered client name transport o)) (at ∙ ap (λ pair. offer_at look (Some pair.1)) same)
      ∙ ap (λ pair. result_of look (asking_offered client name pair.0 (offer_at look (Some choice.replacement)))) same
      ∙ sym (offered_at look client name choice.transport (Some choice.replacement))

  -- where it leads without a choice
  pub without_choice : (choice : Option Choice) → None ≡ option_map choice_service choice
      → route_over look client name secure false client.preference ≡ result_of look (asking_chosen client name secure choice)
  without_choice None is = refl
  without_choice (Some choice) is = cc

  -- the choice is that of the NAPTR answer
  pub chosen_first : (set : List Data) → set ≡ answer look name Pointer
      → result_of look (asking_chosen client name secure (chosen secure client set)) ≡ result_of look (and_then (asking name Pointer) (λ set. asking_chosen client name secure (chosen secure client set)))
  chosen_first set at =
      let next = λ (set : List Data). asking_chosen client name secure (chosen secure client set) in
      ap (λ set. result_of look (next set)) at ∙ sym (result_of-and_then look (asking name Pointer) next)
