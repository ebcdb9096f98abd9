-- Services, whose offers are read over walks.
use Rattle.std.proofs.Common.{◌≡◌, ℕ, suc, ◌+◌, ◌<◌, Bool, true, List, ◌∷◌, length, get_or, drop, Option, None, Some, option_map, cond, sym, ap, ◌∙◌, arith}
use Rattle.std.proofs.Math.Seq.{drop-cons}
use Rattle.std.specs.List.{filter}
use Rattle.sipl_names.specs.Labels.{Labels}
use Rattle.sipl_records.specs.declared.data.Data.{Data}
use Rattle.sipl_records.specs.declared.kind.Kind.TheVariants.{Service}
use Rattle.sipl_choice.specs.Abilities.{Client, supports}
use Rattle.sipl_choice.specs.Pointers.{Choice}
use Rattle.sipl_choice.specs.ServiceNames.{service_name_of}
use Rattle.sipl_choice.specs.declared.transport.Transport.{Transport}
use Rattle.sipl_srv.specs.Offers.{offer_of}
use Rattle.sipl_srv.specs.declared.pick.Offer.{Offer}
use Rattle.sipl_evidence.specs.Answers.{asking}
use Rattle.sipl_evidence.specs.Looks.{Asking, done, and_then}
use Rattle.sipl_uri.specs.declared.question.Question.{Question}
use Rattle.sipl_plans.specs.Route.{asking_chosen, asking_domain, asking_offer, asking_offered, asking_services, asking_tried, is_tried}
use Rattle.sipl_plans.specs.declared.answer.Reason.TheVariants.{NoTransport}
use Rattle.sipl_plans.specs.declared.layout.Layout.{Layout}
use Rattle.sipl_plans.specs.declared.layout.Layout.TheVariants.{Refused}
use Rattle.sipl_plans.proofs.Advancing.{and_then-assoc}

-- the offer of a service, over a walk
asking_offer-walk : {A : Type 0} (named : Option Labels) (service : Labels) (walk : Asking (List Data)) (next : Offer → Asking A) → named ≡ Some service → walk ≡ asking service Service → and_then (asking_offer named) next ≡ and_then walk (λ set. next (offer_of set))
asking_offer-walk named service walk next is over =
    ap (λ name. and_then (asking_offer name) next) is
    ∙ and_then-assoc (asking service Service) (λ set. done (offer_of set)) next
    ∙ ap (λ set. and_then set (λ set. next (offer_of set))) (sym over)

module _ (client : Client) (name : Labels) (secure closed : Bool) where
  -- what is left of the services over these transports
  abbrev pub services_left : List Transport → Asking Layout
  services_left transports = asking_services client name secure closed (filter (is_tried secure) transports)

  -- a transport that is tried, over a walk
  pub services_left-walk : (preference : List Transport) (place : ℕ) (transport other : Transport) (service : Labels) (walk : Asking (List Data)) → place < length preference → transport ≡ get_or preference place other → is_tried secure transport ≡ true → service_name_of name transport ≡ Some service → walk ≡ asking service Service
      → services_left (drop place preference) ≡ and_then walk (λ set. asking_tried client transport (λ now. asking_services client name secure now (filter (is_tried secure) (drop (place + 1) preference))) closed (offer_of set))
  services_left-walk preference place transport other service walk inside at tried named over =
      let later : List Transport = drop (place + 1) preference in
      let others : List Transport = filter (is_tried secure) later in
      let one : suc place ≡ place + 1 = omega arith in
      let here : drop place preference ≡ transport ∷ later = drop-cons preference place other inside ∙ ap (λ t. t ∷ drop (suc place) preference) (sym at) ∙ ap (λ n. transport ∷ drop n preference) one in
      ap services_left here
      ∙ ap (λ b. asking_services client name secure closed (cond b (transport ∷ others) others)) tried
      ∙ asking_offer-walk (service_name_of name transport) service walk (asking_tried client transport (λ now. asking_services client name secure now others) closed) named over

-- the service over the transport that is given, over a walk
pub given-walk : (client : Client) (name : Labels) (question : Question) (transport : Transport) (service : Labels) (walk : Asking (List Data)) → question.port ≡ None → question.transport ≡ Some transport → supports client.preference transport ≡ true → service_name_of name transport ≡ Some service → walk ≡ asking service Service
    → and_then walk (λ set. asking_offered client name transport (offer_of set)) ≡ asking_domain client name question
given-walk client name question transport service walk no_port given able named over =
    let served : Asking Layout = and_then (asking_offer (service_name_of name transport)) (asking_offered client name transport) in
    let same : question ≡ record { secure = question.secure; target = question.target; port = None; transport = Some transport } = λ i. record { secure = question.secure; target = question.target; port = no_port i; transport = given i } in
    sym (ap (asking_domain client name) same
    ∙ ap (λ b. cond b served (done (Refused NoTransport))) able
    ∙ asking_offer-walk (service_name_of name transport) service walk (asking_offered client name transport) named over)

-- the service that is chosen, over a walk
pub chosen-walk : (client : Client) (name : Labels) (secure : Bool) (choice : Option Choice) (transport : Transport) (service : Labels) (walk : Asking (List Data)) → ◌≡◌ {A = Option (Transport × Labels)} (Some (transport, service)) (option_map (λ c. (c.transport, c.replacement)) choice) → walk ≡ asking service Service
    → and_then walk (λ set. asking_offered client name transport (offer_of set)) ≡ asking_chosen client name secure choice
chosen-walk client name secure None transport service walk is over = let never : ◌≡◌ {A = Option (Transport × Labels)} (Some (transport, service)) None = is in cc
chosen-walk client name secure (Some choice) transport service walk is over =
    let own : ◌≡◌ {A = Transport × Labels} (transport, service) (choice.transport, choice.replacement) = cc in
    let named : Some choice.replacement ≡ Some service = ap (λ (p : Transport × Labels). Some p.1) (sym own) in
    sym (asking_offer-walk (Some choice.replacement) service walk (asking_offered client name choice.transport) named over
    ∙ ap (λ (p : Transport × Labels). and_then walk (λ set. asking_offered client name p.0 (offer_of set))) (sym own))
