-- Where lines begin two texts, and the texts are equal, the lines are those of one endpoint, record, zone or answer.
use Rattle.std.proofs.Common.{◌≡◌, ℕ, ◌+◌, ◌^◌, ◌<◌, ◌≤◌, List, [], ◌∷◌, ◌++◌, length, get_or, Some, Ok, refl, sym, ap, ◌∙◌, arith, append_assoc, codes, decimal}
use Rattle.std.specs.List.{AllByRecursion, flat_map}
use Rattle.std.proofs.lemmas.List.{append_cancel_left}
use Rattle.sipl_names.specs.Labels.{Octets, Labels, IsName}
use Rattle.sipl_names.specs.NamePrint.{text_of}
use Rattle.sipl_names.specs.NameText.{name_of}
use Rattle.sipl_names.proofs.Public.{name_of-text_of}
use Rattle.sipl_records.specs.Addresses.{IsAddress, address_of, text_of_address}
use Rattle.sipl_records.specs.declared.address.Address.{Address}
use Rattle.sipl_choice.specs.Transports.{transport_named, transport_text}
use Rattle.sipl_choice.specs.declared.endpoint.Endpoint.{Endpoint}
use Rattle.sipl_choice.specs.declared.transport.Transport.{Transport}
use Rattle.sipl_choice.specs.declared.transport.Transport.TheVariants.{Udp, Tcp, Tls, Sctp}
use Rattle.sipl_plans.specs.Reasons.{reason_text}
use Rattle.sipl_plans.specs.declared.answer.Answer.{Answer}
use Rattle.sipl_plans.specs.declared.answer.Answer.TheVariants.{Targets, None as no_targets}
use Rattle.sipl_plans.specs.declared.answer.Reason.{Reason}
use Rattle.sipl_plans.specs.declared.answer.Reason.TheVariants.{NoAddress, NotAvailable, NoTransport, AllHeld}
use Rattle.sipl_lines.specs.ReplyText.{answer_text, number_field, target_line, target_lines}
use Rattle.sipl_lines.specs.CommandText.{endpoint_text}
use Rattle.sipl_laws.specs.Events.{IsAnswer, IsEndpoint}
use Rattle.sipl_laws.proofs.Cuts.{From, Opens, cut, from-test}
use Rattle.sipl_laws.proofs.Octets.{from-address, from-decimal, from-text_of, from-transport, same-decimal}

-- a text that other texts begin with, before others
pub joined : (a b r : Octets) → (a ++ b) ++ r ≡ a ++ (b ++ r)
joined a b r = append_assoc a b r

-- a name and the rest
pub same-name : (labels others : Labels) (s : ℕ) (r q : Octets) → s < 33 → IsName labels → IsName others → Opens s r → Opens s q → text_of labels ++ r ≡ text_of others ++ q → (labels ≡ others) × (r ≡ q)
same-name labels others s r q below is are opens starts is_same =
    let parts = cut s 33 below (text_of labels) (text_of others) r q (from-text_of labels) (from-text_of others) opens starts is_same in
    let read : Ok labels ≡ Ok others = sym (name_of-text_of labels [] is) ∙ ap (λ text. name_of text []) parts.0 ∙ name_of-text_of others [] are in
    (let same = read in cc, parts.1)

-- a number and the rest
pub same-number : (m n s : ℕ) (r q : Octets) → s < 48 → m < 2 ^ 64 → n < 2 ^ 64 → Opens s r → Opens s q → decimal m ++ r ≡ decimal n ++ q → (m ≡ n) × (r ≡ q)
same-number m n s r q below small few opens starts is =
    let parts = cut s 48 below (decimal m) (decimal n) r q (from-decimal m small) (from-decimal n few) opens starts is in
    (same-decimal m n small few parts.0, parts.1)

pub named : (transport : Transport) → transport_named (transport_text transport) ≡ Some transport
named Udp = refl
named Tcp = refl
named Tls = refl
named Sctp = refl

same-transport : (one other : Transport) → transport_text one ≡ transport_text other → one ≡ other
same-transport one other is =
    let read : Some one ≡ Some other = sym (named one) ∙ ap transport_named is ∙ named other in
    cc

-- an endpoint's text before others
endpoint-parts : (e : Endpoint) (r : Octets) → endpoint_text e ++ r ≡ transport_text e.transport ++ 32 ∷ (text_of_address e.address ++ 32 ∷ (decimal e.port ++ r))
endpoint-parts e r = simp append_assoc

-- reasons

same-reason : (one other : Reason) → reason_text one ≡ reason_text other → one ≡ other
same-reason NoAddress NoAddress is = refl
same-reason NotAvailable NotAvailable is = refl
same-reason NoTransport NoTransport is = refl
same-reason AllHeld AllHeld is = refl
same-reason _ _ is = absurd (let lengths = ap length is in omega (arith, lengths))

pub from-reason : (reason : Reason) → From 33 (reason_text reason)
from-reason NoAddress = from-test 33 (codes "NoAddress") refl
from-reason NotAvailable = from-test 33 (codes "NotAvailable") refl
from-reason NoTransport = from-test 33 (codes "NoTransport") refl
from-reason AllHeld = from-test 33 (codes "AllHeld") refl

module _ (reads : (address : Address) → IsAddress address → address_of (text_of_address address) ≡ Some address) where
  -- an endpoint and the rest
  pub same-endpoint : (e f : Endpoint) (s : ℕ) (r q : Octets) → s < 33 → IsEndpoint e → IsEndpoint f → Opens s r → Opens s q → endpoint_text e ++ r ≡ endpoint_text f ++ q → (e ≡ f) × (r ≡ q)
  same-endpoint e f s r q below one other opens starts is =
      let at : transport_text e.transport ++ 32 ∷ (text_of_address e.address ++ 32 ∷ (decimal e.port ++ r)) ≡ transport_text f.transport ++ 32 ∷ (text_of_address f.address ++ 32 ∷ (decimal f.port ++ q)) = sym (endpoint-parts e r) ∙ is ∙ endpoint-parts f q in
      let first = cut 32 33 (omega arith) (transport_text e.transport) (transport_text f.transport) _ _ (from-transport e.transport) (from-transport f.transport) refl refl at in
      let second = cut 32 33 (omega arith) (text_of_address e.address) (text_of_address f.address) (32 ∷ (decimal e.port ++ r)) (32 ∷ (decimal f.port ++ q)) (from-address e.address one.address) (from-address f.address other.address) refl refl (let all = first.1 in cc) in
      let small = one.port in
      let few = other.port in
      let last = same-number e.port f.port s r q (omega (arith, below)) (omega (arith, small)) (omega (arith, few)) opens starts (let all = second.1 in cc) in
      let transport : e.transport ≡ f.transport = same-transport e.transport f.transport first.0 in
      let read : Some e.address ≡ Some f.address = sym (reads e.address one.address) ∙ ap address_of second.0 ∙ reads f.address other.address in
      let address : e.address ≡ f.address = cc in
      (λ i. record { transport = transport i; address = address i; port = last.0 i }, last.1)

  -- a target's line before others
  target-parts : (n : ℕ) (t : Endpoint) (r : Octets) → target_line n t ++ r ≡ codes "target" ++ (number_field n ++ 32 ∷ (endpoint_text t ++ 10 ∷ r))
  target-parts n t r = simp append_assoc

  -- the lines of targets, and the rest after the words that end them
  pub same-targets : (n : ℕ) (ts us : List Endpoint) (r q : Octets) → AllByRecursion IsEndpoint ts → AllByRecursion IsEndpoint us → target_lines n ts ++ (codes "ok find" ++ r) ≡ target_lines n us ++ (codes "ok find" ++ q) → (ts ≡ us) × (r ≡ q)
  same-targets n [] [] r q all each is = (refl, append_cancel_left (codes "ok find") r q is)
  same-targets n [] (u ∷ us) r q all each is = absurd (let head : 111 ≡ 116 = ap (λ t. get_or t 0 0) is in omega (arith, head))
  same-targets n (t ∷ ts) [] r q all each is = absurd (let head : 116 ≡ 111 = ap (λ t. get_or t 0 0) is in omega (arith, head))
  same-targets n (t ∷ ts) (u ∷ us) r q all each is =
      let more : Octets = target_lines (n + 1) ts ++ (codes "ok find" ++ r) in
      let further : Octets = target_lines (n + 1) us ++ (codes "ok find" ++ q) in
      let at : codes "target" ++ (number_field n ++ 32 ∷ (endpoint_text t ++ 10 ∷ more)) ≡ codes "target" ++ (number_field n ++ 32 ∷ (endpoint_text u ++ 10 ∷ further)) =
      sym (target-parts n t more) ∙ sym (joined (target_line n t) (target_lines (n + 1) ts) (codes "ok find" ++ r)) ∙ is ∙ joined (target_line n u) (target_lines (n + 1) us) (codes "ok find" ++ q) ∙ target-parts n u further in
      let numbered = append_cancel_left (codes "target") (number_field n ++ 32 ∷ (endpoint_text t ++ 10 ∷ more)) (number_field n ++ 32 ∷ (endpoint_text u ++ 10 ∷ further)) at in
      let line : 32 ∷ (endpoint_text t ++ 10 ∷ more) ≡ 32 ∷ (endpoint_text u ++ 10 ∷ further) = append_cancel_left (number_field n) (32 ∷ (endpoint_text t ++ 10 ∷ more)) (32 ∷ (endpoint_text u ++ 10 ∷ further)) numbered in
      let first = same-endpoint t u 10 (10 ∷ more) (10 ∷ further) (omega arith) all.0 each.0 refl refl (let all_of = line in cc) in
      let rest = same-targets (n + 1) ts us r q all.1 each.1 (let after = first.1 in cc) in
      (λ i. first.0 i ∷ rest.0 i, rest.1)

  targets-parts : (ts : List Endpoint) (r : Octets) → answer_text (Targets ts) ++ r ≡ target_lines 1 ts ++ (codes "ok find" ++ (flat_map number_field (length ts ∷ []) ++ 10 ∷ r))
  targets-parts ts r = simp append_assoc

  targets-head : (ts : List Endpoint) (r : Octets) → 111 ≤ get_or (answer_text (Targets ts) ++ r) 0 0
  targets-head [] r = omega arith
  targets-head (t ∷ ts) r = omega arith

  -- an answer and the rest
  pub same-answer : (a b : Answer) (r q : Octets) → IsAnswer a → IsAnswer b → answer_text a ++ r ≡ answer_text b ++ q → (a ≡ b) × (r ≡ q)
  same-answer (Targets ts) (Targets us) r q all each is =
      let parts = same-targets 1 ts us _ _ all.each each.each (sym (targets-parts ts r) ∙ is ∙ targets-parts us q) in
      let counts : flat_map number_field (length ts ∷ []) ≡ flat_map number_field (length us ∷ []) = ap (λ (es : List Endpoint). flat_map number_field (length es ∷ [])) parts.0 in
      let ends : flat_map number_field (length us ∷ []) ++ 10 ∷ r ≡ flat_map number_field (length us ∷ []) ++ 10 ∷ q = ap (λ (t : Octets). t ++ 10 ∷ r) (sym counts) ∙ parts.1 in
      let rest : 10 ∷ r ≡ 10 ∷ q = append_cancel_left (flat_map number_field (length us ∷ [])) (10 ∷ r) (10 ∷ q) ends in
      (ap (λ (es : List Endpoint). Targets es) parts.0, let same = rest in cc)
  same-answer (Targets ts) (no_targets reason) r q all each is =
      absurd (let head : get_or (answer_text (Targets ts) ++ r) 0 0 ≡ 110 = ap (λ t. get_or t 0 0) is in let least = targets-head ts r in omega (arith, head, least))
  same-answer (no_targets reason) (Targets us) r q all each is =
      absurd (let head : 110 ≡ get_or (answer_text (Targets us) ++ q) 0 0 = ap (λ t. get_or t 0 0) is in let least = targets-head us q in omega (arith, head, least))
  same-answer (no_targets one) (no_targets other) r q all each is =
      let line : codes "none " ++ (reason_text one ++ 10 ∷ r) ≡ codes "none " ++ (reason_text other ++ 10 ∷ q) = sym (joined (codes "none " ++ reason_text one) (10 ∷ []) r ∙ joined (codes "none ") (reason_text one) (10 ∷ r)) ∙ is ∙ (joined (codes "none " ++ reason_text other) (10 ∷ []) q ∙ joined (codes "none ") (reason_text other) (10 ∷ q)) in
      let parts = cut 10 33 (omega arith) (reason_text one) (reason_text other) (10 ∷ r) (10 ∷ q) (from-reason one) (from-reason other) refl refl (append_cancel_left (codes "none ") (reason_text one ++ 10 ∷ r) (reason_text other ++ 10 ∷ q) line) in
      (ap (λ reason. no_targets reason) (same-reason one other parts.0), let same = parts.1 in cc)
