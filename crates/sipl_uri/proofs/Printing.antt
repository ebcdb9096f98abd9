-- The text of a question is a URI that asks it, and is short.
use Rattle.std.proofs.Common.{◌≡◌, ℕ, ◌^◌, ◌<◌, ◌≤◌, Bool, true, false, not, ◌&&◌, List, [], ◌∷◌, ◌++◌, length, map, Option, Some, None, Ok, refl, sym, ap, subst, ◌∙◌, arith, inl, inr, lit<, append_assoc, append-nil}
use Rattle.std.specs.Prelude.{codes, decimal, nat_le, IsTrue, IfSome}
use Rattle.std.specs.List.{AllByRecursion, flat_map, list_all}
use Rattle.std.specs.Str.{str_to_ascii_lowercase, all_ascii_digits}
use Rattle.std.specs.Str.Parse.{digits_value}
use Rattle.std.proofs.lemmas.Bool.{and_parts}
use Rattle.std.proofs.lemmas.Fmt.{digits_decimal, digits_value-decimal, decimal_nonempty, length-decimal-le}
use Rattle.std.proofs.lemmas.List.{length-append}
use Rattle.std.proofs.lemmas.List.Concat.{flat_map-append}
use Rattle.std.proofs.lemmas.Str.Parse.{IsNumeralModel, numerals_by_value, tells_all_ascii_digits}
use Rattle.sipl_names.specs.Labels.{Octets, Labels, IsLabel}
use Rattle.sipl_names.specs.NamePrint.{is_special, printed_octet, printed_label, text_of}
use Rattle.sipl_names.specs.Hostnames.{is_label_octet, begins_with_letter, has_alphabetic_top}
use Rattle.sipl_names.proofs.Public.{length-text_of}
use Rattle.sipl_records.specs.declared.address.Address.TheVariants.{V4, V6}
use Rattle.sipl_records.specs.Ipv6.{text_of_address6}
use Rattle.sipl_records.proofs.Public.{length-text_of_address, address6_of_text-text_of, number_of_text-text_of}
use Rattle.sipl_choice.specs.Transports.{transport_text}
use Rattle.sipl_choice.specs.declared.transport.Transport.{Transport}
use Rattle.sipl_choice.specs.declared.transport.Transport.TheVariants.{Udp, Tcp, Tls, Sctp}
use Rattle.sipl_uri.specs.declared.question.Question.{Question}
use Rattle.sipl_uri.specs.declared.question.Target.{Target}
use Rattle.sipl_uri.specs.declared.question.Target.TheVariants.{Numeric, Domain}
use Rattle.sipl_uri.specs.UriOctets.{is_param_octet}
use Rattle.sipl_uri.specs.Params.{Param}
use Rattle.sipl_uri.specs.Uris.{transport_with, question_of}
use Rattle.sipl_uri.specs.Grammar.{IsDomainLabel, dotted, IsHostname, IsHost, IsPortPart, IsScheme, IsParam, AreParams, IsTargetOf, IsTransportOf, IsUri, param_named}
use Rattle.sipl_uri.specs.QuestionText.{scheme_text, host_text, port_text, transport_param, question_text, IsHostnameLabels, IsHostTarget, IsAskable}
use Rattle.sipl_uri.proofs.Octets.{implied, small, of_hostname}
use Rattle.sipl_uri.proofs.Hostnames.{top_label_of-last}
use Rattle.sipl_uri.proofs.TakenParams.{AreOnce, once_pairs}
use Rattle.sipl_uri.proofs.Grammar.{question_of-Ok}

-- an octet of a label is printed as it is
is_plain : (c : ℕ) → is_label_octet c ≡ true → ((nat_le 33 c && nat_le c 126) && not (is_special c)) ≡ true
is_plain c is = implied 128 is_label_octet (λ k. (nat_le 33 k && nat_le k 126) && not (is_special k)) refl c (small c (of_hostname c is)) is

printed_plain : (c : ℕ) (seen special : Bool) → (nat_le 33 c && nat_le c 126) ≡ seen → is_special c ≡ special → (seen && not special) ≡ true → printed_octet c ≡ c ∷ []
printed_plain c true false e f plain = rw (e, f) refl
printed_plain c true true e f plain = cc
printed_plain c false special e f plain = cc

printed_label_octets : (label : Octets) → list_all is_label_octet label ≡ true → flat_map printed_octet label ≡ label
printed_label_octets [] all = refl
printed_label_octets (c ∷ label) all =
    let both = and_parts (is_label_octet c) (list_all is_label_octet label) all in
    λ i. printed_plain c _ _ refl refl (is_plain c both.0) i ++ printed_label_octets label both.1 i

printed_labels : (labels : Labels) → AllByRecursion (λ label. IsTrue (list_all is_label_octet label)) labels → flat_map printed_label labels ≡ flat_map dotted labels
printed_labels [] all = refl
printed_labels (label ∷ labels) all = λ i. (printed_label_octets label all.0 i ++ codes ".") ++ printed_labels labels all.1 i

-- the last label of a name
last_label : (label : Octets) (labels : Labels) → (domains : Labels) × (top : Octets) × (label ∷ labels ≡ domains ++ top ∷ [])
last_label label [] = ([], label, refl)
last_label label (next ∷ labels) =
    let last = last_label next labels in
    (label ∷ last.0, last.1, ap (λ (ls : Labels). label ∷ ls) last.2)

domain_labels : (labels : Labels) → AllByRecursion IsLabel labels → AllByRecursion (λ label. IsTrue (list_all is_label_octet label)) labels → AllByRecursion IsDomainLabel labels
domain_labels [] each all = tt
domain_labels (label ∷ labels) each all = (record { nonempty = each.0.nonempty; short = each.0.short; octets = all.0 }, domain_labels labels each.1 all.1)

lower_labels : (labels : Labels) → AllByRecursion IsLabel labels → labels ≡ map str_to_ascii_lowercase labels
lower_labels [] each = refl
lower_labels (label ∷ labels) each = λ i. sym each.0.lower i ∷ lower_labels labels each.1 i

all_parts : {X : Type 0} (P : X → Type 0) (xs : List X) (x : X) → AllByRecursion P (xs ++ x ∷ []) → AllByRecursion P xs × P x
all_parts P [] x all = (tt, all.0)
all_parts P (y ∷ xs) x all =
    let both = all_parts P xs x all.1 in
    ((all.0, both.0), both.1)

top_letter : (domains : Labels) (top : Octets) → has_alphabetic_top (domains ++ top ∷ []) ≡ true → begins_with_letter top ≡ true
top_letter domains top letter =
    sym (ap (λ (o : Option Octets). elim o as (λ _. Bool) [ Some label ↦ begins_with_letter label | None ↦ false ]) (top_label_of-last domains top)) ∙ letter

hostname_written : (domains : Labels) (top : Octets) → flat_map dotted (domains ++ top ∷ []) ≡ flat_map dotted domains ++ top ++ codes "."
hostname_written domains top =
    flat_map-append dotted domains (top ∷ [])
    ∙ (ap (λ (t : Octets). flat_map dotted domains ++ t) (append-nil (top ++ codes ".")) ∙ sym (append_assoc (flat_map dotted domains) top (codes ".")))

-- the text of a name is a hostname
hostname_text : (labels : Labels) → IsHostnameLabels labels → IsHostname (text_of labels) labels
hostname_text [] is = let absent : false ≡ true = is.top in cc
hostname_text (label ∷ labels) is =
    let last = last_label label labels in
    let domains = domain_labels (label ∷ labels) is.name.each is.octets in
    let each = all_parts IsDomainLabel last.0 last.1 (subst (λ (ls : Labels). AllByRecursion IsDomainLabel ls) last.2 domains) in
    let letter = top_letter last.0 last.1 (sym (ap (λ (ls : Labels). has_alphabetic_top ls) last.2) ∙ is.top) in
    record {
      domains = last.0;
      top = last.1;
      final = codes ".";
      written = printed_labels (label ∷ labels) is.octets ∙ (ap (λ (ls : Labels). flat_map dotted ls) last.2 ∙ hostname_written last.0 last.1);
      domain_labels = each.0;
      top_label = record { domain_label = each.1; letter = letter };
      final_dot = inl refl;
      name = lower_labels (label ∷ labels) is.name.each ∙ ap (λ (ls : Labels). map str_to_ascii_lowercase ls) last.2;
      short = is.name.short;
    }

-- the text of a target is a host
is_host : (target : Target) → IsHostTarget target → IsHost (host_text target) target
is_host (Numeric (V4 n)) is = number_of_text-text_of n is
is_host (Numeric (V6 n)) is = record { address = text_of_address6 n; written = refl; is_address = address6_of_text-text_of n is }
is_host (Domain labels) is = hostname_text labels is

numerals : IsNumeralModel (λ ds. all_ascii_digits ds ≡ true) (digits_value 10)
numerals = numerals_by_value (λ ds. all_ascii_digits ds ≡ true) tells_all_ascii_digits

-- the text of a port
is_port : (port : Option ℕ) → IfSome port (λ n. (1 ≤ n) × (n ≤ 65535)) → IsPortPart (port_text port) port
is_port None is = refl
is_port (Some n) is =
    let least = is.0 in
    let greatest = is.1 in
    let below : n < 2 ^ 64 = omega arith in
    record {
      digits = decimal n;
      written = refl;
      is_port = record {
        nonempty = decimal_nonempty n below;
        digits_only = digits_decimal numerals n below;
        value = digits_value-decimal numerals n below;
        least = least;
        greatest = greatest;
      };
    }

-- the parameter of a transport
abbrev transport_given : Transport → Param
transport_given transport = record { name = codes "transport"; value = Some (transport_text transport) }

abbrev params_given : Option Transport → List Param
params_given None = []
params_given (Some transport) = transport_given transport ∷ []

transport_octets : (transport : Transport) → list_all is_param_octet (codes "transport=" ++ transport_text transport) ≡ true
transport_octets Udp = refl
transport_octets Tcp = refl
transport_octets Tls = refl
transport_octets Sctp = refl

is_param : (transport : Transport) → IsParam (codes "transport=" ++ transport_text transport) (transport_given transport)
is_param transport = record {
  pname = codes "transport";
  rest = codes "=" ++ transport_text transport;
  written = refl;
  nonempty = lit< tt;
  without_equals = refl;
  octets = transport_octets transport;
  name = refl;
  value = refl;
}

are_params : (transport : Option Transport) → AreParams (transport_param transport) (params_given transport)
are_params None = refl
are_params (Some transport) = (codes "transport=" ++ transport_text transport, [], sym (append-nil (codes ";transport=" ++ transport_text transport)), is_param transport, refl)

once : (transport : Option Transport) → AreOnce (params_given transport)
once None = tt
once (Some transport) = (tt, tt)

is_target : (transport : Option Transport) (target : Target) → IsTargetOf (param_named (codes "maddr") (params_given transport)) target target
is_target None target = refl
is_target (Some transport) target = refl

lower_transport : (transport : Transport) → str_to_ascii_lowercase (transport_text transport) ≡ transport_text transport
lower_transport Udp = refl
lower_transport Tcp = refl
lower_transport Tls = refl
lower_transport Sctp = refl

used_transport : (secure : Bool) (transport : Transport) → (IsTrue secure → transport ≡ Tls) → Some transport ≡ transport_with secure transport
used_transport false transport tls = refl
used_transport true transport tls = ap (λ (t : Transport). Some t) (tls refl) ∙ ap (transport_with true) (sym (tls refl))

is_transport : (secure : Bool) (transport : Option Transport) → (IsTrue secure → IfSome transport (λ used. used ≡ Tls)) → IsTransportOf secure (param_named (codes "transport") (params_given transport)) transport
is_transport secure None tls = refl
is_transport secure (Some transport) tls = record {
  value = transport_text transport;
  transport = transport;
  given = refl;
  is = lower_transport transport;
  allowed = λ none. cc;
  means = used_transport secure transport tls;
}

-- the scheme
abbrev scheme_of : Bool → Octets
scheme_of false = codes "sip"
scheme_of true = codes "sips"

is_scheme : (secure : Bool) → IsScheme (scheme_of secure) secure
is_scheme false = refl
is_scheme true = refl

scheme_written : (secure : Bool) → scheme_text secure ≡ scheme_of secure ++ codes ":" ++ []
scheme_written false = refl
scheme_written true = refl

-- the text of a question is a URI that asks it
pub question_text-is : (question : Question) → IsAskable question → IsUri (question_text question) question
question_text-is question is = record {
  scheme = scheme_of question.secure;
  userinfo = [];
  host = host_text question.target;
  port = port_text question.port;
  params = transport_param question.transport;
  headers = [];
  given = params_given question.transport;
  host_target = question.target;
  written = ap (λ (t : Octets). t ++ host_text question.target ++ port_text question.port ++ transport_param question.transport) (scheme_written question.secure)
      ∙ sym (append-nil (scheme_of question.secure ++ codes ":" ++ [] ++ host_text question.target ++ port_text question.port ++ transport_param question.transport));
  is_scheme = is_scheme question.secure;
  is_userinfo = inr refl;
  is_host = is_host question.target is.target;
  is_port = is_port question.port is.port;
  are_params = are_params question.transport;
  is_headers = inr refl;
  once = once_pairs (params_given question.transport) (once question.transport);
  is_target = is_target question.transport question.target;
  is_transport = is_transport question.secure question.transport is.transport;
}

-- so it reads back
pub question_of-text : (question : Question) → IsAskable question → question_of (question_text question) ≡ Ok question
question_of-text question is = question_of-Ok (question_text question) question (question_text-is question is)

length-scheme_text : (secure : Bool) → length (scheme_text secure) ≤ 5
length-scheme_text false = omega arith
length-scheme_text true = omega arith

length-host_text : (target : Target) → IsHostTarget target → length (host_text target) ≤ 1004
length-host_text (Numeric (V4 n)) is = omega (arith, length-text_of_address (V4 n) is)
length-host_text (Numeric (V6 n)) is = omega (arith, length-text_of_address (V6 n) is, length-append (text_of_address6 n) (codes "]"))
length-host_text (Domain labels) is = length-text_of labels is.name

length-port_text : (port : Option ℕ) → IfSome port (λ n. (1 ≤ n) × (n ≤ 65535)) → length (port_text port) ≤ 6
length-port_text None is = omega arith
length-port_text (Some n) is =
    let greatest = is.1 in
    let digits = length-decimal-le 5 n (omega arith) (omega arith) (omega arith) in
    omega arith

length-transport_param : (transport : Option Transport) → length (transport_param transport) ≤ 15
length-transport_param None = omega arith
length-transport_param (Some Udp) = omega arith
length-transport_param (Some Tcp) = omega arith
length-transport_param (Some Tls) = omega arith
length-transport_param (Some Sctp) = omega arith

-- the text of a question is short
pub length-question_text : (question : Question) → IsAskable question → length (question_text question) ≤ 1030
length-question_text question is =
    let scheme = length-scheme_text question.secure in
    let host = length-host_text question.target is.target in
    let port = length-port_text question.port is.port in
    let transport = length-transport_param question.transport in
    let first = length-append (scheme_text question.secure) (host_text question.target) in
    let second = length-append (scheme_text question.secure ++ host_text question.target) (port_text question.port) in
    let third = length-append (scheme_text question.secure ++ host_text question.target ++ port_text question.port) (transport_param question.transport) in
    omega arith
