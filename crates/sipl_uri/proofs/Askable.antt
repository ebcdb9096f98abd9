-- A question that a text asks is one that a URI can ask.
use Rattle.std.proofs.Common.{◌≡◌, ℕ, ◌<◌, ◌≤◌, Bool, true, [], ◌∷◌, ◌++◌, map, Option, Some, None, Ok, refl, sym, ap, subst, ◌∙◌, arith}
use Rattle.std.specs.Prelude.{codes, IsTrue, IfSome}
use Rattle.std.specs.List.{AllByRecursion, list_all}
use Rattle.std.specs.Char.{to_ascii_lowercase}
use Rattle.std.specs.Str.{str_to_ascii_lowercase}
use Rattle.std.proofs.lemmas.Bool.{and_parts, and_from}
use Rattle.sipl_names.specs.Labels.{Octets, Labels, IsLabel}
use Rattle.sipl_names.specs.Hostnames.{is_label_octet, has_alphabetic_top}
use Rattle.sipl_names.proofs.Public.{lowered_label}
use Rattle.sipl_records.specs.declared.address.Address.TheVariants.{V4, V6}
use Rattle.sipl_choice.specs.declared.transport.Transport.{Transport}
use Rattle.sipl_choice.specs.declared.transport.Transport.TheVariants.{Udp, Tcp, Tls, Sctp}
use Rattle.sipl_uri.specs.declared.question.Question.{Question}
use Rattle.sipl_uri.specs.declared.question.Target.{Target}
use Rattle.sipl_uri.specs.declared.question.Target.TheVariants.{Numeric, Domain}
use Rattle.sipl_uri.specs.Params.{Param}
use Rattle.sipl_uri.specs.Uris.{transport_with, question_of}
use Rattle.sipl_uri.specs.Grammar.{IsDomainLabel, IsHostname, IsHost, IsPortPart, IsTargetOf, IsTransportOf, IsUri, param_named}
use Rattle.sipl_uri.specs.QuestionText.{IsHostnameLabels, IsHostTarget, IsAskable}
use Rattle.sipl_uri.proofs.Octets.{implied, small, of_hostname}
use Rattle.sipl_uri.proofs.Hostnames.{label_fault-None, has_alphabetic_top-lower}
use Rattle.sipl_uri.proofs.AddressBounds.{all_append, number_small, number6_small}
use Rattle.sipl_uri.proofs.Grammar.{question_of-is}

small_label : (c : ℕ) → is_label_octet c ≡ true → c < 128
small_label c is = small c (of_hostname c is)

octets_small : (label : Octets) → list_all is_label_octet label ≡ true → AllByRecursion (λ octet. octet < 256) label
octets_small [] all = tt
octets_small (c ∷ label) all =
    let both = and_parts (is_label_octet c) (list_all is_label_octet label) all in
    let below = small_label c both.0 in
    (omega arith, octets_small label both.1)

lower_octet : (c : ℕ) → is_label_octet c ≡ true → is_label_octet (to_ascii_lowercase c) ≡ true
lower_octet c is = implied 128 is_label_octet (λ k. is_label_octet (to_ascii_lowercase k)) refl c (small_label c is) is

lower_octets : (label : Octets) → list_all is_label_octet label ≡ true → list_all is_label_octet (str_to_ascii_lowercase label) ≡ true
lower_octets [] all = refl
lower_octets (c ∷ label) all =
    let both = and_parts (is_label_octet c) (list_all is_label_octet label) all in
    and_from _ _ (lower_octet c both.0) (lower_octets label both.1)

-- the labels of a hostname, in lower case
lower_labels : (labels : Labels) → AllByRecursion IsDomainLabel labels → AllByRecursion IsLabel (map str_to_ascii_lowercase labels)
lower_labels [] each = tt
lower_labels (label ∷ labels) each =
    (lowered_label label (label_fault-None label each.0) (octets_small label each.0.octets), lower_labels labels each.1)

lower_labels_octets : (labels : Labels) → AllByRecursion IsDomainLabel labels → AllByRecursion (λ label. IsTrue (list_all is_label_octet label)) (map str_to_ascii_lowercase labels)
lower_labels_octets [] each = tt
lower_labels_octets (label ∷ labels) each = (lower_octets label each.0.octets, lower_labels_octets labels each.1)

hostname_labels : (text : Octets) (labels : Labels) → IsHostname text labels → IsHostnameLabels labels
hostname_labels text labels is =
    let each = all_append IsDomainLabel is.domains (is.top ∷ []) is.domain_labels (is.top_label.domain_label, tt) in
    record {
      name = record { each = subst (λ (ls : Labels). AllByRecursion IsLabel ls) (sym is.name) (lower_labels (is.domains ++ is.top ∷ []) each); short = is.short };
      octets = subst (λ (ls : Labels). AllByRecursion (λ label. IsTrue (list_all is_label_octet label)) ls) (sym is.name) (lower_labels_octets (is.domains ++ is.top ∷ []) each);
      top = ap (λ (ls : Labels). has_alphabetic_top ls) is.name ∙ (has_alphabetic_top-lower is.domains is.top ∙ is.top_label.letter);
    }

-- the target of a host
host_target : (text : Octets) (target : Target) → IsHost text target → IsHostTarget target
host_target text (Numeric (V4 n)) is = number_small text n is
host_target text (Numeric (V6 n)) is = number6_small is.address n is.is_address
host_target text (Domain labels) is = hostname_labels text labels is

-- the target of a URI
uri_target : (text : Octets) (maddr : Option Param) (host target : Target) → IsHost text host → IsTargetOf maddr host target → IsHostTarget target
uri_target text None host target is of = subst (λ (t : Target). IsHostTarget t) (sym of) (host_target text host is)
uri_target text (Some maddr) host target is of = host_target of.0 target of.2

uri_port : (text : Octets) (port : Option ℕ) → IsPortPart text port → IfSome port (λ n. (1 ≤ n) × (n ≤ 65535))
uri_port text None is = tt
uri_port text (Some n) is = (is.is_port.least, is.is_port.greatest)

secure_transport : (transport : Transport) (used : Option Transport) → used ≡ transport_with true transport → IfSome used (λ t. t ≡ Tls)
secure_transport transport None e = tt
secure_transport Tcp (Some t) e = cc
secure_transport Tls (Some t) e = cc
secure_transport Udp (Some t) e = cc
secure_transport Sctp (Some t) e = cc

uri_transport : (secure : Bool) (param : Option Param) (used : Option Transport) → IsTransportOf secure param used → IsTrue secure → IfSome used (λ t. t ≡ Tls)
uri_transport secure None used is with_sips = subst (λ (o : Option Transport). IfSome o (λ t. t ≡ Tls)) (sym is) tt
uri_transport secure (Some param) used is with_sips = secure_transport is.transport used (is.means ∙ ap (λ (b : Bool). transport_with b is.transport) with_sips)

-- the question of a URI
pub uri_askable : (text : Octets) (question : Question) → IsUri text question → IsAskable question
uri_askable text question is = record {
  target = uri_target is.host (param_named (codes "maddr") is.given) is.host_target question.target is.is_host is.is_target;
  port = uri_port is.port question.port is.is_port;
  transport = uri_transport question.secure (param_named (codes "transport") is.given) question.transport is.is_transport;
}

pub question_of-askable : (text : Octets) (question : Question) → question_of text ≡ Ok question → IsAskable question
question_of-askable text question e = uri_askable text question (question_of-is text question e)
