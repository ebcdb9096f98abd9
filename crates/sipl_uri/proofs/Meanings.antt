-- What `transport` and `maddr` mean for the question.
use Rattle.std.proofs.Common.{◌≡◌, Bool, true, false, Option, Some, None, Result, Ok, Err, if◌then◌else◌, refl, sym, ap, subst, ◌∙◌}
use Rattle.std.specs.Prelude.{ℕ, codes}
use Rattle.std.specs.Option.{unwrap_or}
use Rattle.std.specs.Str.{str_to_ascii_lowercase}
use lib.Pointwise.{bytes_decides}
use Rattle.sipl_names.specs.Labels.{Octets}
use Rattle.sipl_choice.specs.Transports.{transport_named, transport_text}
use Rattle.sipl_choice.specs.declared.transport.Transport.{Transport}
use Rattle.sipl_choice.specs.declared.transport.Transport.TheVariants.{Udp, Tcp, Tls, Sctp}
use Rattle.sipl_uri.specs.declared.fault.UriFault.{UriFault}
use Rattle.sipl_uri.specs.declared.fault.UriFault.TheVariants.{SipsTransport}
use Rattle.sipl_uri.specs.declared.question.Question.{Question}
use Rattle.sipl_uri.specs.declared.question.Target.{Target}
use Rattle.sipl_uri.specs.Params.{Param, same_text, transport_of_value, target_of_value}
use Rattle.sipl_uri.specs.Uris.{transport_with, question_over}
use Rattle.sipl_uri.specs.Grammar.{IsHost, IsTargetOf, IsTransport, IsTransportOf}
use Rattle.sipl_uri.proofs.Hosts.{host_of-is, host_of-Some}
use Rattle.sipl_uri.proofs.TakenParams.{IsGiven, IsReadable}

named_by : (text : Octets) (transport : Transport) (udp tcp tls sctp : Bool) → same_text text (codes "udp") ≡ udp → same_text text (codes "tcp") ≡ tcp → same_text text (codes "tls") ≡ tls → same_text text (codes "sctp") ≡ sctp → (if udp then Some Udp else (if tcp then Some Tcp else (if tls then Some Tls else (if sctp then Some Sctp else None)))) ≡ Some transport → text ≡ transport_text transport
named_by text transport true tcp tls sctp e f g h same = let is : Udp ≡ transport = cc in (bytes_decides text (codes "udp")).0 e ∙ ap transport_text is
named_by text transport false true tls sctp e f g h same = let is : Tcp ≡ transport = cc in (bytes_decides text (codes "tcp")).0 f ∙ ap transport_text is
named_by text transport false false true sctp e f g h same = let is : Tls ≡ transport = cc in (bytes_decides text (codes "tls")).0 g ∙ ap transport_text is
named_by text transport false false false true e f g h same = let is : Sctp ≡ transport = cc in (bytes_decides text (codes "sctp")).0 h ∙ ap transport_text is
named_by text transport false false false false e f g h same = cc

-- the transport of a text is written so
transport_named-is : (text : Octets) (transport : Transport) → transport_named text ≡ Some transport → text ≡ transport_text transport
transport_named-is text transport e = named_by text transport _ _ _ _ refl refl refl refl e

pub transport_named-text : (transport : Transport) → transport_named (transport_text transport) ≡ Some transport
transport_named-text Udp = refl
transport_named-text Tcp = refl
transport_named-text Tls = refl
transport_named-text Sctp = refl

-- the transport that is used in place of the one that is given, if one is
abbrev pub IsUsed : Bool → Option Transport → Option Transport → Type 0
IsUsed secure None used = used ≡ None
IsUsed secure (Some transport) used = (x : Transport) × (transport_with secure transport ≡ Some x) × (used ≡ Some x)

pub record Asks (secure : Bool) (target : Target) (port : Option ℕ) (transport : Option Transport) (question : Question) : Type 0 where
  pub used : Option Transport
  pub is_used : IsUsed secure transport used
  pub same : record { secure = secure; target = target; port = port; transport = used } ≡ question

question_over-by : (secure : Bool) (target : Target) (port : Option ℕ) (transport : Transport) (used : Option Transport) (question : Question) → transport_with secure transport ≡ used → elim used as (λ _. Result Question UriFault) [ Some x ↦ Ok (record { secure = secure; target = target; port = port; transport = Some x }) | None ↦ Err SipsTransport ] ≡ Ok question → Asks secure target port (Some transport) question
question_over-by secure target port transport (Some x) question e same = record { used = Some x; is_used = (x, e, refl); same = cc }
question_over-by secure target port transport None question e same = cc

-- the question that is asked over a transport
pub question_over-is : (secure : Bool) (target : Target) (port : Option ℕ) (transport : Option Transport) (question : Question) → question_over secure target port transport ≡ Ok question → Asks secure target port transport question
question_over-is secure target port None question same = record { used = None; is_used = refl; same = cc }
question_over-is secure target port (Some transport) question same = question_over-by secure target port transport (transport_with secure transport) question refl same

target_value : (value : Option Octets) (target : Target) → target_of_value value ≡ Some target → (text : Octets) × (value ≡ Some text) × IsHost text target
target_value (Some text) target e = (text, refl, host_of-is text target e)
target_value None target e = cc

-- the target of a URI
pub target-is : (maddr : Option Param) (host : Target) (given : Option Target) → IsGiven target_of_value maddr None given → IsTargetOf maddr host (unwrap_or given host)
target-is None host given is = ap (λ (o : Option Target). unwrap_or o host) is
target-is (Some maddr) host given is =
    subst (λ (o : Option Target). IsTargetOf (Some maddr) host (unwrap_or o host)) (sym is.2) (target_value maddr.value is.0 is.1)

transport_value : (value : Option Octets) (transport : Transport) → transport_of_value value ≡ Some transport → (text : Octets) × (value ≡ Some text) × (str_to_ascii_lowercase text ≡ transport_text transport)
transport_value (Some text) transport e = (text, refl, transport_named-is (str_to_ascii_lowercase text) transport e)
transport_value None transport e = cc

some_used : (x : Transport) (used : Option Transport) → used ≡ Some x → used ≡ None → ⊥
some_used x used is none = let absent : ◌≡◌ {A = Option Transport} (Some x) None = sym is ∙ none in cc

-- the transport of a URI
pub transport-is : (secure : Bool) (param : Option Param) (given used : Option Transport) → IsGiven transport_of_value param None given → IsUsed secure given used → IsTransportOf secure param used
transport-is secure None given used is means = subst (λ (o : Option Transport). IsUsed secure o used) is means
transport-is secure (Some param) given used is means =
    let value = transport_value param.value is.0 is.1 in
    let found : IsUsed secure (Some is.0) used = subst (λ (o : Option Transport). IsUsed secure o used) is.2 means in
    record {
      value = value.0;
      transport = is.0;
      given = value.1;
      is = value.2;
      allowed = some_used found.0 used found.2;
      means = found.2 ∙ sym found.1;
    }

transport_of_value-is : (param : Param) (secure : Bool) (used : Option Transport) → (is : IsTransport secure param used) → transport_of_value param.value ≡ Some is.transport
transport_of_value-is param secure used is =
    ap transport_of_value is.given ∙ (ap transport_named is.is ∙ transport_named-text is.transport)

pub readable_transport : (secure : Bool) (param : Option Param) (used : Option Transport) → IsTransportOf secure param used → IsReadable transport_of_value param
readable_transport secure None used is = tt
readable_transport secure (Some param) used is = (is.transport, transport_of_value-is param secure used is)

pub readable_target : (maddr : Option Param) (host target : Target) → IsTargetOf maddr host target → IsReadable target_of_value maddr
readable_target None host target is = tt
readable_target (Some maddr) host target is = (target, ap target_of_value is.1 ∙ host_of-Some is.0 target is.2)

same_some : {A : Type 0} (x y : A) → Some x ≡ Some y → x ≡ y
same_some x y e = cc

-- the target that is read is the one that is given
pub target-read : (maddr : Option Param) (host target : Target) (given : Option Target) → IsGiven target_of_value maddr None given → IsTargetOf maddr host target → unwrap_or given host ≡ target
target-read None host target given is of = ap (λ (o : Option Target). unwrap_or o host) is ∙ sym of
target-read (Some maddr) host target given is of =
    let read : target_of_value maddr.value ≡ Some target = ap target_of_value of.1 ∙ host_of-Some of.0 target of.2 in
    ap (λ (o : Option Target). unwrap_or o host) is.2 ∙ same_some is.0 target (sym is.1 ∙ read)

over_by : (secure : Bool) (target : Target) (port : Option ℕ) (transport : Transport) (used found : Option Transport) → (used ≡ None → ⊥) → used ≡ transport_with secure transport → transport_with secure transport ≡ found → question_over secure target port (Some transport) ≡ Ok (record { secure = secure; target = target; port = port; transport = used })
over_by secure target port transport used None allowed means e = absurd (allowed (means ∙ e))
over_by secure target port transport used (Some x) allowed means e =
    ap (λ (o : Option Transport). elim o as (λ _. Result Question UriFault) [ Some y ↦ Ok (record { secure = secure; target = target; port = port; transport = Some y }) | None ↦ Err SipsTransport ]) e
    ∙ ap (λ (o : Option Transport). Ok (record { secure = secure; target = target; port = port; transport = o })) (sym (means ∙ e))

-- and so is the question over its transport
pub question_over-read : (secure : Bool) (target : Target) (port : Option ℕ) (param : Option Param) (given used : Option Transport) → IsGiven transport_of_value param None given → IsTransportOf secure param used → question_over secure target port given ≡ Ok (record { secure = secure; target = target; port = port; transport = used })
question_over-read secure target port None given used is of =
    ap (question_over secure target port) is ∙ ap (λ (o : Option Transport). Ok (record { secure = secure; target = target; port = port; transport = o })) (sym of)
question_over-read secure target port (Some param) given used is of =
    let same : is.0 ≡ of.transport = same_some is.0 of.transport (sym is.1 ∙ transport_of_value-is param secure used of) in
    ap (question_over secure target port) (is.2 ∙ ap (λ (t : Transport). Some t) same)
    ∙ over_by secure target port of.transport used (transport_with secure of.transport) of.allowed of.means refl
