-- The host and the port of a URI are read exactly where the grammar has them.
use Rattle.std.proofs.Common.{◌≡◌, ℕ, Bool, true, false, not, [], ◌∷◌, ◌++◌, Option, Some, None, Result, Ok, Err, if◌then◌else◌, refl, sym, ap, subst, ◌∙◌, nat_eq, append_assoc, append-nil}
use Rattle.std.specs.List.{list_all}
use Rattle.std.proofs.lemmas.Bool.{and_parts, and_from, eqb-true, cond-false}
use Rattle.std.proofs.lemmas.List.Folds.{list_all-append}
use Rattle.sipl_names.specs.Labels.{Octets}
use Rattle.sipl_names.specs.Hostnames.{is_hostname_octet}
use Rattle.sipl_records.specs.declared.address.Address.TheVariants.{V4, V6}
use Rattle.sipl_records.specs.Parts.{split_once}
use Rattle.sipl_uri.specs.declared.fault.UriFault.{UriFault}
use Rattle.sipl_uri.specs.declared.fault.UriFault.TheVariants.{Port}
use Rattle.sipl_uri.specs.declared.question.Target.{Target}
use Rattle.sipl_uri.specs.declared.question.Target.TheVariants.{Numeric, Domain}
use Rattle.sipl_uri.specs.UriOctets.{is_param_octet}
use Rattle.sipl_uri.specs.Hosts.{host_of}
use Rattle.sipl_uri.specs.UriParts.{after_brackets, split_port}
use Rattle.sipl_uri.specs.Uris.{port_of, port_part}
use Rattle.sipl_uri.specs.Grammar.{IsHost, IsPortPart}
use Rattle.sipl_uri.proofs.Octets.{list_all-weaker, no_colon, no_bracket, hostname_param, digits_of_hostname}
use Rattle.sipl_uri.proofs.Splits.{lacks, split_once-append, split_once-lacks, split_once-joins, joined, joined-split_once}
use Rattle.sipl_uri.proofs.Hostnames.{hostname_octets}
use Rattle.sipl_uri.proofs.Hosts.{host_octets, plain_octets, inside_lacks, host_of-is, host_of-Some}
use Rattle.sipl_uri.proofs.Ports.{port_of-is, port_of-Some}

-- host [ ":" port ]
pub record IsHostport (text : Octets) (host : Target) (port : Option ℕ) : Type 0 where
  pub host_text : Octets
  pub port_text : Octets
  pub written : text ≡ host_text ++ port_text
  pub is_host : IsHost host_text host
  pub is_port : IsPortPart port_text port

-- a text that was split at its port, joined again
joined-brackets : (inside : Octets) (cut : Octets × Option Octets) → joined 58 (after_brackets inside cut) ≡ 91 ∷ inside ++ 93 ∷ joined 58 cut
joined-brackets inside (before, None) = refl
joined-brackets inside (before, Some after) = ap (λ (t : Octets). 91 ∷ t) (append_assoc inside (93 ∷ before) (58 ∷ after))

joined-port : (c : ℕ) (text : Octets) (here : Bool) (after : Option Octets) → nat_eq c 91 ≡ here → (split_once 93 text).1 ≡ after → joined 58 (if here then elim after as (λ _. Octets × Option Octets) [ Some rest ↦ after_brackets (split_once 93 text).0 (split_once 58 rest) | None ↦ (c ∷ text, None) ] else split_once 58 (c ∷ text)) ≡ c ∷ text
joined-port c text true (Some rest) e f =
    joined-brackets (split_once 93 text).0 (split_once 58 rest)
    ∙ (ap (λ (t : Octets). 91 ∷ (split_once 93 text).0 ++ 93 ∷ t) (joined-split_once 58 rest)
    ∙ (ap (λ (t : Octets). 91 ∷ t) (sym (split_once-joins 93 text rest f)) ∙ ap (λ (d : ℕ). d ∷ text) (sym (eqb-true c 91 e))))
joined-port c text true None e f = refl
joined-port c text false after e f = joined-split_once 58 (c ∷ text)

joined-split_port : (text : Octets) → joined 58 (split_port text) ≡ text
joined-split_port [] = refl
joined-split_port (c ∷ text) = joined-port c text _ _ refl refl

port_by : (digits : Octets) (read : Option ℕ) (port : Option ℕ) → port_of digits ≡ read → elim read as (λ _. Result (Option ℕ) UriFault) [ Some n ↦ Ok (Some n) | None ↦ Err Port ] ≡ Ok port → IsPortPart (58 ∷ digits) port
port_by digits (Some n) port e same =
    let is : Some n ≡ port = cc in
    subst (λ (p : Option ℕ). IsPortPart (58 ∷ digits) p) is (record { digits = digits; written = refl; is_port = port_of-is digits n e })
port_by digits None port e same = cc

hostport_by : (text host_text : Octets) (digits : Option Octets) (host : Target) (port : Option ℕ) → joined 58 (host_text, digits) ≡ text → host_of host_text ≡ Some host → port_part digits ≡ Ok port → IsHostport text host port
hostport_by text host_text (Some digits) host port whole e f = record {
  host_text = host_text;
  port_text = 58 ∷ digits;
  written = sym whole;
  is_host = host_of-is host_text host e;
  is_port = port_by digits (port_of digits) port refl f;
}
hostport_by text host_text None host port whole e f = record {
  host_text = host_text;
  port_text = [];
  written = sym (append-nil host_text ∙ whole);
  is_host = host_of-is host_text host e;
  is_port = let none : None ≡ port = cc in subst (λ (p : Option ℕ). IsPortPart [] p) none refl;
}

-- what is read as a host and a port is one
pub hostport-is : (text : Octets) (host : Target) (port : Option ℕ) → host_of (split_port text).0 ≡ Some host → port_part (split_port text).1 ≡ Ok port → IsHostport text host port
hostport-is text host port e f = hostport_by text (split_port text).0 (split_port text).1 host port (joined-split_port text) e f

-- the colon and the digits of a port
abbrev colon_digits : Option Octets → Octets
colon_digits None = []
colon_digits (Some digits) = 58 ∷ digits

split_once-digits : (digits : Option Octets) → split_once 58 (colon_digits digits) ≡ ([], digits)
split_once-digits None = refl
split_once-digits (Some digits) = refl

split_once-port : (text : Octets) (digits : Option Octets) → lacks 58 text ≡ true → split_once 58 (text ++ colon_digits digits) ≡ (text, digits)
split_once-port text None none = ap (split_once 58) (append-nil text) ∙ split_once-lacks 58 text none
split_once-port text (Some digits) none = split_once-append 58 text digits none

split_port-plain : (text : Octets) (digits : Option Octets) → list_all is_hostname_octet text ≡ true → split_port (text ++ colon_digits digits) ≡ (text, digits)
split_port-plain [] None all = refl
split_port-plain [] (Some digits) all = refl
split_port-plain (c ∷ text) digits all =
    cond-false (nat_eq c 91) _ _ (no_bracket c (and_parts (is_hostname_octet c) (list_all is_hostname_octet text) all).0)
    ∙ split_once-port (c ∷ text) digits (list_all-weaker is_hostname_octet (λ d. not (nat_eq d 58)) no_colon (c ∷ text) all)

split_port-brackets : (address : Octets) (digits : Option Octets) → lacks 93 address ≡ true → split_port ((91 ∷ address ++ 93 ∷ []) ++ colon_digits digits) ≡ (91 ∷ address ++ 93 ∷ [], digits)
split_port-brackets address digits none =
    let cut : split_once 93 (address ++ 93 ∷ colon_digits digits) ≡ (address, Some (colon_digits digits)) = split_once-append 93 address (colon_digits digits) none in
    ap (λ (t : Octets). split_port (91 ∷ t)) (append_assoc address (93 ∷ []) (colon_digits digits))
    ∙ ((λ i. elim (cut i).1 as (λ _. Octets × Option Octets) [ Some rest ↦ after_brackets (cut i).0 (split_once 58 rest) | None ↦ (91 ∷ address ++ 93 ∷ colon_digits digits, None) ])
    ∙ ap (after_brackets address) (split_once-digits digits))

-- a host ends at the colon of its port
split_port-host : (text : Octets) (host : Target) (digits : Option Octets) → IsHost text host → split_port (text ++ colon_digits digits) ≡ (text, digits)
split_port-host text (Numeric (V4 n)) digits is = split_port-plain text digits (plain_octets text n is)
split_port-host text (Numeric (V6 n)) digits is =
    subst (λ (t : Octets). split_port (t ++ colon_digits digits) ≡ (t, digits)) (sym is.written) (split_port-brackets is.address digits (inside_lacks is.address n is.is_address))
split_port-host text (Domain labels) digits is = split_port-plain text digits (hostname_octets text labels is)

port_digits : (text : Octets) (port : Option ℕ) → IsPortPart text port → (digits : Option Octets) × (text ≡ colon_digits digits) × (port_part digits ≡ Ok port)
port_digits text (Some port) is = (Some is.digits, is.written, ap (λ (read : Option ℕ). elim read as (λ _. Result (Option ℕ) UriFault) [ Some n ↦ Ok (Some n) | None ↦ Err Port ]) (port_of-Some is.digits port is.is_port))
port_digits text None is = (None, is, refl)

-- a host and a port are read
pub record ReadsHostport (text : Octets) (host : Target) (port : Option ℕ) : Type 0 where
  pub host_read : host_of (split_port text).0 ≡ Some host
  pub port_read : port_part (split_port text).1 ≡ Ok port

pub hostport-read : (text : Octets) (host : Target) (port : Option ℕ) → IsHostport text host port → ReadsHostport text host port
hostport-read text host port is =
    let digits = port_digits is.port_text port is.is_port in
    let cut : split_port text ≡ (is.host_text, digits.0) =
    ap split_port (is.written ∙ ap (λ (t : Octets). is.host_text ++ t) digits.1) ∙ split_port-host is.host_text host digits.0 is.is_host in
    record {
      host_read = ap (λ (c : Octets × Option Octets). host_of c.0) cut ∙ host_of-Some is.host_text host is.is_host;
      port_read = ap (λ (c : Octets × Option Octets). port_part c.1) cut ∙ digits.2;
    }

port_octets : (text : Octets) (port : Option ℕ) → IsPortPart text port → list_all is_param_octet text ≡ true
port_octets text (Some port) is =
    ap (list_all is_param_octet) is.written ∙ list_all-weaker is_hostname_octet is_param_octet hostname_param is.digits (digits_of_hostname is.digits is.is_port.digits_only)
port_octets text None is = ap (list_all is_param_octet) is

-- the octets of a host and a port are those of a parameter
pub hostport_octets : (text : Octets) (host : Target) (port : Option ℕ) → IsHostport text host port → list_all is_param_octet text ≡ true
hostport_octets text host port is =
    ap (list_all is_param_octet) is.written ∙ (list_all-append is_param_octet is.host_text is.port_text ∙ and_from _ _ (host_octets is.host_text host is.is_host) (port_octets is.port_text port is.is_port))
