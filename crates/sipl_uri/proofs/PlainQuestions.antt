-- The question of a hostname with a port or without.
use Rattle.std.proofs.Common.{◌≡◌, ℕ, Bool, true, [], ◌∷◌, ◌++◌, Option, None, Some, Result, Ok, Err, OnErr, if◌then◌else◌, refl, sym, ap, ◌∙◌, append-nil}
use Rattle.std.specs.Prelude.{MatchOption}
use Rattle.std.specs.List.{list_all}
use Rattle.std.specs.Option.{option_copied}
use Rattle.std.specs.Borrow.{Bor}
use Rattle.sipl_names.specs.Labels.{Octets, Labels}
use Rattle.sipl_names.specs.Hostnames.{is_hostname_octet, hostname_of}
use Rattle.sipl_uri.specs.declared.question.Question.{Question}
use Rattle.sipl_uri.specs.declared.question.Target.{Target}
use Rattle.sipl_uri.specs.declared.question.Target.TheVariants.{Domain}
use Rattle.sipl_uri.specs.declared.fault.UriFault.{UriFault}
use Rattle.sipl_uri.specs.declared.fault.UriFault.TheVariants.{Characters, Host, Port}
use Rattle.sipl_uri.specs.UriParts.{Parts, parts_of}
use Rattle.sipl_uri.specs.Params.{no_settings}
use Rattle.sipl_uri.specs.Uris.{has_allowed_octets, port_of, port_part, question_to, question_of_parts, question_after_scheme}
use Rattle.sipl_uri.proofs.Hostnames.{hostname_of-is, hostname_octets}
use Rattle.sipl_uri.proofs.Hosts.{host_of-Some}
use Rattle.sipl_uri.proofs.Ports.{port_of-is}
use Rattle.sipl_uri.proofs.PlainParts.{parts_of-hostname, parts_of-hostport}

-- the text is the host, or the host, a colon and the text of the port
abbrev pub IsSplit : Octets → Octets → Option (Bor Octets) → Type 0
IsSplit text host after = MatchOption after (text ≡ host) (λ digits. text ≡ host ++ 58 ∷ digits.now)

-- the parts of a host of a hostname's octets, and of a port
record ArePlain (text host : Octets) (after : Option (Bor Octets)) : Type 0 where
  allowed : has_allowed_octets text ≡ true
  parts : parts_of text ≡ record { host = host; port = option_copied after; params = [] }

with_port : (text host : Octets) (digits : Bor Octets) (number port : Option ℕ) → text ≡ host ++ 58 ∷ digits.now → port_of digits.now ≡ number → elim number as (λ _. Result (Option ℕ) UriFault) [ Some n ↦ Ok (Some n) | None ↦ Err Port ] ≡ Ok port → list_all is_hostname_octet host ≡ true → ArePlain text host (Some digits)
with_port text host digits (Some n) port whole is read all =
    let plain = parts_of-hostport text host (58 ∷ digits.now) digits.now whole refl all (port_of-is digits.now n is).digits_only in
    record { allowed = plain.0; parts = plain.1 }
with_port text host digits None port whole is read all = cc

are_plain : (text host : Octets) (after : Option (Bor Octets)) (port : Option ℕ) → IsSplit text host after → port_part (option_copied after) ≡ Ok port → list_all is_hostname_octet host ≡ true → ArePlain text host after
are_plain text host None port whole read all =
    let plain = parts_of-hostname text host [] (whole ∙ sym (append-nil host)) all refl in
    record { allowed = plain.0; parts = plain.1 }
are_plain text host (Some digits) port whole read all = with_port text host digits (port_of digits.now) port whole refl read all

pub plain_allowed : (text host : Octets) (after : Option (Bor Octets)) (port : Option ℕ) → IsSplit text host after → port_part (option_copied after) ≡ Ok port → list_all is_hostname_octet host ≡ true → has_allowed_octets text ≡ true
plain_allowed text host after port whole read all = (are_plain text host after port whole read all).allowed

pub plain_question : (secure : Bool) (text host : Octets) (after : Option (Bor Octets)) (port : Option ℕ) (labels : Labels) → IsSplit text host after → port_part (option_copied after) ≡ Ok port → hostname_of host ≡ Some labels → question_after_scheme secure text ≡ Ok (record { secure = secure; target = Domain labels; port = port; transport = None })
plain_question secure text host after port labels whole read named =
    let is = hostname_of-is host labels named in
    let plain = are_plain text host after port whole read (hostname_octets host labels is) in
    ap (λ (b : Bool). if b then question_of_parts secure (parts_of text) else Err Characters) plain.allowed
    ∙ ap (λ (parts : Parts). question_of_parts secure parts) plain.parts
    ∙ ap (λ (target : Option Target). elim target as (λ _. Result Question UriFault) [ Some t ↦ question_to secure t (port_part (option_copied after)) (Ok no_settings) | None ↦ Err Host ]) (host_of-Some host (Domain labels) is)
    ∙ ap (λ (p : Result (Option ℕ) UriFault). question_to secure (Domain labels) p (Ok no_settings)) read

-- what holds of an error holds if there is one
pub on_err : {T E P : Type 0} (result : Result T E) → P → OnErr result P
on_err (Ok value) held = tt
on_err (Err fault) held = held
