use Rattle.std.proofs.Common.{◌≡◌, true, ◌∙◌, ap, sym, [], None, Some}
use Rattle.sipl_uri.specs.UriParts.{Parts, parts_of}
use Rattle.sipl_uri.specs.Uris.{has_allowed_octets}
use Rattle.sipl_uri.proofs.PlainParts.{parts_of-hostname, parts_of-hostport, free-hostname, free-hostport}
use Rattle.sipl_uri.proofs.parts.split_plain.Goals as goal

alone : (c : goal.Then-is_empty) → (has_allowed_octets c.args.text.now ≡ true) × (parts_of c.args.text.now ≡ record { host = c.split_hostname.result.0.now; port = None; params = [] })
alone c = parts_of-hostname c.args.text.now c.split_hostname.result.0.now c.split_hostname.result.1.now c.split_hostname.ensures.whole c.split_hostname.ensures.host (sym c.is_empty.ensures ∙ c.if-is_empty.true)

pub returns-then-is_empty-clause-allowed : goal.returns-then-is_empty-clause-allowed
returns-then-is_empty-clause-allowed c = (alone c).0

pub returns-then-is_empty-clause-host : goal.returns-then-is_empty-clause-host
returns-then-is_empty-clause-host c = sym (ap (λ (p : Parts). p.host) (alone c).1)

pub returns-then-is_empty-clause-port : goal.returns-then-is_empty-clause-port
returns-then-is_empty-clause-port c = sym (ap (λ (p : Parts). p.port) (alone c).1)

pub returns-then-is_empty-clause-params : goal.returns-then-is_empty-clause-params
returns-then-is_empty-clause-params c = sym (ap (λ (p : Parts). p.params) (alone c).1)

with_port : (c : goal.Else-not-are_digits) → (has_allowed_octets c.args.text.now ≡ true) × (parts_of c.args.text.now ≡ record { host = c.split_hostname.result.0.now; port = Some c.in_ok-digits.digits.now; params = [] })
with_port c = parts_of-hostport c.args.text.now c.split_hostname.result.0.now c.split_hostname.result.1.now c.in_ok-digits.digits.now c.split_hostname.ensures.whole c.in_ok-digits.ensures c.split_hostname.ensures.host (sym c.are_digits.ensures ∙ c.if-not-are_digits.false)

pub returns-clause-allowed : goal.returns-clause-allowed
returns-clause-allowed c = (with_port c).0

pub returns-clause-host : goal.returns-clause-host
returns-clause-host c = sym (ap (λ (p : Parts). p.host) (with_port c).1)

pub returns-clause-port : goal.returns-clause-port
returns-clause-port c = sym (ap (λ (p : Parts). p.port) (with_port c).1)

pub returns-clause-params : goal.returns-clause-params
returns-clause-params c = sym (ap (λ (p : Parts). p.params) (with_port c).1)

pub returns-then-is_empty-clause-octets : goal.returns-then-is_empty-clause-octets
returns-then-is_empty-clause-octets c =
    free-hostname c.args.text.now c.split_hostname.result.0.now c.split_hostname.result.1.now c.split_hostname.ensures.whole c.split_hostname.ensures.host (sym c.is_empty.ensures ∙ c.if-is_empty.true)

pub returns-clause-octets : goal.returns-clause-octets
returns-clause-octets c =
    free-hostport c.args.text.now c.split_hostname.result.0.now c.split_hostname.result.1.now c.in_ok-digits.digits.now c.split_hostname.ensures.whole c.in_ok-digits.ensures c.split_hostname.ensures.host (sym c.are_digits.ensures ∙ c.if-not-are_digits.false)
