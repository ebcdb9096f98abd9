use Rattle.std.proofs.Common.{◌≡◌, ◌∷◌, ◌++◌, ◌∙◌, ap, sym}
use Rattle.sipl_uri.specs.UriParts.{Parts, parts_of}
use Rattle.sipl_uri.proofs.UserParts.{user_allowed, user_parts}
use Rattle.sipl_uri.proofs.parts.split_after_user.Goals as goal

whole : (c : goal.Else-not-has_uri_octets) → c.args.text.now ≡ c.split_once.result.0.now ++ 64 ∷ c.in_ok-hostport.hostport.now
whole c = rw c.in_ok-hostport.was at c.split_once.ensures.whole

same : (c : goal.Else-not-has_uri_octets) → parts_of c.args.text.now ≡ parts_of c.in_ok-hostport.hostport.now
same c = user_parts c.args.text.now c.split_once.result.0.now c.in_ok-hostport.hostport.now (whole c) c.split_once.ensures.before (sym c.has_uri_octets.ensures ∙ c.if-not-has_uri_octets.false) c.in_ok-parts.ensures.octets

pub returns-clause-allowed : goal.returns-clause-allowed
returns-clause-allowed c = user_allowed c.args.text.now c.split_once.result.0.now c.in_ok-hostport.hostport.now (whole c) c.split_once.ensures.before (sym c.has_uri_octets.ensures ∙ c.if-not-has_uri_octets.false) c.in_ok-parts.ensures.octets

pub returns-clause-host : goal.returns-clause-host
returns-clause-host c = c.in_ok-parts.ensures.host ∙ sym (ap (λ (p : Parts). p.host) (same c))

pub returns-clause-port : goal.returns-clause-port
returns-clause-port c = c.in_ok-parts.ensures.port ∙ sym (ap (λ (p : Parts). p.port) (same c))

pub returns-clause-params : goal.returns-clause-params
returns-clause-params c = c.in_ok-parts.ensures.params ∙ sym (ap (λ (p : Parts). p.params) (same c))
