use Rattle.std.proofs.Common.{rules, ◌≡◌, true, false, Some, ◌<◌, ◌^◌, [], ◌∷◌, take, ap, sym, ◌∙◌}
use Rattle.std.specs.Net.Addr.{IsIpv4OfBits}
use Rattle.sipl_records.specs.Ipv4.{number_of_text}
use Rattle.sipl_records.specs.Numbers.{number_of}
use Rattle.sipl_records.specs.Parts.{split_once}
use Rattle.sipl_lines.proofs.Listening.{listen_at-Some, listen_at-elsewhere, listen_at-zero}
use Rattle.sipl_lines.proofs.settings.values.loopback_socket.Goals as goal
use Rattle.sipl_lines.proofs.settings.values.loopback_socket.Goals.{then-not-is_loopback-via-then-not-is_loopback, then-not-is_loopback-via-else-not-is_loopback+then-port-eq0}

pub returns-then-not-is_loopback : goal.returns-then-not-is_loopback
unfolding IsIpv4OfBits
returns-then-not-is_loopback c =
    let small : c.in_ok-ok.field-0 < 2 ^ 32 = search rules in
    let address : number_of_text c.split_once.result.0.now ≡ Some c.in_ok-ok.field-0 = search rules in
    let after : Some c.in_ok-digits.field-0.now ≡ (split_once 58 c.args.text.now).1 = search rules in
    let port : Some c.in_ok-port.port ≡ number_of c.in_ok-digits.field-0.now 65535 = search rules in
    elim c.then-not-is_loopback.branch [
      | then-not-is_loopback-via-then-not-is_loopback w ↦ sym (listen_at-elsewhere c.args.text.now _ _ _ _ _ c.split_once.ensures.before after address port small c.from_bits-ip.ensures (λ first. let never : true ≡ false = sym (c.is_loopback.ensures.1 first) ∙ w.if-not-is_loopback.true in cc))
      | then-not-is_loopback-via-else-not-is_loopback+then-port-eq0 w ↦ sym (listen_at-zero c.args.text.now _ _ _ _ _ c.split_once.ensures.before after address port small c.from_bits-ip.ensures w.if-port-eq0.true)
    ]

pub returns : goal.returns
unfolding IsIpv4OfBits
returns c =
    let small : c.in_ok-ok.field-0 < 2 ^ 32 = search rules in
    let address : number_of_text c.split_once.result.0.now ≡ Some c.in_ok-ok.field-0 = search rules in
    let after : Some c.in_ok-digits.field-0.now ≡ (split_once 58 c.args.text.now).1 = search rules in
    let port : Some c.in_ok-port.port ≡ number_of c.in_ok-digits.field-0.now 65535 = search rules in
    let first : take 1 c.from_bits-ip.result.octets ≡ 127 ∷ [] = search rules in
    ap (λ s. Some s) (λ i. record { ip = c.new.ensures.ip i; port = c.new.ensures.port i })
    ∙ sym (listen_at-Some c.args.text.now _ _ _ _ _ c.split_once.ensures.before after address port small c.from_bits-ip.ensures first c.if-port-eq0.false)
