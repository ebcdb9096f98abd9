use Rattle.std.proofs.Common.{◌≡◌, ◌<◌, ◌+◌, ◌-◌, ℕ, Some, length, set, get_or, true, false, nat_eq, arith, refl, ap, sym, subst, ◌∙◌}
use Rattle.std.proofs.Math.ListN.{length-set}
use Rattle.std.proofs.lemmas.Bool.Decides.{nat_tests}
use Rattle.std.specs.Char.{is_ascii_lowercase}
use Rattle.sipl_names.specs.Labels.{Octets}
use Rattle.sipl_names.specs.HostnameWires.{wire_octet_of}
use Rattle.sipl_names.proofs.ReadHostname.{IsHostnameReadTo, hostname_start, hostname_octet, hostname_dot, hostname_end}
use Rattle.sipl_names.proofs.hostname.read_plain.Goals as goal
use Rattle.sipl_names.proofs.hostname.read_plain.Goals.{then-octet-eq46+else-end-start, else-octet-eq46}

pub loop-end-init : goal.loop-end-init
loop-end-init c = record {
  size = length-set {A = ℕ} c.args.wire.now 0 0 ∙ c.told-wire;
  read = hostname_start c.args.text.now c.args.wire.now c.told-wire;
}

pub loop-end-preserved : goal.loop-end-preserved
loop-end-preserved c =
    let text : Octets = c.args.text.now in
    let wire : Octets = c.loop-end.wire in
    let start : ℕ = c.loop-end.start in
    let end : ℕ = c.loop-end.end in
    let kept : ℕ = c.in_ok-kept.kept in
    let here : ℕ = get_or text end 0 in
    let inside : end < length text = omega (arith, c.loop-end-test.true) in
    let small : here < 256 = (c.type_inv.text end).fits in
    let written : wire_octet_of here ≡ Some kept = sym c.wire_octet.ensures ∙ c.in_ok-kept.was in
    let wide : length c.if-octet-eq46.wire ≡ 64 = elim c.if-octet-eq46.branch [
      | then-octet-eq46+else-end-start w ↦ ap length w.wire-is ∙ length-set {A = ℕ} wire start (end - start) ∙ c.loop-end.invariant.size
      | else-octet-eq46 w ↦ ap length w.wire-is ∙ c.loop-end.invariant.size
    ] in
    record {
      size = length-set {A = ℕ} c.if-octet-eq46.wire (end + 1) kept ∙ wide;
      read = elim c.if-octet-eq46.branch [
        | then-octet-eq46+else-end-start w ↦
            let same : nat_eq here 46 ≡ true = grind (arith, nat_tests, w.if-octet-eq46.true) in
            let more : start < end = omega (arith, w.if-end-start.false, c.loop-end.invariant.read.begun) in
            subst (λ (x : Octets). IsHostnameReadTo text (set x (end + 1) kept) c.if-octet-eq46.start (end + 1)) (sym w.wire-is)
            (subst (λ (s : ℕ). IsHostnameReadTo text (set (set wire start (end - start)) (end + 1) kept) s (end + 1)) (sym w.start-is)
            (hostname_dot text wire start end here kept c.loop-end.invariant.size c.if-text-gt-MAX_PLAIN_LEN.false inside refl more same written c.loop-end.invariant.read))
        | else-octet-eq46 w ↦
            let other : nat_eq here 46 ≡ false = grind (arith, nat_tests, w.if-octet-eq46.false) in
            subst (λ (x : Octets). IsHostnameReadTo text (set x (end + 1) kept) c.if-octet-eq46.start (end + 1)) (sym w.wire-is)
            (subst (λ (s : ℕ). IsHostnameReadTo text (set wire (end + 1) kept) s (end + 1)) (sym w.start-is)
            (hostname_octet text wire start end here kept c.loop-end.invariant.size c.if-text-gt-MAX_PLAIN_LEN.false inside refl small other written c.loop-end.invariant.read))
      ];
    }

pub returns-clause-read : goal.returns-clause-read
returns-clause-read c =
    let text : Octets = c.args.text.now in
    let same : c.loop-end.end ≡ length text = omega (arith, c.loop-end-test.false) in
    let more : c.loop-end.start < length text = omega (arith, c.if-start-text.false, c.loop-end.invariant.read.begun) in
    let letter : is_ascii_lowercase (get_or c.loop-end.wire (c.loop-end.start + 1) 0) ≡ true = sym c.is_ascii_lowercase.ensures.value ∙ c.if-not-is_ascii_lowercase.false in
    hostname_end text c.loop-end.wire c.loop-end.start c.loop-end.invariant.size c.if-text-gt-MAX_PLAIN_LEN.false more letter (subst (λ (n : ℕ). IsHostnameReadTo text c.loop-end.wire c.loop-end.start n) same c.loop-end.invariant.read)
