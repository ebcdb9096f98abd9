use Rattle.std.proofs.Common.{◌≡◌, ◌++◌, Ok, map, ap, ◌∙◌, sym, subst, arith}
use Rattle.std.specs.Str.{str_to_ascii_lowercase}
use Rattle.sipl_names.specs.Labels.{Octets, wire_of, prefixed_of}
use Rattle.sipl_names.specs.LabelSlices.{octets_of}
use Rattle.sipl_names.specs.Wire.{IsNameWire, labels_of_wire}
use Rattle.sipl_names.proofs.Prefixes.{prefix_long, prefix_short, prefix_made}
use Rattle.sipl_names.proofs.name.Name.prefixed.Goals as goal
use Rattle.sipl_names.proofs.name.Name.prefixed.Goals.{In_ok-extend_from_slice}

pub returns-then-len-ge-MAX_NAME_LEN-clause-refused :
    goal.returns-then-len-ge-MAX_NAME_LEN-clause-refused
returns-then-len-ge-MAX_NAME_LEN-clause-refused c =
    prefix_long (octets_of c.args.labels.now) c.args.self.now c.self.inside.wire c.saturating_add-len.result c.in_ok-checked_wire_len.ensures.faultless c.self.invariant c.self.view_is (omega (arith, c.in_ok-checked_wire_len.ensures.len)) c.if-len-ge-MAX_NAME_LEN.true

made : (c : In_ok-extend_from_slice) → IsNameWire c.extend_from_slice.new.self.items × (prefixed_of (octets_of c.args.labels.now) c.args.self.now ≡ Ok (labels_of_wire c.extend_from_slice.new.self.items))
made c =
    prefix_made (octets_of c.args.labels.now) c.args.self.now c.self.inside.wire c.extend_from_slice.new.self.items c.saturating_add-len.result c.in_ok-checked_wire_len.ensures.faultless c.push_labels.ensures.labels c.self.invariant c.self.view_is (omega (arith, c.in_ok-checked_wire_len.ensures.len)) c.if-len-ge-MAX_NAME_LEN.false
    (let prepended = c.push_labels.ensures.wire ∙ ap (λ w. w ++ wire_of (map str_to_ascii_lowercase (octets_of c.args.labels.now))) c.in_ok-wire.ensures.items in
    let own = c.as_slice-2.ensures.value in
    c.in_ok-extend_from_slice.ensures.ok ∙ (λ i. prepended i ++ own i))

-- what is shared is what was made
shared : (c : In_ok-extend_from_slice) (wire : Octets) → wire ≡ c.extend_from_slice.new.self.items → IsNameWire wire × (prefixed_of (octets_of c.args.labels.now) c.args.self.now ≡ Ok (labels_of_wire wire))
shared c wire own =
    subst (λ w. IsNameWire w × (prefixed_of (octets_of c.args.labels.now) c.args.self.now ≡ Ok (labels_of_wire w))) (sym own) (made c)

pub invariant_of-result : goal.invariant_of-result
invariant_of-result c = (shared (goal.at.invariant_of-result c).In_ok-extend_from_slice _ (c.in_ok-wire-2.ensures ∙ c.as_slice-3.ensures)).0

pub returns-clause-made : goal.returns-clause-made
returns-clause-made c = (shared (goal.at.returns-clause-made c).In_ok-extend_from_slice _ (c.in_ok-wire-2.ensures ∙ c.as_slice-3.ensures)).1

pub returns-clause-limits : goal.returns-clause-limits
returns-clause-limits c = (shared (goal.at.returns-clause-limits c).In_ok-extend_from_slice _ (c.in_ok-wire-2.ensures ∙ c.as_slice-3.ensures)).0.name

pub returns-in_err-wire-clause-memory : goal.returns-in_err-wire-clause-memory
returns-in_err-wire-clause-memory c = λ memory.
    prefix_short (octets_of c.args.labels.now) c.args.self.now c.self.inside.wire c.saturating_add-len.result c.in_ok-checked_wire_len.ensures.faultless c.self.invariant c.self.view_is (omega (arith, c.in_ok-checked_wire_len.ensures.len)) c.if-len-ge-MAX_NAME_LEN.false

pub returns-in_err-extend_from_slice-clause-memory :
    goal.returns-in_err-extend_from_slice-clause-memory
returns-in_err-extend_from_slice-clause-memory c = λ memory.
    prefix_short (octets_of c.args.labels.now) c.args.self.now c.self.inside.wire c.saturating_add-len.result c.in_ok-checked_wire_len.ensures.faultless c.self.invariant c.self.view_is (omega (arith, c.in_ok-checked_wire_len.ensures.len)) c.if-len-ge-MAX_NAME_LEN.false

pub returns-in_err-wire-2-clause-memory : goal.returns-in_err-wire-2-clause-memory
returns-in_err-wire-2-clause-memory c = λ memory.
    prefix_short (octets_of c.args.labels.now) c.args.self.now c.self.inside.wire c.saturating_add-len.result c.in_ok-checked_wire_len.ensures.faultless c.self.invariant c.self.view_is (omega (arith, c.in_ok-checked_wire_len.ensures.len)) c.if-len-ge-MAX_NAME_LEN.false
