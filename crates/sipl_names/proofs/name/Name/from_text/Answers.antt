use Rattle.std.proofs.Common.{◌≡◌, ◌<◌, ◌∷◌, [], ◌++◌, Ok, false, ap, ◌∙◌, sym, subst, arith, nat_eq}
use lib.Pointwise.{pointwise}
use Rattle.sipl_names.specs.Labels.{Octets}
use Rattle.sipl_names.specs.Wire.{IsNameWire, labels_of_wire}
use Rattle.sipl_names.specs.NameText.{name_of}
use Rattle.sipl_names.specs.Reading.{Spells}
use Rattle.sipl_names.proofs.Denotes.{IsSpelled, absolute_spelled, relative_spelled, spelled_name}
use Rattle.sipl_names.proofs.name.Name.from_text.Goals as goal
use Rattle.sipl_names.proofs.name.Name.from_text.Goals.{then-not-is_absolute+in_ok-extend_from_slice, else-not-is_absolute, After-len}

spelled : (c : After-len) → IsSpelled c.args.text.now c.args.origin.now c.if-not-is_absolute.wire.items
spelled c =
    let read = c.read_labels.new.wire.items in
    let not_at : pointwise nat_eq c.args.text.now (64 ∷ []) ≡ false = ap (pointwise nat_eq c.args.text.now) (sym c.as_slice.ensures) ∙ sym c.if-eq.ensures in
    let not_dot : pointwise nat_eq c.args.text.now (46 ∷ []) ≡ false = ap (pointwise nat_eq c.args.text.now) (sym c.as_slice-2.ensures) ∙ sym c.if-eq-2.ensures in
    elim c.if-not-is_absolute.branch [
      | then-not-is_absolute+in_ok-extend_from_slice w ↦
          relative_spelled _ _ read c.origin.inside.wire _ not_at not_dot (subst (Spells c.args.text.now read) w.if-not-is_absolute.true c.in_ok-is_absolute.ensures.read) c.origin.invariant c.origin.view_is (ap (λ v. v.items) w.wire-is ∙ w.in_ok-extend_from_slice.ensures.ok ∙ ap (λ s. read ++ s) w.as_slice-then-not-is_absolute.ensures.value)
      | else-not-is_absolute w ↦
          absolute_spelled _ _ read _ not_at not_dot (subst (Spells c.args.text.now read) w.if-not-is_absolute.false c.in_ok-is_absolute.ensures.read) (ap (λ v. v.items) w.wire-is)
    ]

named : (c : After-len) (wire : Octets) → c.len.result < 255 → wire ≡ c.if-not-is_absolute.wire.items → IsNameWire wire × (name_of c.args.text.now c.args.origin.now ≡ Ok (labels_of_wire wire))
named c wire short own =
    subst (λ w. IsNameWire w × (name_of c.args.text.now c.args.origin.now ≡ Ok (labels_of_wire w))) (sym own) (spelled_name _ _ _ (spelled c) (omega (arith, c.len.ensures.value)))

pub invariant_of-result : goal.invariant_of-result
invariant_of-result c = (named (goal.at.invariant_of-result c).After-len _ c.if-len-ge-MAX_NAME_LEN.false (c.in_ok-wire-2.ensures ∙ c.as_slice-3.ensures)).0

pub returns-clause-read : goal.returns-clause-read
returns-clause-read c = (named (goal.at.returns-clause-read c).After-len _ c.if-len-ge-MAX_NAME_LEN.false (c.in_ok-wire-2.ensures ∙ c.as_slice-3.ensures)).1

pub returns-clause-limits : goal.returns-clause-limits
returns-clause-limits c = (named (goal.at.returns-clause-limits c).After-len _ c.if-len-ge-MAX_NAME_LEN.false (c.in_ok-wire-2.ensures ∙ c.as_slice-3.ensures)).0.name
