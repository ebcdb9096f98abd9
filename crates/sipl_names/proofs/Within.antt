-- Names below one another, by their labels and by their wire forms.
use Rattle.std.proofs.Common.{◌≡◌, suc, ◌+◌, ◌≤◌, ◌<◌, ◌≢◌, Bool, true, false, ◌||◌, [], ◌∷◌, ◌++◌, Option, Some, None, length, refl, sym, ap, ◌∙◌, subst, arith, append_assoc, length-append, IsTrue, ◌↔◌, nat_eq}
use lib.Pointwise.{pointwise}
use Rattle.sipl_names.specs.Labels.{Octets, Labels, wire_of, same_name, is_within, top_label_of}
use Rattle.sipl_names.proofs.SameName.{same_name_decides}
use Rattle.sipl_names.specs.Wire.{labels_of_wire, IsWire}
use Rattle.sipl_names.proofs.Wires.{compared_wires}

-- the label next to the root, or this one where there are no further labels
abbrev pub top_label_or : Option Octets → Labels → Option Octets
top_label_or found [] = found
top_label_or found (label ∷ labels) = top_label_of (label ∷ labels)

pub top_label_or-cons : (found : Option Octets) (label : Octets) (labels : Labels) → top_label_or found (label ∷ labels) ≡ top_label_or (Some label) labels
top_label_or-cons found label [] = refl
top_label_or-cons found label (next ∷ labels) = refl

pub top_label_of-top_label_or : (labels : Labels) → top_label_of labels ≡ top_label_or None labels
top_label_of-top_label_or [] = refl
top_label_of-top_label_or (label ∷ labels) = refl

not_true : (b : Bool) → (b ≡ true → ⊥) → b ≡ false
not_true true h = absurd (h refl)
not_true false h = refl

-- names whose wire forms differ in length are not the same
pub same_name-apart : (a b : Labels) → length (wire_of a) ≢ length (wire_of b) → same_name a b ≡ false
same_name-apart a b apart =
    not_true (same_name a b) (λ same. apart (ap (λ labels. length (wire_of labels)) ((same_name_decides a b).0 same)))

longer : (label : Octets) (labels : Labels) → length (wire_of (label ∷ labels)) ≡ suc (length label + length (wire_of labels))
longer label labels = ap suc (length-append label (wire_of labels))

-- a name shorter than the apex is not within it
pub is_within-shorter : (labels apex : Labels) → length (wire_of labels) < length (wire_of apex) → is_within labels apex ≡ false
is_within-shorter [] apex short = same_name-apart [] apex (omega arith)
is_within-shorter (label ∷ labels) apex short =
    rw (same_name-apart (label ∷ labels) apex (omega arith)) (is_within-shorter labels apex (omega (arith, longer label labels)))

-- a name longer than the apex is within it where the name above is
pub is_within-longer : (label : Octets) (labels apex : Labels) → length (wire_of apex) < length (wire_of (label ∷ labels)) → is_within (label ∷ labels) apex ≡ is_within labels apex
is_within-longer label labels apex long = rw (same_name-apart (label ∷ labels) apex (omega arith)) refl

or_false : (a b : Bool) → b ≡ false → (a || b) ≡ a
or_false true b h = refl
or_false false b h = h

-- a name that is no longer than the apex is within it where it is the apex
pub is_within-as_long : (labels apex : Labels) → length (wire_of labels) ≤ length (wire_of apex) → is_within labels apex ≡ same_name labels apex
is_within-as_long [] apex short = refl
is_within-as_long (label ∷ labels) apex short =
    or_false _ _ (is_within-shorter labels apex (omega (arith, longer label labels)))

-- the last labels of a name within the apex are those of the apex
within_suffix : (labels apex : Labels) → is_within labels apex ≡ true → (first : Labels) × (labels ≡ first ++ apex)
within_suffix [] apex within = ([], (same_name_decides [] apex).0 within)
within_suffix (label ∷ labels) apex within =
    elim (same_name (label ∷ labels) apex) as (λ same. same_name (label ∷ labels) apex ≡ same → (first : Labels) × (label ∷ labels ≡ first ++ apex)) [
      | true ↦ λ e. ([], (same_name_decides (label ∷ labels) apex).0 e)
      | false ↦ λ e. let rest = within_suffix labels apex (rw e at within) in (label ∷ rest.0, ap (λ ls. label ∷ ls) rest.1)
    ] refl

or_true : (a b : Bool) → b ≡ true → (a || b) ≡ true
or_true true b h = refl
or_true false b h = h

pub is_within-refl : (name : Labels) → is_within name name ≡ true
is_within-refl [] = refl
is_within-refl (label ∷ labels) = rw ((same_name_decides (label ∷ labels) (label ∷ labels)).1 refl) refl

suffix_within : (first apex : Labels) → is_within (first ++ apex) apex ≡ true
suffix_within [] apex = is_within-refl apex
suffix_within (label ∷ first) apex = or_true _ _ (suffix_within first apex)

pub is_within-suffix : (labels apex : Labels) → IsTrue (is_within labels apex) ↔ ((first : Labels) × (labels ≡ first ++ apex))
is_within-suffix labels apex =
    (within_suffix labels apex, λ some. subst (λ ls. is_within ls apex ≡ true) (sym some.1) (suffix_within some.0 apex))

-- what is within a name is within each name above it
pub is_within-trans : (name middle apex : Labels) → is_within name middle ≡ true → is_within middle apex ≡ true → is_within name apex ≡ true
is_within-trans name middle apex lower upper =
    let below = within_suffix name middle lower in
    let above = within_suffix middle apex upper in
    let whole : name ≡ (below.0 ++ above.0) ++ apex = below.1 ∙ ap (λ ls. below.0 ++ ls) above.1 ∙ sym (append_assoc below.0 above.0 apex) in
    subst (λ ls. is_within ls apex ≡ true) (sym whole) (suffix_within (below.0 ++ above.0) apex)

pub is_within-above : (name first apex : Labels) → is_within name (first ++ apex) ≡ true → is_within name apex ≡ true
is_within-above name first apex within = is_within-trans name (first ++ apex) apex within (suffix_within first apex)

-- each name is within the root
pub is_within-root : (name : Labels) → is_within name [] ≡ true
is_within-root [] = refl
is_within-root (label ∷ labels) = or_true (same_name (label ∷ labels) []) (is_within labels []) (is_within-root labels)

-- while the wire form is longer than that of the apex, its first label does not count
pub within_step : (name apex : Labels) (rest label tail suffix octets : Octets) → is_within name apex ≡ is_within (labels_of_wire rest) apex → IsWire rest → labels_of_wire rest ≡ label ∷ labels_of_wire tail → suffix ≡ octets → IsWire octets → labels_of_wire octets ≡ apex → length suffix < length rest → is_within name apex ≡ is_within (labels_of_wire tail) apex
within_step name apex rest label tail suffix octets so_far exact splits same apex_exact seen long =
    let rest_long = ap length exact in
    let apex_long = ap length (same ∙ apex_exact) in
    let wires = ap (λ ls. length (wire_of ls)) seen in
    let first = ap (λ ls. length (wire_of ls)) splits in
    let more : length (wire_of apex) < length (wire_of (label ∷ labels_of_wire tail)) = omega arith in
    so_far ∙ ap (λ ls. is_within ls apex) splits ∙ is_within-longer label (labels_of_wire tail) apex more

-- where it is no longer, the octets are compared
pub within_end : (name apex : Labels) (rest suffix octets : Octets) → is_within name apex ≡ is_within (labels_of_wire rest) apex → IsWire rest → suffix ≡ octets → IsWire octets → labels_of_wire octets ≡ apex → length rest ≤ length suffix → pointwise nat_eq rest suffix ≡ is_within name apex
within_end name apex rest suffix octets so_far exact same apex_exact seen short =
    let rest_long = ap length exact in
    let apex_long = ap length (same ∙ apex_exact) in
    let wires = ap (λ ls. length (wire_of ls)) seen in
    let fits : length (wire_of (labels_of_wire rest)) ≤ length (wire_of apex) = omega arith in
    ap (pointwise nat_eq rest) same ∙ compared_wires rest octets exact apex_exact ∙ ap (same_name (labels_of_wire rest)) seen ∙ sym (is_within-as_long (labels_of_wire rest) apex fits) ∙ sym so_far
