-- Which name a text denotes, once its labels are read.
use Rattle.std.proofs.Common.{◌≡◌, ◌<◌, ◌≤◌, true, false, [], ◌∷◌, ◌++◌, Ok, Err, length, refl, sym, ap, ◌∙◌, subst, arith, nat_eq, nat_lt}
use Rattle.std.proofs.lemmas.List.Concat.{flat_map-append}
use Rattle.std.proofs.lemmas.Bool.Decides.{nat_tests}
use Rattle.std.specs.List.{AllByRecursion}
use lib.Pointwise.{pointwise}
use Rattle.sipl_names.specs.declared.fault.InvalidName.{InvalidName}
use Rattle.sipl_names.specs.declared.fault.InvalidName.TheVariants.{NameTooLong}
use Rattle.sipl_names.specs.Labels.{Octets, Labels, length_prefixed, wire_of, wire_length, IsLabel, name_within_limit}
use Rattle.sipl_names.specs.Wire.{IsNameWire, labels_of_wire}
use Rattle.sipl_names.specs.NameText.{symbols, labels_from, relative_to, name_of}
use Rattle.sipl_names.specs.Reading.{Spells}
use Rattle.sipl_names.proofs.Wires.{labels_at, name_at}

pub labels_append : (first labels : Labels) → AllByRecursion IsLabel first → AllByRecursion IsLabel labels → AllByRecursion IsLabel (first ++ labels)
labels_append [] labels all rest = rest
labels_append (label ∷ first) labels all rest = (all.0, labels_append first labels all.1 rest)

pub name_within_limit-short : (labels : Labels) → wire_length labels ≤ 255 → name_within_limit labels ≡ Ok labels
name_within_limit-short labels short =
    let test : nat_lt 255 (wire_length labels) ≡ false = grind (arith, nat_tests) in
    rw (test, name_within_limit) refl

pub name_within_limit-long : (labels : Labels) → 255 < wire_length labels → name_within_limit labels ≡ Err NameTooLong
name_within_limit-long labels long =
    let test : nat_lt 255 (wire_length labels) ≡ true = grind (arith, nat_tests) in
    rw (test, name_within_limit) refl

-- the wire form has the labels that the text denotes, of whatever length
pub record IsSpelled (text : Octets) (origin : Labels) (wire : Octets) : Type 0 where
  pub labels : Labels
  pub denotes : name_of text origin ≡ name_within_limit labels
  pub wires : wire ≡ wire_of labels
  pub each : AllByRecursion IsLabel labels

pub other_text : (text : Octets) (origin : Labels) → pointwise nat_eq text (64 ∷ []) ≡ false → pointwise nat_eq text (46 ∷ []) ≡ false → name_of text origin ≡ relative_to origin (labels_from [] (symbols 0 text))
other_text text origin at point = rw (at, point, name_of) refl

pub refused_text : (text : Octets) (origin : Labels) (fault : InvalidName) → pointwise nat_eq text (64 ∷ []) ≡ false → pointwise nat_eq text (46 ∷ []) ≡ false → labels_from [] (symbols 0 text) ≡ Err fault → name_of text origin ≡ Err fault
refused_text text origin fault at point is = other_text text origin at point ∙ ap (relative_to origin) is

pub absolute_spelled : (text : Octets) (origin : Labels) (wire full : Octets) → pointwise nat_eq text (64 ∷ []) ≡ false → pointwise nat_eq text (46 ∷ []) ≡ false → Spells text wire true → full ≡ wire → IsSpelled text origin full
absolute_spelled text origin wire full at point read same = record {
  labels = labels_of_wire wire;
  denotes = other_text text origin at point ∙ ap (relative_to origin) read.read;
  wires = same ∙ read.exact;
  each = read.each;
}

pub relative_spelled : (text : Octets) (origin : Labels) (wire octets full : Octets) → pointwise nat_eq text (64 ∷ []) ≡ false → pointwise nat_eq text (46 ∷ []) ≡ false → Spells text wire false → IsNameWire octets → labels_of_wire octets ≡ origin → full ≡ wire ++ octets → IsSpelled text origin full
relative_spelled text origin wire octets full at point read name seen joined =
    let labels : Labels = labels_of_wire wire in
    let exact = read.exact in
    let octets_exact = name.exact in
    record {
      labels = labels ++ origin;
      denotes = other_text text origin at point ∙ ap (relative_to origin) read.read;
      wires = joined ∙ (λ i. exact i ++ octets_exact i) ∙ sym (flat_map-append length_prefixed labels (labels_of_wire octets)) ∙ ap (λ ls. wire_of (labels ++ ls)) seen;
      each = labels_append labels origin read.each (subst (AllByRecursion IsLabel) seen name.name.each);
    }

pub spelled_name : (text : Octets) (origin : Labels) (wire : Octets) → IsSpelled text origin wire → length wire < 255 → IsNameWire wire × (name_of text origin ≡ Ok (labels_of_wire wire))
spelled_name text origin wire s short =
    let fits : wire_length s.labels ≤ 255 = omega (arith, ap length s.wires) in
    (name_at wire s.labels s.wires (record { each = s.each; short = fits }), s.denotes ∙ name_within_limit-short s.labels fits ∙ ap (λ ls. Ok ls) (sym (labels_at wire s.labels s.wires)))

pub spelled_long : (text : Octets) (origin : Labels) (wire : Octets) → IsSpelled text origin wire → 255 ≤ length wire → name_of text origin ≡ Err NameTooLong
spelled_long text origin wire s long =
    s.denotes ∙ name_within_limit-long s.labels (omega (arith, ap length s.wires))
