-- Names with labels prepended.
use Rattle.std.proofs.Common.{◌≡◌, ℕ, ◌+◌, ◌-◌, ◌^◌, ◌<◌, ◌≤◌, min, [], ◌∷◌, ◌++◌, None, Ok, Err, length, map, refl, sym, ap, ◌∙◌, subst, arith, length-append}
use Rattle.std.proofs.lemmas.List.Concat.{flat_map-append}
use Rattle.std.specs.List.{AllByRecursion}
use Rattle.std.specs.Result.{is_ok, IsOk}
use Rattle.std.specs.Str.{str_to_ascii_lowercase}
use Rattle.sipl_names.specs.declared.fault.InvalidName.TheVariants.{NameTooLong}
use Rattle.sipl_names.specs.Labels.{Octets, Labels, length_prefixed, wire_of, wire_length, IsLabel, name_within_limit, first_label_fault, prefixed_of}
use Rattle.sipl_names.specs.Wire.{IsNameWire, labels_of_wire}
use Rattle.sipl_names.proofs.Wires.{labels_at, name_at}
use Rattle.sipl_names.proofs.Lowercase.{length-lowered}
use Rattle.sipl_names.proofs.Denotes.{labels_append, name_within_limit-short, name_within_limit-long}

-- lower case changes no length
length-lowered_wire : (labels : Labels) → length (wire_of (map str_to_ascii_lowercase labels)) ≡ length (wire_of labels)
length-lowered_wire [] = refl
length-lowered_wire (label ∷ labels) =
    omega (arith, length-append label (wire_of labels), length-append (str_to_ascii_lowercase label) (wire_of (map str_to_ascii_lowercase labels)), length-lowered label, length-lowered_wire labels)

faultless_prefix : (labels name : Labels) → first_label_fault labels ≡ None → prefixed_of labels name ≡ name_within_limit (map str_to_ascii_lowercase labels ++ name)
faultless_prefix labels name none = rw (none, prefixed_of) refl

prefix_wire : (labels name : Labels) (own : Octets) → IsNameWire own → labels_of_wire own ≡ name → wire_of (map str_to_ascii_lowercase labels ++ name) ≡ wire_of (map str_to_ascii_lowercase labels) ++ own
prefix_wire labels name own is seen =
    let own_exact = is.exact in
    flat_map-append length_prefixed (map str_to_ascii_lowercase labels) name ∙ ap (λ w. wire_of (map str_to_ascii_lowercase labels) ++ w) (sym (own_exact ∙ ap wire_of seen))

prefix_length : (labels name : Labels) (own : Octets) → IsNameWire own → labels_of_wire own ≡ name → wire_length (map str_to_ascii_lowercase labels ++ name) ≡ length (wire_of labels) + length own + 1
prefix_length labels name own is seen =
    omega (arith, ap length (prefix_wire labels name own is seen), length-append (wire_of (map str_to_ascii_lowercase labels)) own, length-lowered_wire labels)

pub prefix_long : (labels name : Labels) (own : Octets) (n : ℕ) → first_label_fault labels ≡ None → IsNameWire own → labels_of_wire own ≡ name → n ≡ min (min (length (wire_of labels)) (2 ^ 64 - 1) + length own) (2 ^ 64 - 1) → 255 ≤ n → prefixed_of labels name ≡ Err NameTooLong
prefix_long labels name own n none is seen counts long =
    faultless_prefix labels name none ∙ name_within_limit-long _ (omega (arith, prefix_length labels name own is seen))

pub prefix_short : (labels name : Labels) (own : Octets) (n : ℕ) → first_label_fault labels ≡ None → IsNameWire own → labels_of_wire own ≡ name → n ≡ min (min (length (wire_of labels)) (2 ^ 64 - 1) + length own) (2 ^ 64 - 1) → n < 255 → IsOk (prefixed_of labels name)
prefix_short labels name own n none is seen counts short =
    ap is_ok (faultless_prefix labels name none ∙ name_within_limit-short (map str_to_ascii_lowercase labels ++ name) (omega (arith, prefix_length labels name own is seen)))

pub prefix_made : (labels name : Labels) (own full : Octets) (n : ℕ) → first_label_fault labels ≡ None → AllByRecursion IsLabel (map str_to_ascii_lowercase labels) → IsNameWire own → labels_of_wire own ≡ name → n ≡ min (min (length (wire_of labels)) (2 ^ 64 - 1) + length own) (2 ^ 64 - 1) → n < 255 → full ≡ wire_of (map str_to_ascii_lowercase labels) ++ own → IsNameWire full × (prefixed_of labels name ≡ Ok (labels_of_wire full))
prefix_made labels name own full n none each is seen counts short made =
    let all : Labels = map str_to_ascii_lowercase labels ++ name in
    let wires : full ≡ wire_of all = made ∙ sym (prefix_wire labels name own is seen) in
    let fits : wire_length all ≤ 255 = omega (arith, prefix_length labels name own is seen) in
    let all_labels = labels_append (map str_to_ascii_lowercase labels) name each (subst (AllByRecursion IsLabel) seen is.name.each) in
    (name_at full all wires (record { each = all_labels; short = fits }), faultless_prefix labels name none ∙ name_within_limit-short all fits ∙ ap (λ ls. Ok ls) (sym (labels_at full all wires)))
