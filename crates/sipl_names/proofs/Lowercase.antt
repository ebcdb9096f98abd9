-- Labels in lower case.
use Rattle.std.proofs.Common.{◌≡◌, ℕ, ◌<◌, [], ◌∷◌, ◌++◌, length, get_or, Fits, w8, refl, arith, None, ◌≤◌}
use Rattle.std.proofs.lemmas.List.{length-map}
use Rattle.std.proofs.lemmas.Str.Ascii.{lowercase-lowercase}
use Rattle.std.proofs.lemmas.List.Elements.{recursion_from_All, All-from_get_or}
use Rattle.std.proofs.lemmas.Bool.Decides.{nat_tests}
use Rattle.std.specs.Char.{to_ascii_lowercase}
use Rattle.std.specs.Str.{str_to_ascii_lowercase}
use Rattle.std.specs.List.{AllByRecursion}
use Rattle.sipl_names.specs.Labels.{Octets, IsLabel, label_fault}

-- lower case is kept by lowering again
pub lowered_twice : (label : Octets) → str_to_ascii_lowercase (str_to_ascii_lowercase label) ≡ str_to_ascii_lowercase label
lowered_twice [] = refl
lowered_twice (octet ∷ label) = λ i. lowercase-lowercase octet i ∷ lowered_twice label i

lowered_octet : (octet : ℕ) → octet < 256 → to_ascii_lowercase octet < 256
lowered_octet octet h = grind (arith, nat_tests)

pub lowered_octets : (label : Octets) → AllByRecursion (λ octet. octet < 256) label → AllByRecursion (λ octet. octet < 256) (str_to_ascii_lowercase label)
lowered_octets [] all = tt
lowered_octets (octet ∷ label) all = (lowered_octet octet all.0, lowered_octets label all.1)

pub octets_push : (label : Octets) (octet : ℕ) → AllByRecursion (λ octet. octet < 256) label → octet < 256 → AllByRecursion (λ octet. octet < 256) (label ++ octet ∷ [])
octets_push [] octet all h = (h, tt)
octets_push (first ∷ label) octet all h = (all.0, octets_push label octet all.1 h)

pub length-lowered : (label : Octets) → length (str_to_ascii_lowercase label) ≡ length label
length-lowered label = length-map label to_ascii_lowercase

-- the case of a label is no fault
pub label_fault-lowered : (label : Octets) → label_fault (str_to_ascii_lowercase label) ≡ label_fault label
label_fault-lowered label = rw (length-lowered label) refl

faultless : (count : ℕ) → (label : Octets) → length label ≡ count → label_fault label ≡ None → (0 < count) × (count ≤ 63)
faultless count label is none = grind (arith, nat_tests)

-- a label without a fault is one, once it is in lower case
pub lowered_label : (label : Octets) → label_fault label ≡ None → AllByRecursion (λ octet. octet < 256) label → IsLabel (str_to_ascii_lowercase label)
lowered_label label none all =
    let sizes = faultless (length label) label refl none in
    record {
      nonempty = omega (arith, length-lowered label);
      short = omega (arith, length-lowered label);
      octets = lowered_octets label all;
      lower = lowered_twice label;
    }

-- the same of the octets of a slice
pub lowered_slice : (label : Octets) → label_fault label ≡ None → ((i : ℕ) → Fits w8 (get_or label i 0)) → IsLabel (str_to_ascii_lowercase label)
lowered_slice label none fits =
    lowered_label label none (recursion_from_All (λ octet. octet < 256) label (All-from_get_or (λ octet. octet < 256) label 0 (λ i h. (fits i).fits)))
