-- How a hostname is read in one pass into the wire form of its name.
use Rattle.std.proofs.Common.{◌≡◌, ℕ, ◌+◌, ◌-◌, ◌<◌, ◌≤◌, Bool, true, false, [], ◌∷◌, ◌++◌, Option, Some, None, Ok, length, take, drop, set, get_or, refl, sym, ap, ◌∙◌, subst, arith, suc, zero, inl, inr, nat_eq, if◌then◌else◌, ◌==◌, append-nil}
use Rattle.std.proofs.Math.ListN.{length-set}
use Rattle.std.proofs.lemmas.Bool.{cases_Bool, and_from, eqb-true}
use Rattle.std.proofs.lemmas.Bool.Decides.{nat_tests}
use Rattle.std.proofs.lemmas.List.{drop_more, take_more, take_more_set, take_all, drop_all, length-take, length-drop, get_or-take}
use Rattle.std.proofs.lemmas.List.Folds.{list_all-append}
use Rattle.std.specs.Char.{to_ascii_lowercase, is_ascii_lowercase, is_ascii_alphabetic}
use Rattle.std.specs.Str.{str_to_ascii_lowercase}
use Rattle.std.specs.List.{list_all}
use lib.Pointwise.{pointwise, bytes_decides}
use Rattle.sipl_names.specs.Labels.{Octets, Labels, label_fault, top_label_of}
use Rattle.sipl_names.specs.NameText.{octet, dot, symbols, labels_from, name_of}
use Rattle.sipl_names.specs.Hostnames.{is_label_octet, is_hostname_octet, begins_with_letter, has_alphabetic_top, hostname_of}
use Rattle.sipl_names.specs.HostnameWires.{wire_octet_of, IsHostnameWire}
use Rattle.sipl_names.specs.Wire.{IsNameWire, labels_of_wire}
use Rattle.sipl_names.specs.Reading.{Spells}
use Rattle.sipl_names.proofs.ReadText.{IsReadTo, read_start, read_octet, read_dot, read_end, label_so_far, labels_so_far}
use Rattle.sipl_names.proofs.Denotes.{relative_spelled, spelled_name}

-- The text is read up to an octet. Where a dot ends it the label after the dot is empty, and nothing is
-- said of the labels.
pub record IsHostnameReadTo (text wire : Octets) (start end : ℕ) : Type 0 where
  pub begun : start ≤ end
  pub octets : list_all is_hostname_octet (take end text) ≡ true
  pub read : start < length text → IsReadTo text (drop end text) (take (end + 1) wire) start

take-set-any : (n : ℕ) (xs : Octets) (i y : ℕ) → take n (set xs i y) ≡ set (take n xs) i y
take-set-any zero xs i y = refl
take-set-any (suc n) [] i y = refl
take-set-any (suc n) (x ∷ xs) zero y = refl
take-set-any (suc n) (x ∷ xs) (suc i) y = ap (λ (t : Octets). x ∷ t) (take-set-any n xs i y)

dot_by : (is_dot is_label : Bool) (c v : ℕ) → is_dot ≡ true → (if is_dot then Some 0 else (if is_label then Some (to_ascii_lowercase c) else None)) ≡ Some v → 0 ≡ v
dot_by true is_label c v is e = cc
dot_by false is_label c v is e = cc

-- a dot is written as 0
wire_octet_dot : (c v : ℕ) → nat_eq c 46 ≡ true → wire_octet_of c ≡ Some v → 0 ≡ v
wire_octet_dot c v is e = dot_by (nat_eq c 46) (is_label_octet c) c v is e

label_by : (is_dot is_label : Bool) (c v : ℕ) → is_dot ≡ false → (if is_dot then Some 0 else (if is_label then Some (to_ascii_lowercase c) else None)) ≡ Some v → (is_label ≡ true) × (to_ascii_lowercase c ≡ v)
label_by true is_label c v is e = cc
label_by false true c v is e = (refl, cc)
label_by false false c v is e = cc

-- any other octet is one of a label, and is written in lower case
wire_octet_label : (c v : ℕ) → nat_eq c 46 ≡ false → wire_octet_of c ≡ Some v → (is_label_octet c ≡ true) × (to_ascii_lowercase c ≡ v)
wire_octet_label c v is e = label_by (nat_eq c 46) (is_label_octet c) c v is e

no_backslash : (c : ℕ) → is_hostname_octet c ≡ true → nat_eq c 92 ≡ false
no_backslash c host = elim (cases_Bool (nat_eq c 92)) [
  | inl is ↦ let absent : false ≡ true = sym (ap is_hostname_octet (eqb-true c 92 is)) ∙ host in cc
  | inr other ↦ other
]

-- an octet of a hostname is a dot or denotes itself
next_symbol : (text : Octets) (end c : ℕ) → end < length text → c ≡ get_or text end 0 → is_hostname_octet c ≡ true → symbols 0 (drop end text) ≡ (if c == 46 then dot else octet c) ∷ symbols 0 (drop (end + 1) text)
next_symbol text end c inside is host =
    ap (symbols 0) (drop_more text end 0 inside ∙ ap (λ (d : ℕ). d ∷ drop (end + 1) text) (sym is)) ∙ rw (no_backslash c host) refl

more_octets : (text : Octets) (end c : ℕ) → end < length text → c ≡ get_or text end 0 → is_hostname_octet c ≡ true → list_all is_hostname_octet (take end text) ≡ true → list_all is_hostname_octet (take (end + 1) text) ≡ true
more_octets text end c inside is host all =
    ap (list_all is_hostname_octet) (take_more text end 0 inside ∙ ap (λ (d : ℕ). take end text ++ d ∷ []) (sym is)) ∙ list_all-append is_hostname_octet (take end text) (c ∷ []) ∙ and_from _ _ all (and_from _ _ host refl)

label_is_hostname : (c : ℕ) → is_label_octet c ≡ true → is_hostname_octet c ≡ true
label_is_hostname c is = grind (arith, nat_tests)

dot_is_hostname : (c : ℕ) → nat_eq c 46 ≡ true → is_hostname_octet c ≡ true
dot_is_hostname c is = ap is_hostname_octet (eqb-true c 46 is)

pub hostname_start : (text wire : Octets) → length wire ≡ 64 → IsHostnameReadTo text (set wire 0 0) 0 0
hostname_start text [] size = absurd (omega arith)
hostname_start text (c ∷ wire) size = record { begun = omega arith; octets = refl; read = λ more. read_start text }

-- an octet of a label
pub hostname_octet : (text wire : Octets) (start end c v : ℕ) → length wire ≡ 64 → length text ≤ 62 → end < length text → c ≡ get_or text end 0 → c < 256 → nat_eq c 46 ≡ false → wire_octet_of c ≡ Some v → IsHostnameReadTo text wire start end → IsHostnameReadTo text (set wire (end + 1) v) start (end + 1)
hostname_octet text wire start end c v size short inside is small other written r =
    let label = wire_octet_label c v other written in
    let host = label_is_hostname c label.0 in
    let begun = r.begun in
    let next : symbols 0 (drop end text) ≡ octet c ∷ symbols 0 (drop (end + 1) text) = next_symbol text end c inside is host ∙ rw other refl in
    record {
      begun = omega arith;
      octets = more_octets text end c inside is host r.octets;
      read = λ more. subst (λ (w : Octets). IsReadTo text (drop (end + 1) text) w start) (ap (λ (d : ℕ). take (end + 1) wire ++ d ∷ []) label.1 ∙ sym (take_more_set wire (end + 1) v (omega arith)))
          (read_octet text (drop end text) (take (end + 1) wire) start (drop (end + 1) text) c (r.read more) next small);
    }

-- the label that ends here has 1 to 62 octets
short_label : (wire : Octets) (start end : ℕ) → length wire ≡ 64 → end ≤ 62 → start < end → label_fault (drop (start + 1) (take (end + 1) wire)) ≡ None
short_label wire start end size short begun =
    let count : length (drop (start + 1) (take (end + 1) wire)) ≡ end - start = length-drop (start + 1) (take (end + 1) wire) ∙ omega (arith, length-take (end + 1) wire) in
    let nonempty : 0 < length (drop (start + 1) (take (end + 1) wire)) = omega arith in
    let limit : length (drop (start + 1) (take (end + 1) wire)) ≤ 63 = omega arith in
    grind (arith, nat_tests)

-- a dot, and the length of the label before it
pub hostname_dot : (text wire : Octets) (start end c v : ℕ) → length wire ≡ 64 → length text ≤ 62 → end < length text → c ≡ get_or text end 0 → start < end → nat_eq c 46 ≡ true → wire_octet_of c ≡ Some v → IsHostnameReadTo text wire start end → IsHostnameReadTo text (set (set wire start (end - start)) (end + 1) v) (end + 1) (end + 1)
hostname_dot text wire start end c v size short inside is begun same written r =
    let host = dot_is_hostname c same in
    let before : Octets = take (end + 1) wire in
    let count : end + 1 ≡ length before = omega (arith, length-take (end + 1) wire) in
    let ended : Octets = set before start (end + 1 - (start + 1)) in
    let ended_count : length ended ≡ end + 1 = length-set {A = ℕ} before start (end + 1 - (start + 1)) ∙ sym count in
    let wide : end + 1 < length (set wire start (end - start)) = omega (arith, length-set {A = ℕ} wire start (end - start)) in
    let next : symbols 0 (drop end text) ≡ dot ∷ symbols 0 (drop (end + 1) text) = next_symbol text end c inside is host ∙ rw same refl in
    let gap : end + 1 - (start + 1) ≡ end - start = omega arith in
    let closes : ended ++ 0 ∷ [] ≡ take (end + 1 + 1) (set (set wire start (end - start)) (end + 1) v) =
    ap (λ (n : ℕ). set before start n ++ 0 ∷ []) gap ∙ ap (λ (w : Octets). w ++ 0 ∷ []) (sym (take-set-any (end + 1) wire start (end - start)))
    ∙ ap (λ (d : ℕ). take (end + 1) (set wire start (end - start)) ++ d ∷ []) (wire_octet_dot c v same written)
    ∙ sym (take_more_set (set wire start (end - start)) (end + 1) v wide) in
    record {
      begun = omega arith;
      octets = more_octets text end c inside is host r.octets;
      read = λ more. subst (λ (w : Octets). IsReadTo text (drop (end + 1) text) w (end + 1)) closes
          (subst (λ (n : ℕ). IsReadTo text (drop (end + 1) text) (ended ++ 0 ∷ []) n) ended_count
          (read_dot text (drop end text) before start (drop (end + 1) text) ended (end + 1) (r.read (omega arith)) next (omega (arith, length-drop (end + 1) text)) (short_label wire start end size (omega arith) begun) count refl));
    }

top_label_of-last : (labels : Labels) (top : Octets) → top_label_of (labels ++ top ∷ []) ≡ Some top
top_label_of-last [] top = refl
top_label_of-last (label ∷ []) top = refl
top_label_of-last (label ∷ next ∷ labels) top = top_label_of-last (next ∷ labels) top

abbrev top_test : Option Octets → Bool
top_test top = elim top [ Some label ↦ begins_with_letter label | None ↦ false ]

letter_is_alphabetic : (c : ℕ) → is_ascii_lowercase c ≡ true → is_ascii_alphabetic c ≡ true
letter_is_alphabetic c is = grind (arith, nat_tests)

-- the label next to the root begins with a letter
alphabetic : (done : Labels) (label wire : Octets) (start end : ℕ) → length wire ≡ 64 → end ≤ 62 → start < end → drop (start + 1) (take (end + 1) wire) ≡ label → is_ascii_lowercase (get_or wire (start + 1) 0) ≡ true → has_alphabetic_top (done ++ label ∷ []) ≡ true
alphabetic done label wire start end size short begun is letter =
    let inside : start + 1 < length (take (end + 1) wire) = omega (arith, length-take (end + 1) wire) in
    let first : get_or (take (end + 1) wire) (start + 1) 0 ≡ get_or wire (start + 1) 0 = get_or-take (end + 1) wire (start + 1) 0 (omega arith) in
    ap top_test (top_label_of-last done label) ∙ ap begins_with_letter (sym is ∙ drop_more (take (end + 1) wire) (start + 1) 0 inside) ∙ ap is_ascii_alphabetic first ∙ letter_is_alphabetic (get_or wire (start + 1) 0) letter

not_at_sign : (text : Octets) → list_all is_hostname_octet text ≡ true → pointwise nat_eq text (64 ∷ []) ≡ false
not_at_sign text all = elim (cases_Bool (pointwise nat_eq text (64 ∷ []))) [
  | inl is ↦ let absent : false ≡ true = sym (ap (list_all is_hostname_octet) ((bytes_decides text (64 ∷ [])).0 is)) ∙ all in cc
  | inr other ↦ other
]

not_root : (text wire : Octets) → Spells text wire false → pointwise nat_eq text (46 ∷ []) ≡ false
not_root text wire s = elim (cases_Bool (pointwise nat_eq text (46 ∷ []))) [
  | inl is ↦ let absent = sym (ap (λ (t : Octets). labels_from [] (symbols 0 t)) ((bytes_decides text (46 ∷ [])).0 is)) ∙ s.read in cc
  | inr other ↦ other
]

no_labels : IsNameWire []
no_labels = record { exact = refl; name = record { each = tt; short = omega arith } }

named : (text wire : Octets) → list_all is_hostname_octet text ≡ true → Spells text wire false → length wire < 255 → IsNameWire wire × (name_of text [] ≡ Ok (labels_of_wire wire))
named text wire all s short =
    spelled_name text [] wire (relative_spelled text [] wire [] wire (not_at_sign text all) (not_root text wire s) s no_labels refl (sym (append-nil wire))) short

-- the text's end, and the length of the last label
pub hostname_end : (text wire : Octets) (start : ℕ) → length wire ≡ 64 → length text ≤ 62 → start < length text → is_ascii_lowercase (get_or wire (start + 1) 0) ≡ true → IsHostnameReadTo text wire start (length text) → IsHostnameWire text (take (length text + 1) (set wire start (length text - start)))
hostname_end text wire start size short begun letter r =
    let end : ℕ = length text in
    let before : Octets = take (end + 1) wire in
    let ended : Octets = take (end + 1) (set wire start (end - start)) in
    let count : end + 1 ≡ length before = omega (arith, length-take (end + 1) wire) in
    let gap : end - start ≡ end + 1 - (start + 1) = omega arith in
    let closes : ended ≡ set before start (end + 1 - (start + 1)) = take-set-any (end + 1) wire start (end - start) ∙ ap (set before start) gap in
    let all : list_all is_hostname_octet text ≡ true = sym (ap (list_all is_hostname_octet) (take_all end text (omega arith))) ∙ r.octets in
    let read = r.read begun in
    let s = read_end text (drop end text) before start ended (end + 1) read (drop_all end text (omega arith)) (short_label wire start end size short begun) count closes in
    let name = named text ended all s (omega (arith, ap length closes, length-set {A = ℕ} before start (end + 1 - (start + 1)))) in
    let top : has_alphabetic_top (labels_of_wire ended) ≡ true =
    ap (λ (ls : Labels). has_alphabetic_top ls) (labels_so_far text (drop end text) before start ended (end + 1) read count closes)
    ∙ alphabetic read.done (str_to_ascii_lowercase read.label) wire start end size short begun (label_so_far text (drop end text) before start read) letter in
    record { octets = all; wires = name.0; gives = rw (all, name.1, top, hostname_of) refl }
