-- A printed name reads back.
use Rattle.std.proofs.Common.{◌≡◌, ℕ, ◌+◌, ◌/◌, ◌%◌, ◌<◌, ◌≤◌, Bool, true, false, ◌&&◌, List, [], ◌∷◌, ◌++◌, Option, Some, None, Ok, length, map, refl, sym, ap, ◌∙◌, arith, append_assoc, append-nil, length-append, nat_eq, nat_le, ◌==◌, if◌then◌else◌}
use Rattle.std.proofs.lemmas.Bool.Decides.{nat_tests}
use Rattle.std.specs.List.{AllByRecursion, flat_map}
use Rattle.std.specs.Char.{is_ascii_digit}
use lib.Pointwise.{pointwise}
use Rattle.sipl_names.specs.Escapes.{decimal_of_three, decimal_escape, escape_of}
use Rattle.sipl_names.specs.Labels.{Octets, Labels, IsLabel, IsName, label_fault}
use Rattle.sipl_names.specs.NameText.{Symbol, octet, dot, bad_escape, symbols, labels_from, relative_to, name_of}
use Rattle.sipl_names.specs.NamePrint.{is_special, printed_octet, printed_label, text_of}
use Rattle.sipl_names.proofs.ReadText.{prepend, read_after_dot, labels_from-dot, prepend_checked_label-none}
use Rattle.sipl_names.proofs.Denotes.{name_within_limit-short, other_text}

plain_octet : (c : ℕ) (rest : Octets) → (c == 92) ≡ false → (c == 46) ≡ false → symbols 0 (c ∷ rest) ≡ octet c ∷ symbols 0 rest
plain_octet c rest slash point = rw (slash, point) refl

-- what a backslash begins
abbrev after_slash : Option (ℕ × ℕ) → Octets → List Symbol
after_slash escape text = elim escape [ Some escape ↦ octet escape.0 ∷ symbols escape.1 text | None ↦ bad_escape ∷ [] ]

slashed : (text : Octets) (escape : ℕ × ℕ) → escape_of text ≡ Some escape → symbols 0 (92 ∷ text) ≡ octet escape.0 ∷ symbols escape.1 text
slashed text escape is = ap (λ e. after_slash e text) is

escaped_octet : (c : ℕ) (rest : Octets) → is_ascii_digit c ≡ false → symbols 0 (92 ∷ c ∷ rest) ≡ octet c ∷ symbols 0 rest
escaped_octet c rest digit =
    slashed (c ∷ rest) (c, 1) (ap (λ b. if b then decimal_escape (c ∷ rest) else Some (c, 1)) digit)

decimal_octet : (a b d : ℕ) (rest : Octets) → is_ascii_digit a ≡ true → is_ascii_digit b ≡ true → is_ascii_digit d ≡ true → nat_le (decimal_of_three a b d) 255 ≡ true → symbols 0 (92 ∷ a ∷ b ∷ d ∷ rest) ≡ octet (decimal_of_three a b d) ∷ symbols 0 rest
decimal_octet a b d rest p q r fits =
    let number : ℕ × ℕ = (decimal_of_three a b d, 3) in
    slashed (a ∷ b ∷ d ∷ rest) number (ap (λ t. if t then decimal_escape (a ∷ b ∷ d ∷ rest) else Some (a, 1)) p ∙ (λ i. if p i && q i && r i && fits i then Some number else None))

special_no_digit : (c : ℕ) → is_special c ≡ true → is_ascii_digit c ≡ false
special_no_digit c h = grind (arith, nat_tests)

plain_not_slash : (c : ℕ) → is_special c ≡ false → (c == 92) ≡ false
plain_not_slash c h = grind (arith, nat_tests)

plain_not_point : (c : ℕ) → is_special c ≡ false → (c == 46) ≡ false
plain_not_point c h = grind (arith, nat_tests)

is_digit : (x : ℕ) → x < 10 → is_ascii_digit (48 + x) ≡ true
is_digit x h = grind (arith, nat_tests)

three_digits : (c : ℕ) → c < 256 → decimal_of_three (48 + c / 100) (48 + c / 10 % 10) (48 + c % 10) ≡ c
three_digits c h = omega arith

is_octet : (n : ℕ) → n < 256 → nat_le n 255 ≡ true
is_octet n h = grind (arith, nat_tests)

numbered_octet : (c : ℕ) (rest : Octets) → c < 256 → symbols 0 (92 ∷ (48 + c / 100) ∷ (48 + c / 10 % 10) ∷ (48 + c % 10) ∷ rest) ≡ octet c ∷ symbols 0 rest
numbered_octet c rest h =
    let number = three_digits c h in
    decimal_octet (48 + c / 100) (48 + c / 10 % 10) (48 + c % 10) rest (is_digit (c / 100) (omega arith)) (is_digit (c / 10 % 10) (omega arith)) (is_digit (c % 10) (omega arith)) (rw number (is_octet c h)) ∙ ap (λ n. octet n ∷ symbols 0 rest) number

marked_octet : (special : Bool) (c : ℕ) (rest : Octets) → is_special c ≡ special → symbols 0 ((if special then 92 ∷ c ∷ [] else c ∷ []) ++ rest) ≡ octet c ∷ symbols 0 rest
marked_octet true c rest is = escaped_octet c rest (special_no_digit c is)
marked_octet false c rest is = plain_octet c rest (plain_not_slash c is) (plain_not_point c is)

chosen_octet : (printable : Bool) (c : ℕ) (rest : Octets) → c < 256 → symbols 0 ((if printable then (if is_special c then 92 ∷ c ∷ [] else c ∷ []) else 92 ∷ (48 + c / 100) ∷ (48 + c / 10 % 10) ∷ (48 + c % 10) ∷ []) ++ rest) ≡ octet c ∷ symbols 0 rest
chosen_octet true c rest h = marked_octet (is_special c) c rest refl
chosen_octet false c rest h = numbered_octet c rest h

-- a printed octet reads back
pub printed_octet_reads : (c : ℕ) (rest : Octets) → c < 256 → symbols 0 (printed_octet c ++ rest) ≡ octet c ∷ symbols 0 rest
printed_octet_reads c rest h = chosen_octet (nat_le 33 c && nat_le c 126) c rest h

pub printed_octets_read : (label rest : Octets) → AllByRecursion (λ octet. octet < 256) label → symbols 0 (flat_map printed_octet label ++ rest) ≡ map octet label ++ symbols 0 rest
printed_octets_read [] rest all = refl
printed_octets_read (c ∷ label) rest all =
    ap (symbols 0) (append_assoc (printed_octet c) (flat_map printed_octet label) rest) ∙ printed_octet_reads c (flat_map printed_octet label ++ rest) all.0 ∙ ap (λ ss. octet c ∷ ss) (printed_octets_read label rest all.1)

labels_from-octets : (begun label : Octets) (rest : List Symbol) → labels_from begun (map octet label ++ rest) ≡ labels_from (begun ++ label) rest
labels_from-octets begun [] rest = ap (λ l. labels_from l rest) (sym (append-nil begun))
labels_from-octets begun (c ∷ label) rest =
    labels_from-octets (begun ++ c ∷ []) label rest ∙ ap (λ l. labels_from l rest) (append_assoc begun (c ∷ []) label)

-- a printed label reads back, and what is after it follows
printed_label_reads : (label rest : Octets) → AllByRecursion (λ octet. octet < 256) label → labels_from [] (symbols 0 (printed_label label ++ rest)) ≡ labels_from label (dot ∷ symbols 0 rest)
printed_label_reads label rest all =
    ap (λ t. labels_from [] (symbols 0 t)) (append_assoc (flat_map printed_octet label) (46 ∷ []) rest) ∙ ap (labels_from []) (printed_octets_read label (46 ∷ rest) all) ∙ labels_from-octets [] label (dot ∷ symbols 0 rest)

label_faultless : (label : Octets) → 0 < length label → length label ≤ 63 → label_fault label ≡ None
label_faultless label some short = grind (arith, nat_tests)

chosen_some : (printable special : Bool) (c : ℕ) → 0 < length (if printable then (if special then 92 ∷ c ∷ [] else c ∷ []) else 92 ∷ (48 + c / 100) ∷ (48 + c / 10 % 10) ∷ (48 + c % 10) ∷ [])
chosen_some true true c = omega arith
chosen_some true false c = omega arith
chosen_some false special c = omega arith

printed_octet_some : (c : ℕ) → 0 < length (printed_octet c)
printed_octet_some c = chosen_some (nat_le 33 c && nat_le c 126) (is_special c) c

-- the text of a label has its octets and a dot
printed_label_long : (label rest : Octets) → 0 < length label → 1 < length (printed_label label ++ rest)
printed_label_long (c ∷ label) rest some =
    omega (arith, printed_octet_some c, length-append (printed_label (c ∷ label)) rest, length-append (flat_map printed_octet (c ∷ label)) (46 ∷ []), length-append (printed_octet c) (flat_map printed_octet label))
printed_label_long [] rest some = absurd (omega arith)

read_dot_after : (label : Octets) (rest : Octets) → IsLabel label → labels_from label (dot ∷ symbols 0 rest) ≡ prepend label (read_after_dot rest)
read_dot_after label rest is =
    let lower = is.lower in
    labels_from-dot label rest ∙ prepend_checked_label-none label (read_after_dot rest) (label_faultless label is.nonempty is.short) ∙ ap (λ l. prepend l (read_after_dot rest)) lower

read_after_dot-more : (text : Octets) → 0 < length text → read_after_dot text ≡ labels_from [] (symbols 0 text)
read_after_dot-more [] some = absurd (omega arith)
read_after_dot-more (c ∷ text) some = refl

-- printed labels read back
printed_labels_read : (label : Octets) (labels : Labels) → IsLabel label → AllByRecursion IsLabel labels → labels_from [] (symbols 0 (flat_map printed_label (label ∷ labels))) ≡ Ok (label ∷ labels, true)
printed_labels_read label [] is all = printed_label_reads label [] is.octets ∙ read_dot_after label [] is
printed_labels_read label (next ∷ labels) is all =
    let rest : Octets = flat_map printed_label (next ∷ labels) in
    let some : 0 < length rest = omega (arith, printed_label_long next (flat_map printed_label labels) all.0.nonempty) in
    printed_label_reads label rest is.octets ∙ read_dot_after label rest is ∙ ap (prepend label) (read_after_dot-more rest some ∙ printed_labels_read next labels all.0 all.1)

and_false : (b : Bool) → (b && false) ≡ false
and_false true = refl
and_false false = refl

not_single : (text : Octets) (c : ℕ) → 1 < length text → pointwise nat_eq text (c ∷ []) ≡ false
not_single [] c long = absurd (omega arith)
not_single (x ∷ []) c long = absurd (omega arith)
not_single (x ∷ y ∷ text) c long = and_false (nat_eq x c)

-- the text of a name denotes that name
pub name_of-text_of : (labels origin : Labels) → IsName labels → name_of (text_of labels) origin ≡ Ok labels
name_of-text_of [] origin is = refl
name_of-text_of (label ∷ labels) origin is =
    let text : Octets = text_of (label ∷ labels) in
    let long = printed_label_long label (flat_map printed_label labels) is.each.0.nonempty in
    other_text text origin (not_single text 64 long) (not_single text 46 long) ∙ ap (relative_to origin) (printed_labels_read label labels is.each.0 is.each.1) ∙ name_within_limit-short (label ∷ labels) is.short
