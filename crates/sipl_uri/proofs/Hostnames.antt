-- A text is a hostname by the grammar exactly where it is read as one.
use Rattle.std.proofs.Common.{◌≡◌, ℕ, ◌<◌, ◌≤◌, Bool, true, false, List, [], ◌∷◌, ◌++◌, length, map, Option, Some, None, Result, Ok, Err, if◌then◌else◌, refl, sym, ap, subst, ◌∙◌, arith, inl, inr, nat_eq, ◌==◌, append_assoc, append-nil}
use Rattle.std.specs.Prelude.{codes, nat_lt}
use Rattle.std.specs.List.{AllByRecursion, flat_map, list_all}
use Rattle.std.specs.Str.{str_to_ascii_lowercase}
use lib.Pointwise.{pointwise}
use Rattle.std.proofs.lemmas.Bool.{cases_Bool, and_parts, and_from, and_left, eqb-true, ltb-false, le-ltb, cond-false}
use Rattle.std.proofs.lemmas.Bool.Decides.{nat_tests}
use Rattle.std.proofs.lemmas.List.{map-append}
use Rattle.std.proofs.lemmas.List.Folds.{list_all-append}
use Rattle.std.proofs.lemmas.Option.{cond_some}
use Rattle.sipl_names.specs.declared.fault.InvalidName.{InvalidName}
use Rattle.sipl_names.specs.declared.fault.InvalidName.TheVariants.{NameTooLong}
use Rattle.sipl_names.specs.Labels.{Octets, Labels, label_fault, wire_length, top_label_of, name_within_limit}
use Rattle.sipl_names.specs.NameText.{Symbol, octet, dot, symbols, labels_from, Read, prepend_label, prepend_checked_label, relative_to, name_of}
use Rattle.sipl_names.specs.Hostnames.{is_label_octet, is_hostname_octet, begins_with_letter, has_alphabetic_top, hostname_of}
use Rattle.sipl_uri.specs.Grammar.{IsOptional, IsDomainLabel, IsTopLabel, dotted, IsHostname}
use Rattle.sipl_uri.proofs.Octets.{list_all-weaker, no_backslash, no_dot, no_at, of_hostname, of_label, begins_with_letter-lower}

-- an octet that is no backslash is a dot or stands for itself
symbols-plain : (c : ℕ) (text : Octets) → nat_eq c 92 ≡ false → symbols 0 (c ∷ text) ≡ (if c == 46 then dot else octet c) ∷ symbols 0 text
symbols-plain c text plain = rw plain refl

symbols-dot : (c : ℕ) (text : Octets) → is_hostname_octet c ≡ true → nat_eq c 46 ≡ true → symbols 0 (c ∷ text) ≡ dot ∷ symbols 0 text
symbols-dot c text host is = symbols-plain c text (no_backslash c host) ∙ rw is refl

symbols-octet : (c : ℕ) (text : Octets) → is_hostname_octet c ≡ true → nat_eq c 46 ≡ false → symbols 0 (c ∷ text) ≡ octet c ∷ symbols 0 text
symbols-octet c text host other = symbols-plain c text (no_backslash c host) ∙ rw other refl

-- a dot that another octet follows ends a label
labels_from-dot : (label : Octets) (c : ℕ) (text : Octets) → is_hostname_octet c ≡ true → labels_from label (dot ∷ symbols 0 (c ∷ text)) ≡ prepend_checked_label label (labels_from [] (symbols 0 (c ∷ text)))
labels_from-dot label c text host =
    let first = symbols-plain c text (no_backslash c host) in
    ap (λ (all : List Symbol). labels_from label (dot ∷ all)) first ∙ ap (λ (all : List Symbol). prepend_checked_label label (labels_from [] all)) (sym first)

-- a label that was read
record Prepended (label : Octets) (rest : Read) (read : Labels × Bool) : Type 0 where
  nonempty : 0 < length label
  short : length label ≤ 63
  others : Labels × Bool
  is_rest : rest ≡ Ok others
  is_read : (str_to_ascii_lowercase label ∷ others.0, others.1) ≡ read

prepended_by : (o : Option InvalidName) (label : Octets) (rest : Read) (read : Labels × Bool) → elim o as (λ _. Read) [ Some fault ↦ Err fault | None ↦ prepend_label label rest ] ≡ Ok read → (o ≡ None) × ((others : Labels × Bool) × (rest ≡ Ok others) × ((str_to_ascii_lowercase label ∷ others.0, others.1) ≡ read))
prepended_by None label (Ok others) read e = (refl, (others, refl, cc))
prepended_by None label (Err fault) read e = cc
prepended_by (Some fault) label rest read e = cc

faultless : (label : Octets) → label_fault label ≡ None → (0 < length label) × (length label ≤ 63)
faultless label none = grind (arith, nat_tests)

prepended : (label : Octets) (rest : Read) (read : Labels × Bool) → prepend_checked_label label rest ≡ Ok read → Prepended label rest read
prepended label rest read e =
    let by = prepended_by (label_fault label) label rest read e in
    let limits = faultless label by.0 in
    record { nonempty = limits.0; short = limits.1; others = by.1.0; is_rest = by.1.1; is_read = by.1.2 }

-- the labels that a text spells after these octets of its first label, and whether a dot ends it
record Spelled (label text : Octets) (labels : Labels) (whole : Bool) : Type 0 where
  domains : List Octets
  top : Octets
  written : label ++ text ≡ flat_map dotted domains ++ top ++ (if whole then codes "." else [])
  domain_labels : AllByRecursion IsDomainLabel domains
  top_label : IsDomainLabel top
  name : labels ≡ map str_to_ascii_lowercase (domains ++ top ∷ [])

-- a text of one label, with a dot or without
one_label : (label text : Octets) (whole : Bool) (read : Labels × Bool) → list_all is_label_octet label ≡ true → text ≡ (if whole then codes "." else []) → prepend_checked_label label (Ok ([], whole)) ≡ Ok read → Spelled label text read.0 read.1
one_label label text whole read good is e =
    let p = prepended label (Ok ([], whole)) read e in
    let none : ◌≡◌ {A = Labels × Bool} ([], whole) p.others = let same = p.is_rest in cc in
    let same : (str_to_ascii_lowercase label ∷ [], whole) ≡ read = ap (λ (r : Labels × Bool). (str_to_ascii_lowercase label ∷ r.0, r.1)) none ∙ p.is_read in
    subst (λ (r : Labels × Bool). Spelled label text r.0 r.1) same (record {
      domains = [];
      top = label;
      written = ap (λ (end : Octets). label ++ end) is;
      domain_labels = tt;
      top_label = record { nonempty = p.nonempty; short = p.short; octets = good };
      name = refl;
    })

regroup : (label domains top end : Octets) → label ++ 46 ∷ (domains ++ top ++ end) ≡ label ++ 46 ∷ [] ++ domains ++ top ++ end
regroup label domains top end = simp append_assoc

-- a label, a dot and the labels that follow
next_label : (label text : Octets) (read : Labels × Bool) → list_all is_label_octet label ≡ true → ((r : Labels × Bool) → labels_from [] (symbols 0 text) ≡ Ok r → Spelled [] text r.0 r.1) → prepend_checked_label label (labels_from [] (symbols 0 text)) ≡ Ok read → Spelled label (46 ∷ text) read.0 read.1
next_label label text read good rest e =
    let p = prepended label (labels_from [] (symbols 0 text)) read e in
    let s = rest p.others p.is_rest in
    subst (λ (r : Labels × Bool). Spelled label (46 ∷ text) r.0 r.1) p.is_read (record {
      domains = label ∷ s.domains;
      top = s.top;
      written = ap (λ (others : Octets). label ++ 46 ∷ others) s.written ∙ regroup label (flat_map dotted s.domains) s.top (if p.others.1 then codes "." else []);
      domain_labels = (record { nonempty = p.nonempty; short = p.short; octets = good }, s.domain_labels);
      top_label = s.top_label;
      name = ap (λ (labels : Labels). str_to_ascii_lowercase label ∷ labels) s.name;
    })

-- one more octet of a label
more : (label : Octets) (c : ℕ) (text : Octets) (labels : Labels) (whole : Bool) → Spelled (label ++ c ∷ []) text labels whole → Spelled label (c ∷ text) labels whole
more label c text labels whole s = record {
  domains = s.domains;
  top = s.top;
  written = sym (append_assoc label (c ∷ []) text) ∙ s.written;
  domain_labels = s.domain_labels;
  top_label = s.top_label;
  name = s.name;
}

longer : (label : Octets) (c : ℕ) → list_all is_label_octet label ≡ true → is_label_octet c ≡ true → list_all is_label_octet (label ++ c ∷ []) ≡ true
longer label c good next = list_all-append is_label_octet label (c ∷ []) ∙ and_from _ _ good (and_from _ _ next refl)

-- what the labels of a text are
spelled : (text label : Octets) (read : Labels × Bool) → list_all is_hostname_octet text ≡ true → list_all is_label_octet label ≡ true → labels_from label (symbols 0 text) ≡ Ok read → Spelled label text read.0 read.1
spelled [] label read all good e = one_label label [] false read good refl e
spelled (c ∷ []) label read all good e =
    let host = (and_parts (is_hostname_octet c) true all).0 in
    elim (cases_Bool (nat_eq c 46)) [
      | inl is ↦ one_label label (c ∷ []) true read good (ap (λ (d : ℕ). d ∷ []) (eqb-true c 46 is)) (sym (ap (λ (s : List Symbol). labels_from label s) (symbols-dot c [] host is)) ∙ e)
      | inr other ↦ more label c [] read.0 read.1 (spelled [] (label ++ c ∷ []) read refl (longer label c good (of_label c host other)) (sym (ap (λ (s : List Symbol). labels_from label s) (symbols-octet c [] host other)) ∙ e))
    ]
spelled (c ∷ next ∷ text) label read all good e =
    let parts = and_parts (is_hostname_octet c) (list_all is_hostname_octet (next ∷ text)) all in
    let host = (and_parts (is_hostname_octet next) (list_all is_hostname_octet text) parts.1).0 in
    elim (cases_Bool (nat_eq c 46)) [
      | inl is ↦
          subst (λ (d : ℕ). Spelled label (d ∷ next ∷ text) read.0 read.1) (sym (eqb-true c 46 is))
          (next_label label (next ∷ text) read good (λ r f. spelled (next ∷ text) [] r parts.1 refl f)
          (sym (labels_from-dot label next text host) ∙ (sym (ap (λ (s : List Symbol). labels_from label s) (symbols-dot c (next ∷ text) parts.0 is)) ∙ e)))
      | inr other ↦ more label c (next ∷ text) read.0 read.1 (spelled (next ∷ text) (label ++ c ∷ []) read parts.1 (longer label c good (of_label c parts.0 other)) (sym (ap (λ (s : List Symbol). labels_from label s) (symbols-octet c (next ∷ text) parts.0 other)) ∙ e))
    ]

-- the last label is next to the root
pub top_label_of-last : (labels : Labels) (top : Octets) → top_label_of (labels ++ top ∷ []) ≡ Some top
top_label_of-last [] top = refl
top_label_of-last (label ∷ []) top = refl
top_label_of-last (label ∷ next ∷ labels) top = top_label_of-last (next ∷ labels) top

abbrev top_test : Option Octets → Bool
top_test top = elim top [ Some label ↦ begins_with_letter label | None ↦ false ]

pub has_alphabetic_top-lower : (domains : List Octets) (top : Octets) → has_alphabetic_top (map str_to_ascii_lowercase (domains ++ top ∷ [])) ≡ begins_with_letter top
has_alphabetic_top-lower domains top =
    ap (λ (labels : Labels). has_alphabetic_top labels) (map-append str_to_ascii_lowercase domains (top ∷ []))
    ∙ ap top_test (top_label_of-last (map str_to_ascii_lowercase domains) (str_to_ascii_lowercase top))
    ∙ begins_with_letter-lower top

-- a name that was read is absolute and within the limit
within_limit : (b : Bool) (labels read : Labels) → (if b then Err NameTooLong else Ok labels) ≡ Ok read → (b ≡ false) × (labels ≡ read)
within_limit true labels read e = cc
within_limit false labels read e = (refl, cc)

absolute : (b : Bool) (labels : Labels) → (if b then labels else labels ++ []) ≡ labels
absolute true labels = refl
absolute false labels = append-nil labels

relative_to_is : (read : Read) (labels : Labels) → relative_to [] read ≡ Ok labels → (r : Labels × Bool) × (read ≡ Ok r) × (r.0 ≡ labels) × (wire_length labels ≤ 255)
relative_to_is (Ok r) labels e =
    let limit = within_limit (nat_lt 255 (wire_length (if r.1 then r.0 else r.0 ++ []))) (if r.1 then r.0 else r.0 ++ []) labels e in
    (r, refl, sym (absolute r.1 r.0) ∙ limit.1, subst (λ (ls : Labels). wire_length ls ≤ 255) limit.1 (ltb-false 255 _ limit.0))
relative_to_is (Err fault) labels e = cc

final_dot : (whole : Bool) → IsOptional (codes ".") (if whole then codes "." else [])
final_dot true = inl refl
final_dot false = inr refl

hostname_from : (text : Octets) (labels : Labels) (whole : Bool) → Spelled [] text labels whole → has_alphabetic_top labels ≡ true → wire_length labels ≤ 255 → IsHostname text labels
hostname_from text labels whole s letter short = record {
  domains = s.domains;
  top = s.top;
  final = if whole then codes "." else [];
  written = s.written;
  domain_labels = s.domain_labels;
  top_label = record { domain_label = s.top_label; letter = sym (ap (λ (ls : Labels). has_alphabetic_top ls) s.name ∙ has_alphabetic_top-lower s.domains s.top) ∙ letter };
  final_dot = final_dot whole;
  name = s.name;
  short = short;
}

no_letter : (labels : Labels) → ◌≡◌ {A = Result Labels InvalidName} (Ok []) (Ok labels) → has_alphabetic_top labels ≡ true → false ≡ true
no_letter labels e letter = let none : [] ≡ labels = cc in subst (λ (ls : Labels). has_alphabetic_top ls ≡ true) (sym none) letter

name_is : (text : Octets) (labels : Labels) (at root : Bool) → list_all is_hostname_octet text ≡ true → has_alphabetic_top labels ≡ true → (if at then Ok [] else (if root then Ok [] else relative_to [] (labels_from [] (symbols 0 text)))) ≡ Ok labels → IsHostname text labels
name_is text labels true root all letter e = let absent = no_letter labels e letter in cc
name_is text labels false true all letter e = let absent = no_letter labels e letter in cc
name_is text labels false false all letter e =
    let r = relative_to_is (labels_from [] (symbols 0 text)) labels e in
    subst (λ (ls : Labels). IsHostname text ls) r.2
    (hostname_from text r.0.0 r.0.1 (spelled text [] r.0 all refl r.1) (subst (λ (ls : Labels). has_alphabetic_top ls ≡ true) (sym r.2) letter) (subst (λ (ls : Labels). wire_length ls ≤ 255) (sym r.2) r.3))

hostname_by : (b : Bool) (name : Result Labels InvalidName) (labels : Labels) → (if b then elim name [ Ok ls ↦ (if has_alphabetic_top ls then Some ls else None) | Err fault ↦ None ] else None) ≡ Some labels → (b ≡ true) × (name ≡ Ok labels) × (has_alphabetic_top labels ≡ true)
hostname_by true (Ok ls) labels e =
    let parts : (has_alphabetic_top ls ≡ true) × (ls ≡ labels) = cond_some (has_alphabetic_top ls) ls labels e in
    (refl, ap (λ x. Ok x) parts.1, subst (λ (x : Labels). has_alphabetic_top x ≡ true) parts.1 parts.0)
hostname_by true (Err fault) labels e = cc
hostname_by false name labels e = cc

-- what is read as a hostname is one
pub hostname_of-is : (text : Octets) (labels : Labels) → hostname_of text ≡ Some labels → IsHostname text labels
hostname_of-is text labels e =
    let parts = hostname_by (list_all is_hostname_octet text) (name_of text []) labels e in
    name_is text labels _ _ parts.0 parts.2 parts.1

-- the octets of a label are read on
labels_from-part : (part label rest : Octets) → list_all is_label_octet part ≡ true → labels_from label (symbols 0 (part ++ rest)) ≡ labels_from (label ++ part) (symbols 0 rest)
labels_from-part [] label rest all = ap (λ (l : Octets). labels_from l (symbols 0 rest)) (sym (append-nil label))
labels_from-part (c ∷ part) label rest all =
    let parts = and_parts (is_label_octet c) (list_all is_label_octet part) all in
    ap (λ (s : List Symbol). labels_from label s) (symbols-octet c (part ++ rest) (of_hostname c parts.0) (no_dot c parts.0))
    ∙ labels_from-part part (label ++ c ∷ []) rest parts.1
    ∙ ap (λ (l : Octets). labels_from l (symbols 0 rest)) (append_assoc label (c ∷ []) part)

-- a label has no fault
pub label_fault-None : (label : Octets) → IsDomainLabel label → label_fault label ≡ None
label_fault-None label is =
    let nonempty = is.nonempty in
    let short = is.short in
    grind (arith, nat_tests)

prepend_checked_label-is : (label : Octets) (rest : Read) → IsDomainLabel label → prepend_checked_label label rest ≡ prepend_label label rest
prepend_checked_label-is label rest is = ap (λ fault. elim fault as (λ _. Read) [ Some f ↦ Err f | None ↦ prepend_label label rest ]) (label_fault-None label is)

-- a label begins with an octet of a label
label_first : (label : Octets) → IsDomainLabel label → (c : ℕ) × (rest : Octets) × (label ≡ c ∷ rest) × (is_label_octet c ≡ true)
label_first [] is = let nonempty = is.nonempty in absurd (omega arith)
label_first (c ∷ rest) is = (c, rest, refl, (and_parts (is_label_octet c) (list_all is_label_octet rest) is.octets).0)

-- and so does a hostname
hostname_first : (domains : List Octets) (top end : Octets) → AllByRecursion IsDomainLabel domains → IsDomainLabel top → (c : ℕ) × (rest : Octets) × (flat_map dotted domains ++ top ++ end ≡ c ∷ rest) × (is_label_octet c ≡ true)
hostname_first [] top end each is =
    let first = label_first top is in
    (first.0, first.1 ++ end, ap (λ (t : Octets). t ++ end) first.2, first.3)
hostname_first (label ∷ domains) top end each is =
    let first = label_first label each.0 in
    (first.0, first.1 ++ codes "." ++ flat_map dotted domains ++ top ++ end, ap (λ (l : Octets). l ++ codes "." ++ flat_map dotted domains ++ top ++ end) first.2, first.3)

labels_from-end : (top : Octets) (whole : Bool) → labels_from top (symbols 0 (if whole then codes "." else [])) ≡ prepend_checked_label top (Ok ([], whole))
labels_from-end top true = refl
labels_from-end top false = refl

labels_from-next : (label text : Octets) (read : Labels × Bool) → IsDomainLabel label → (c : ℕ) (rest : Octets) → text ≡ c ∷ rest → is_label_octet c ≡ true → labels_from [] (symbols 0 text) ≡ Ok read → labels_from [] (symbols 0 (label ++ 46 ∷ text)) ≡ Ok (str_to_ascii_lowercase label ∷ read.0, read.1)
labels_from-next label text read is c rest first letter e =
    labels_from-part label [] (46 ∷ text) is.octets
    ∙ (subst (λ (t : Octets). labels_from label (dot ∷ symbols 0 t) ≡ prepend_checked_label label (labels_from [] (symbols 0 t))) (sym first) (labels_from-dot label c rest (of_hostname c letter))
    ∙ (prepend_checked_label-is label (labels_from [] (symbols 0 text)) is ∙ ap (λ (r : Read). prepend_label label r) e))

-- the labels of a hostname are read
labels_from-hostname : (domains : List Octets) (top : Octets) (whole : Bool) → AllByRecursion IsDomainLabel domains → IsDomainLabel top → labels_from [] (symbols 0 (flat_map dotted domains ++ top ++ (if whole then codes "." else []))) ≡ Ok (map str_to_ascii_lowercase (domains ++ top ∷ []), whole)
labels_from-hostname [] top whole each is =
    labels_from-part top [] (if whole then codes "." else []) is.octets ∙ (labels_from-end top whole ∙ prepend_checked_label-is top (Ok ([], whole)) is)
labels_from-hostname (label ∷ domains) top whole each is =
    let end : Octets = if whole then codes "." else [] in
    let first = hostname_first domains top end each.1 is in
    ap (λ (t : Octets). labels_from [] (symbols 0 t)) (sym (regroup label (flat_map dotted domains) top end))
    ∙ labels_from-next label (flat_map dotted domains ++ top ++ end) (map str_to_ascii_lowercase (domains ++ top ∷ []), whole) each.0 first.0 first.1 first.2 first.3 (labels_from-hostname domains top whole each.1 is)

-- the octets of a hostname
pub label_octets : (label : Octets) → IsDomainLabel label → list_all is_hostname_octet label ≡ true
label_octets label is = list_all-weaker is_label_octet is_hostname_octet of_hostname label is.octets

domain_octets : (domains : List Octets) → AllByRecursion IsDomainLabel domains → list_all is_hostname_octet (flat_map dotted domains) ≡ true
domain_octets [] each = refl
domain_octets (label ∷ domains) each =
    list_all-append is_hostname_octet (label ++ codes ".") (flat_map dotted domains)
    ∙ and_from _ _ (list_all-append is_hostname_octet label (codes ".") ∙ and_from _ _ (label_octets label each.0) refl) (domain_octets domains each.1)

end_octets : (whole : Bool) → list_all is_hostname_octet (if whole then codes "." else []) ≡ true
end_octets true = refl
end_octets false = refl

written_octets : (domains : List Octets) (top : Octets) (whole : Bool) → AllByRecursion IsDomainLabel domains → IsDomainLabel top → list_all is_hostname_octet (flat_map dotted domains ++ top ++ (if whole then codes "." else [])) ≡ true
written_octets domains top whole each is =
    list_all-append is_hostname_octet (flat_map dotted domains ++ top) (if whole then codes "." else [])
    ∙ and_from _ _ (list_all-append is_hostname_octet (flat_map dotted domains) top ∙ and_from _ _ (domain_octets domains each) (label_octets top is)) (end_octets whole)

is_whole : (end : Octets) → IsOptional (codes ".") end → (whole : Bool) × (end ≡ (if whole then codes "." else []))
is_whole end (inl is) = (true, is)
is_whole end (inr is) = (false, is)

relative_to-within : (labels : Labels) (whole : Bool) → wire_length labels ≤ 255 → relative_to [] (Ok (labels, whole)) ≡ Ok labels
relative_to-within labels whole short =
    ap (λ (ls : Labels). name_within_limit ls) (absolute whole labels) ∙ cond-false (nat_lt 255 (wire_length labels)) (Err NameTooLong) (Ok labels) (le-ltb 255 (wire_length labels) short)

name_from : (at root : Bool) (name : Result Labels InvalidName) → at ≡ false → root ≡ false → (if at then Ok [] else (if root then Ok [] else name)) ≡ name
name_from at root name e f = rw (e, f) refl

name_of-hostname : (text : Octets) (labels : Labels) (whole : Bool) (c : ℕ) (rest : Octets) → text ≡ c ∷ rest → is_label_octet c ≡ true → labels_from [] (symbols 0 text) ≡ Ok (labels, whole) → wire_length labels ≤ 255 → name_of text [] ≡ Ok labels
name_of-hostname text labels whole c rest first letter e short =
    name_from (pointwise nat_eq text (codes "@")) (pointwise nat_eq text (codes ".")) (relative_to [] (labels_from [] (symbols 0 text)))
    (ap (λ (t : Octets). pointwise nat_eq t (codes "@")) first ∙ and_left (nat_eq c 64) (pointwise nat_eq rest []) (no_at c letter))
    (ap (λ (t : Octets). pointwise nat_eq t (codes ".")) first ∙ and_left (nat_eq c 46) (pointwise nat_eq rest []) (no_dot c letter))
    ∙ (ap (λ (r : Read). relative_to [] r) e ∙ relative_to-within labels whole short)

hostname_read : (text : Octets) (labels : Labels) → list_all is_hostname_octet text ≡ true → name_of text [] ≡ Ok labels → has_alphabetic_top labels ≡ true → hostname_of text ≡ Some labels
hostname_read text labels all name letter =
    (λ i. if all i then elim (name i) as (λ _. Option Labels) [ Ok ls ↦ (if has_alphabetic_top ls then Some ls else None) | Err fault ↦ None ] else None)
    ∙ ap (λ (b : Bool). if b then Some labels else None) letter

-- the parts of a hostname
pub record HostnameParts (text : Octets) (labels : Labels) : Type 0 where
  pub domains : List Octets
  pub top : Octets
  pub whole : Bool
  pub written : text ≡ flat_map dotted domains ++ top ++ (if whole then codes "." else [])
  pub domain_labels : AllByRecursion IsDomainLabel domains
  pub top_label : IsTopLabel top
  pub name : labels ≡ map str_to_ascii_lowercase (domains ++ top ∷ [])
  pub short : wire_length labels ≤ 255

pub hostname_parts : (text : Octets) (labels : Labels) → IsHostname text labels → HostnameParts text labels
hostname_parts text labels is =
    let whole = is_whole is.final is.final_dot in
    record {
      domains = is.domains;
      top = is.top;
      whole = whole.0;
      written = is.written ∙ ap (λ (end : Octets). flat_map dotted is.domains ++ is.top ++ end) whole.1;
      domain_labels = is.domain_labels;
      top_label = is.top_label;
      name = is.name;
      short = is.short;
    }

-- a hostname is written with such octets
pub hostname_octets : (text : Octets) (labels : Labels) → IsHostname text labels → list_all is_hostname_octet text ≡ true
hostname_octets text labels is =
    let p = hostname_parts text labels is in
    ap (λ (t : Octets). list_all is_hostname_octet t) p.written ∙ written_octets p.domains p.top p.whole p.domain_labels p.top_label.domain_label

-- a hostname is read as one
pub hostname_of-Some : (text : Octets) (labels : Labels) → IsHostname text labels → hostname_of text ≡ Some labels
hostname_of-Some text labels is =
    let p = hostname_parts text labels is in
    let end : Octets = if p.whole then codes "." else [] in
    let first = hostname_first p.domains p.top end p.domain_labels p.top_label.domain_label in
    let read : labels_from [] (symbols 0 text) ≡ Ok (labels, p.whole) =
    ap (λ (t : Octets). labels_from [] (symbols 0 t)) p.written
    ∙ (labels_from-hostname p.domains p.top p.whole p.domain_labels p.top_label.domain_label ∙ ap (λ (ls : Labels). Ok (ls, p.whole)) (sym p.name)) in
    hostname_read text labels (hostname_octets text labels is)
    (name_of-hostname text labels p.whole first.0 first.1 (p.written ∙ first.2) first.3 read p.short)
    (ap (λ (ls : Labels). has_alphabetic_top ls) p.name ∙ (has_alphabetic_top-lower p.domains p.top ∙ p.top_label.letter))
