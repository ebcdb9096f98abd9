-- A text of the grammar is read as what it stands for.
use Rattle.std.proofs.Common.{◌≡◌, ℕ, ◌+◌, ◌<◌, Bool, true, false, List, [], ◌∷◌, ◌++◌, length, map, Option, None, Some, refl, sym, ap, ◌∙◌, arith, nat_eq, nat_le, inl, inr, if◌then◌else◌}
use Rattle.std.specs.Prelude.{option_map, ◌&&◌, is_some}
use Rattle.std.specs.Char.{is_digit, digit_value, is_ascii_digit}
use Rattle.std.specs.List.{list_all}
use Rattle.std.specs.Str.{all_ascii_digits}
use Rattle.std.specs.Str.Parse.{AllDigits, digits_value}
use Rattle.std.proofs.Math.Bool.{and-false}
use Rattle.std.proofs.lemmas.Bool.{cases_Bool, lt-ltb, le-leb, leb-true, ltb-true, and_left, and_parts, false≢true}
use Rattle.std.proofs.lemmas.Bool.Decides.{nat_tests}
use Rattle.std.proofs.lemmas.List.{append_assoc, append-nil, length-append}
use Rattle.std.proofs.lemmas.Option.{cond_some, none-some}
use Rattle.sipl_records.specs.Ipv4.{group_of, four_groups, number_of_text}
use Rattle.sipl_records.specs.Ipv6.{hex_group_of, last_groups_of, groups_of, groups_of_text, split_at_zeros, groups_around, groups6_of_text, address6_of_text, number_of_groups}
use Rattle.sipl_records.specs.Ipv6Grammar.{IsHexGroup, IsIpv4Groups, IsGroupsAfter, IsGroups, IsAddress6Groups, IsAddress6Text}
use Rattle.sipl_records.specs.Parts.{parts, prepend_to_first}
use Rattle.sipl_records.proofs.Parts.{length-parts}
use Rattle.sipl_records.proofs.Ipv6Groups.{groups_of-more, groups_of_text-some, split_at_zeros-next}

-- an octet is not among those of a text
abbrev pub lacks : ℕ → List ℕ → Bool
lacks octet text = list_all (λ c. if nat_eq c octet then false else true) text

lacks_step : (b c : Bool) → ((if b then false else true) && c) ≡ true → (b ≡ false) × (c ≡ true)
lacks_step true c e = cc
lacks_step false c e = (refl, e)

lacks_parts : (octet c : ℕ) (text : List ℕ) → lacks octet (c ∷ text) ≡ true → (nat_eq c octet ≡ false) × (lacks octet text ≡ true)
lacks_parts octet c text none = lacks_step (nat_eq c octet) (lacks octet text) none

-- hexadecimal digits, as a test
all_hex : (text : List ℕ) → AllDigits 16 text → list_all (λ c. is_digit c 16) text ≡ true
all_hex [] all = refl
all_hex (c ∷ text) all = rw (lt-ltb (digit_value c) 16 all.0) (all_hex text all.1)

-- neither a colon nor a dot is a hexadecimal digit
hex_no_colon : (c : ℕ) → digit_value c < 16 → nat_eq c 58 ≡ false
hex_no_colon c digit = grind (arith, nat_tests)

hex_no_dot : (c : ℕ) → digit_value c < 16 → nat_eq c 46 ≡ false
hex_no_dot c digit = grind (arith, nat_tests)

hex_lacks_dot : (text : List ℕ) → AllDigits 16 text → lacks 46 text ≡ true
hex_lacks_dot [] all = refl
hex_lacks_dot (c ∷ text) all = rw (hex_no_dot c all.0) (hex_lacks_dot text all.1)

hex_lacks_colon : (text : List ℕ) → AllDigits 16 text → lacks 58 text ≡ true
hex_lacks_colon [] all = refl
hex_lacks_colon (c ∷ text) all = rw (hex_no_colon c all.0) (hex_lacks_colon text all.1)

-- a group of the grammar is read
pub hex_group_of-written : (text : List ℕ) (group : ℕ) → IsHexGroup text group → hex_group_of text ≡ Some group
hex_group_of-written text group is =
    let some : nat_le 1 (length text) ≡ true = le-leb _ _ is.digits.0 in
    let few : nat_le (length text) 4 ≡ true = le-leb _ _ is.few in
    rw (some, few, all_hex text is.digits.1, is.value) refl

-- and nothing else is
hex_from_test : (text : List ℕ) → list_all (λ c. is_digit c 16) text ≡ true → AllDigits 16 text
hex_from_test [] all = tt
hex_from_test (c ∷ text) all =
    let (digit, others) = and_parts (is_digit c 16) (list_all (λ d. is_digit d 16) text) all in
    (ltb-true (digit_value c) 16 digit, hex_from_test text others)

pub hex_group_of-sound : (text : List ℕ) (group : ℕ) → hex_group_of text ≡ Some group → IsHexGroup text group
hex_group_of-sound text group e =
    let (test, value) = cond_some (nat_le 1 (length text) && nat_le (length text) 4 && list_all (λ c. is_digit c 16) text) (digits_value 16 text) group e in
    let (counts, all) = and_parts (nat_le 1 (length text) && nat_le (length text) 4) (list_all (λ c. is_digit c 16) text) test in
    let (some, few) = and_parts (nat_le 1 (length text)) (nat_le (length text) 4) counts in
    record { digits = (leb-true _ _ some, hex_from_test text all); few = leb-true _ _ few; value = value }

-- a text without its separator is a part of its own
parts-lacks : (s : ℕ) (text rest : List ℕ) → lacks s text ≡ true → nat_eq s s ≡ true → parts s (text ++ s ∷ rest) ≡ text ∷ parts s rest
parts-lacks s [] rest none same = rw same refl
parts-lacks s (c ∷ text) rest none same =
    let (other, others) = lacks_parts s c text none in
    rw (other, parts-lacks s text rest others same) refl

parts-alone : (s : ℕ) (text : List ℕ) → lacks s text ≡ true → parts s text ≡ text ∷ []
parts-alone s [] none = refl
parts-alone s (c ∷ text) none =
    let (other, others) = lacks_parts s c text none in
    rw (other, parts-alone s text others) refl

-- an IPv4 text: its parts are groups, so it has digits and dots only
four_some : (groups : List (Option ℕ)) (n : ℕ) → four_groups groups ≡ Some n → list_all is_some groups ≡ true
four_some [] n e = absurd cc
four_some (None ∷ groups) n e = absurd cc
four_some (Some a ∷ []) n e = absurd cc
four_some (Some a ∷ None ∷ groups) n e = absurd cc
four_some (Some a ∷ Some b ∷ []) n e = absurd cc
four_some (Some a ∷ Some b ∷ None ∷ groups) n e = absurd cc
four_some (Some a ∷ Some b ∷ Some c ∷ []) n e = absurd cc
four_some (Some a ∷ Some b ∷ Some c ∷ None ∷ groups) n e = absurd cc
four_some (Some a ∷ Some b ∷ Some c ∷ Some d ∷ []) n e = refl
four_some (Some a ∷ Some b ∷ Some c ∷ Some d ∷ f ∷ groups) n e = absurd cc

digits_from_group : (digits : List ℕ) → is_some (group_of digits) ≡ true → all_ascii_digits digits ≡ true
digits_from_group digits some =
    elim (cases_Bool (all_ascii_digits digits)) [
      | inl all ↦ all
      | inr other ↦ absurd (false≢true (rw (other, and-false (nat_le 1 (length digits) && nat_le (length digits) 3)) at some))
    ]

digits_from_groups : (ps : List (List ℕ)) → list_all is_some (map group_of ps) ≡ true → list_all all_ascii_digits ps ≡ true
digits_from_groups [] some = refl
digits_from_groups (p ∷ ps) some =
    let (first, others) = and_parts (is_some (group_of p)) (list_all is_some (map group_of ps)) some in
    rw (digits_from_group p first, digits_from_groups ps others) refl

first_of_parts : (c : ℕ) (ps : List (List ℕ)) → list_all all_ascii_digits (prepend_to_first c ps) ≡ true → (is_ascii_digit c ≡ true) × (list_all all_ascii_digits ps ≡ true)
first_of_parts c [] all = ((and_parts (is_ascii_digit c) true (and_parts (is_ascii_digit c && true) true all).0).0, refl)
first_of_parts c (p ∷ ps) all =
    let (first, others) = and_parts (is_ascii_digit c && all_ascii_digits p) (list_all all_ascii_digits ps) all in
    let (digit, digits) = and_parts (is_ascii_digit c) (all_ascii_digits p) first in
    (digit, rw (digits, others) refl)

digit_no_colon : (c : ℕ) → is_ascii_digit c ≡ true → nat_eq c 58 ≡ false
digit_no_colon c digit = grind (arith, nat_tests)

dot_no_colon : (c : ℕ) → nat_eq c 46 ≡ true → nat_eq c 58 ≡ false
dot_no_colon c dot = grind (arith, nat_tests)

digits_lack_colon : (text : List ℕ) → list_all all_ascii_digits (parts 46 text) ≡ true → lacks 58 text ≡ true
digits_lack_colon [] all = refl
digits_lack_colon (c ∷ text) all =
    elim (cases_Bool (nat_eq c 46)) [
      | inl dot ↦ rw (dot_no_colon c dot) (digits_lack_colon text (rw dot at all))
      | inr other ↦ let (digit, others) = first_of_parts c (parts 46 text) (rw other at all) in rw (digit_no_colon c digit) (digits_lack_colon text others)
    ]

pub ipv4_lacks_colon : (text : List ℕ) (n : ℕ) → number_of_text text ≡ Some n → lacks 58 text ≡ true
ipv4_lacks_colon text n e = digits_lack_colon text (digits_from_groups (parts 46 text) (four_some (map group_of (parts 46 text)) n e))

ipv4_some : (text : List ℕ) (n : ℕ) → number_of_text text ≡ Some n → 0 < length text
ipv4_some [] n e = absurd cc
ipv4_some (c ∷ text) n e = omega arith

-- nor is it a hexadecimal group, which has no dot
one_group : (o : Option ℕ) → four_groups (o ∷ []) ≡ None
one_group None = refl
one_group (Some a) = refl

ipv4_no_group : (text : List ℕ) (n : ℕ) (o : Option ℕ) → number_of_text text ≡ Some n → hex_group_of text ≡ o → hex_group_of text ≡ None
ipv4_no_group text n None e none = none
ipv4_no_group text n (Some group) e some =
    let is = hex_group_of-sound text group some in
    let alone = parts-alone 46 text (hex_lacks_dot text is.digits.1) in
    let none : number_of_text text ≡ None = rw alone (one_group (group_of text)) in
    absurd (none-some n (sym none ∙ e))

-- the last part, where it is written as an IPv4 text
last_groups_of-ipv4 : (text groups : List ℕ) → IsIpv4Groups text groups → last_groups_of true text ≡ Some groups
last_groups_of-ipv4 text groups is =
    rw (ipv4_no_group text is.number (hex_group_of text) is.is refl, is.is) (ap (λ gs. Some gs) (sym is.value))

-- what a colon precedes
after_colon : (ipv4 : Bool) (text : List ℕ) (group : ℕ) (groups : List ℕ) → IsGroupsAfter (58 ∷ []) ipv4 text (group ∷ groups) → (rest : List ℕ) × (text ≡ 58 ∷ rest) × IsGroupsAfter [] ipv4 rest (group ∷ groups)
after_colon ipv4 text group groups (inl h) = (h.0 ++ h.1, h.2, inl (h.0, h.1, refl, h.3, h.4))
after_colon ipv4 text group groups (inr h) = (h.0, h.2, inr (h.0, h.1, refl, h.3))

-- groups of the grammar are read
groups_written : (groups : List ℕ) (group : ℕ) (ipv4 : Bool) (text : List ℕ) → IsGroupsAfter [] ipv4 text (group ∷ groups) → (groups_of ipv4 (parts 58 text) ≡ Some (group ∷ groups)) × (0 < length text)
groups_written groups group true text (inr h) =
    let n = h.3.number in
    let alone = parts-alone 58 h.0 (ipv4_lacks_colon h.0 n h.3.is) in
    rw (h.2, alone) (last_groups_of-ipv4 h.0 (group ∷ groups) h.3, ipv4_some h.0 n h.3.is)
groups_written groups group false text (inr h) = absurd (false≢true h.1)
groups_written [] group ipv4 text (inl h) =
    let whole : text ≡ h.0 = h.2 ∙ ap (λ t. h.0 ++ t) h.4 ∙ append-nil h.0 in
    let alone = parts-alone 58 h.0 (hex_lacks_colon h.0 h.3.digits.1) in
    rw (whole, alone) (rw (hex_group_of-written h.0 group h.3) refl, h.3.digits.0)
groups_written (next ∷ groups) group ipv4 text (inl h) =
    let (rest, led, later) = after_colon ipv4 h.1 next groups h.4 in
    let whole : text ≡ h.0 ++ 58 ∷ rest = h.2 ∙ ap (λ t. h.0 ++ t) led in
    let cut = parts-lacks 58 h.0 rest (hex_lacks_colon h.0 h.3.digits.1) refl in
    let (read, some) = groups_written groups next ipv4 rest later in
    rw (whole, cut, groups_of-more ipv4 h.0 (parts 58 rest) (length-parts 58 rest), hex_group_of-written h.0 group h.3, read)
    (refl, omega (arith, length-append h.0 (58 ∷ rest), h.3.digits.0))

pub groups_of_text-written : (ipv4 : Bool) (text groups : List ℕ) → IsGroups ipv4 text groups → groups_of_text ipv4 text ≡ Some groups
groups_of_text-written ipv4 text [] h = rw h refl
groups_of_text-written ipv4 text (group ∷ groups) h =
    let (read, some) = groups_written groups group ipv4 text h in
    groups_of_text-some ipv4 text some ∙ read

-- where `::` is: not before an octet that is no colon, nor before a colon that one follows
not_turned : (c : ℕ) → nat_eq c 58 ≡ false → nat_eq 58 c ≡ false
not_turned c other = grind (arith, nat_tests)

split-octet : (c : ℕ) (text : List ℕ) → nat_eq c 58 ≡ false → split_at_zeros (c ∷ text) ≡ (c ∷ (split_at_zeros text).0, (split_at_zeros text).1)
split-octet c text other = split_at_zeros-next c text (and_left (nat_eq 58 c) _ (not_turned c other))

split-lacks : (text tail : List ℕ) → lacks 58 text ≡ true → split_at_zeros (text ++ tail) ≡ (text ++ (split_at_zeros tail).0, (split_at_zeros tail).1)
split-lacks [] tail none = refl
split-lacks (c ∷ text) tail none =
    let (other, others) = lacks_parts 58 c text none in
    split-octet c (text ++ tail) other ∙ ap (λ cut. (c ∷ cut.0, cut.1)) (split-lacks text tail others)

split-part : (text tail : List ℕ) → lacks 58 text ≡ true → 0 < length text → split_at_zeros (58 ∷ (text ++ tail)) ≡ (58 ∷ (text ++ (split_at_zeros tail).0), (split_at_zeros tail).1)
split-part [] tail none some = absurd (omega arith)
split-part (c ∷ text) tail none some =
    let (other, others) = lacks_parts 58 c text none in
    split_at_zeros-next 58 (c ∷ (text ++ tail)) (and_left (nat_eq 58 c) _ (not_turned c other)) ∙ ap (λ cut. (58 ∷ cut.0, cut.1)) (split-lacks (c ∷ text) tail none)

-- no `::` is among groups
abbrev SplitsAfter : List ℕ → List ℕ → Type 0
SplitsAfter text tail = split_at_zeros (text ++ tail) ≡ (text ++ (split_at_zeros tail).0, (split_at_zeros tail).1)

split-more_groups : (groups : List ℕ) (ipv4 : Bool) (text tail : List ℕ) → IsGroupsAfter (58 ∷ []) ipv4 text groups → SplitsAfter text tail
split-more_groups [] ipv4 text tail h = rw h refl
split-more_groups (group ∷ groups) ipv4 text tail (inl h) =
    let later = split-more_groups groups ipv4 h.1 tail h.4 in
    let here = split-part h.0 (h.1 ++ tail) (hex_lacks_colon h.0 h.3.digits.1) h.3.digits.0 in
    rw (h.2, append_assoc) (here ∙ ap (λ cut. (58 ∷ (h.0 ++ cut.0), cut.1)) later ∙ ap (λ t. (58 ∷ t, (split_at_zeros tail).1)) (sym (append_assoc h.0 h.1 (split_at_zeros tail).0)))
split-more_groups (group ∷ groups) ipv4 text tail (inr h) =
    rw h.2 (split-part h.0 tail (ipv4_lacks_colon h.0 h.3.number h.3.is) (ipv4_some h.0 h.3.number h.3.is))

split-groups : (groups : List ℕ) (ipv4 : Bool) (text tail : List ℕ) → IsGroups ipv4 text groups → SplitsAfter text tail
split-groups [] ipv4 text tail h = rw h refl
split-groups (group ∷ groups) ipv4 text tail (inl h) =
    let later = split-more_groups groups ipv4 h.1 tail h.4 in
    let here = split-lacks h.0 (h.1 ++ tail) (hex_lacks_colon h.0 h.3.digits.1) in
    rw (h.2, append_assoc h.0 h.1 tail, append_assoc h.0 h.1 (split_at_zeros tail).0) (here ∙ ap (λ cut. (h.0 ++ cut.0, cut.1)) later)
split-groups (group ∷ groups) ipv4 text tail (inr h) =
    rw h.2 (split-lacks h.0 tail (ipv4_lacks_colon h.0 h.3.number h.3.is))

-- a text of the grammar is read as its groups
pub groups6_of_text-written : (text groups : List ℕ) → IsAddress6Groups text groups → groups6_of_text text ≡ Some groups
groups6_of_text-written text groups (inl full) =
    let cut : split_at_zeros text ≡ (text, None) = ap split_at_zeros (sym (append-nil text)) ∙ split-groups groups true text [] full.written ∙ ap (λ t. (t, None)) (append-nil text) in
    ap (λ c. groups_around c.0 c.1) cut ∙ rw (groups_of_text-written true text groups full.written, full.eight) refl
groups6_of_text-written text groups (inr elided) =
    let left = elided.left_text in
    let right = elided.right_text in
    let cut : split_at_zeros text ≡ (left, Some right) = ap split_at_zeros elided.written ∙ split-groups elided.left false left (58 ∷ 58 ∷ right) elided.left_written ∙ ap (λ t. (t, Some right)) (append-nil left) in
    let fits : nat_le (length elided.left + length elided.right) 7 ≡ true = le-leb _ _ elided.few in
    ap (λ c. groups_around c.0 c.1) cut ∙ rw (groups_of_text-written false left elided.left elided.left_written, groups_of_text-written true right elided.right elided.right_written, fits) (ap (λ gs. Some gs) (sym elided.value))

pub address6_of_text-written : (text : List ℕ) (number : ℕ) → IsAddress6Text text number → address6_of_text text ≡ Some number
address6_of_text-written text number is = ap (option_map number_of_groups) (groups6_of_text-written text is.groups is.written) ∙ ap (λ n. Some n) is.value
