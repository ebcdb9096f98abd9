-- The text of a printed record is one entry.
use Rattle.std.proofs.Common.{◌≡◌, ℕ, zero, suc, ◌+◌, ◌/◌, ◌%◌, ◌^◌, ◌<◌, Bool, true, false, not, ◌&&◌, ◌||◌, List, [], ◌∷◌, ◌++◌, Option, None, Some, Ok, length, map, drop, refl, sym, ap, ◌∙◌, arith, append-nil, append_assoc, length-append, nat_eq, nat_le, ◌==◌, codes, decimal, flat_map, option_map, if◌then◌else◌}
use Rattle.std.proofs.Math.Seq.{take-append_seam, drop-append_seam}
use Rattle.std.proofs.lemmas.Bool.{and_parts}
use Rattle.std.proofs.lemmas.Bool.Decides.{nat_tests}
use Rattle.std.proofs.lemmas.Fmt.{digits_decimal}
use Rattle.std.proofs.lemmas.Str.Parse.{numerals_by_value, tells_all_ascii_digits}
use Rattle.std.specs.Char.{is_ascii_digit, digit_char}
use Rattle.std.specs.List.{AllByRecursion, list_all}
use Rattle.std.specs.Net.Text.{hex, groups_text, leading_zero_digits}
use Rattle.std.specs.Str.{all_ascii_digits}
use Rattle.sipl_names.specs.Labels.{Octets, Labels, IsLabel, IsName}
use Rattle.sipl_names.specs.NamePrint.{is_special, printed_octet, printed_label, text_of}
use Rattle.sipl_records.specs.Ipv4.{number_of_text, text_of_number}
use Rattle.sipl_records.specs.Ipv6.{address6_of_text, text_of_address6, groups_of_number}
use Rattle.sipl_records.specs.Numbers.{number_of}
use Rattle.sipl_records.specs.declared.record.Record.{Record}
use Rattle.sipl_records.proofs.Public.{number_of_text-text_of, address6_of_text-text_of}
use Rattle.sipl_masterfile.specs.Tokens.{blank, field, ends_field, field_len, quoted_len, tokens}
use Rattle.sipl_masterfile.specs.Entries.{Begun, begins_blank, prepend_entry, with_field, entries_from, entries_of}
use Rattle.sipl_masterfile.specs.RecordPrint.{IsString, IsRecord, Written, plain, quoted, unquoted, spelled, printed_string, written_data, spaced, record_text, entry_of_record}
use Rattle.sipl_masterfile.proofs.PrintedFields.{OfEachField, each_field, is_mnemonic, number_of-decimal}
use Rattle.sipl_masterfile.proofs.Scanning.{begins-field, begins-quoted}

-- octets that neither end a field nor a quoted one, where an escape may have begun; it has ended
abbrev is_plain : Bool → Octets → Bool
is_plain is_escaped [] = not is_escaped
is_plain is_escaped (c ∷ text) =
    not (c == 10) && (is_escaped || not (ends_field c)) && is_plain (not is_escaped && c == 92) text

record IsStep (is_escaped : Bool) (c : ℕ) (text : Octets) : Type 0 where
  no_line_end : (c == 10) ≡ false
  no_end : (not is_escaped && ends_field c) ≡ false
  more : is_plain (not is_escaped && c == 92) text ≡ true

step_of : (is_escaped line_end ends more : Bool) → (not line_end && (is_escaped || not ends) && more) ≡ true → (line_end ≡ false) × ((not is_escaped && ends) ≡ false) × (more ≡ true)
step_of true false ends true is = (refl, refl, refl)
step_of true false ends false is = absurd cc
step_of true true ends more is = absurd cc
step_of false false false true is = (refl, refl, refl)
step_of false false false false is = absurd cc
step_of false false true more is = absurd cc
step_of false true ends more is = absurd cc

plain_step : (is_escaped : Bool) (c : ℕ) (text : Octets) → is_plain is_escaped (c ∷ text) ≡ true → IsStep is_escaped c text
plain_step is_escaped c text is =
    let parts = step_of is_escaped (c == 10) (ends_field c) (is_plain (not is_escaped && c == 92) text) is in
    record { no_line_end = parts.0; no_end = parts.1; more = parts.2 }

not_escaped : (is_escaped : Bool) → not is_escaped ≡ true → is_escaped ≡ false
not_escaped true is = absurd cc
not_escaped false is = refl

passes : (is_escaped line_end ends more all : Bool) → line_end ≡ false → (not is_escaped && ends) ≡ false → more ≡ all → (not line_end && (is_escaped || not ends) && more) ≡ all
passes true true ends more all line is same = absurd cc
passes true false ends more all line is same = same
passes false true ends more all line is same = absurd cc
passes false false true more all line is same = absurd cc
passes false false false more all line is same = same

-- plain octets before others
is_plain-append : (is_escaped : Bool) (a b : Octets) → is_plain is_escaped a ≡ true → is_plain is_escaped (a ++ b) ≡ is_plain false b
is_plain-append is_escaped [] b is = ap (λ e. is_plain e b) (not_escaped is_escaped is)
is_plain-append is_escaped (c ∷ a) b is =
    let parts = step_of is_escaped (c == 10) (ends_field c) (is_plain (not is_escaped && c == 92) a) is in
    let more = is_plain-append (not is_escaped && c == 92) a b parts.2 in
    passes is_escaped (c == 10) (ends_field c) _ _ parts.0 parts.1 more

plain_both : (a b : Octets) → is_plain false a ≡ true → is_plain false b ≡ true → is_plain false (a ++ b) ≡ true
plain_both a b first second = is_plain-append false a b first ∙ second

-- what may follow a field
abbrev FollowsField : Octets → Type 0
FollowsField [] = Unit {0}
FollowsField (c ∷ text) = c ≡ 32

add_length : (n : ℕ) → 1 + n ≡ suc n
add_length n = omega arith

goes_on : (line_end stop : Bool) (n : ℕ) → line_end ≡ false → stop ≡ false → (if line_end || stop then 0 else n) ≡ n
goes_on true stop n line is = absurd cc
goes_on false true n line is = absurd cc
goes_on false false n line is = refl

quote_goes_on : (line_end stop : Bool) (len : Option ℕ) → line_end ≡ false → stop ≡ false → (if line_end then None else (if stop then Some 0 else len)) ≡ len
quote_goes_on true stop len line is = absurd cc
quote_goes_on false true len line is = absurd cc
quote_goes_on false false len line is = refl

-- a plain field ends where it is over
field_len-plain : (is_escaped : Bool) (text rest : Octets) → is_plain is_escaped text ≡ true → FollowsField rest → field_len is_escaped (text ++ rest) ≡ length text
field_len-plain is_escaped [] [] is follows = refl
field_len-plain is_escaped [] (c ∷ rest) is follows = rw (not_escaped is_escaped is, follows) refl
field_len-plain is_escaped (c ∷ text) rest is follows =
    let s = plain_step is_escaped c text is in
    let more : field_len (not is_escaped && c == 92) (text ++ rest) ≡ length text = field_len-plain (not is_escaped && c == 92) text rest s.more follows in
    goes_on (c == 10) (not is_escaped && ends_field c) (1 + field_len (not is_escaped && c == 92) (text ++ rest)) s.no_line_end s.no_end ∙ ap (λ n. 1 + n) more ∙ add_length (length text)

no_quote : (is_escaped ends quote : Bool) → (not is_escaped && ends) ≡ false → (quote ≡ true → ends ≡ true) → (not is_escaped && quote) ≡ false
no_quote true ends quote is implies = refl
no_quote false ends true is implies = absurd (let on : ends ≡ true = implies refl in cc)
no_quote false ends false is implies = refl

quote_ends : (c : ℕ) → (c == 34) ≡ true → ends_field c ≡ true
quote_ends c is = grind (arith, nat_tests)

-- a quoted field ends where it is over
quoted_len-plain : (is_escaped : Bool) (text rest : Octets) → is_plain is_escaped text ≡ true → quoted_len is_escaped (text ++ 34 ∷ rest) ≡ Some (length text)
quoted_len-plain is_escaped [] rest is = rw (not_escaped is_escaped is) refl
quoted_len-plain is_escaped (c ∷ text) rest is =
    let s = plain_step is_escaped c text is in
    let inside : (not is_escaped && c == 34) ≡ false = no_quote is_escaped (ends_field c) (c == 34) s.no_end (quote_ends c) in
    let more : quoted_len (not is_escaped && c == 92) (text ++ 34 ∷ rest) ≡ Some (length text) = quoted_len-plain (not is_escaped && c == 92) text rest s.more in
    quote_goes_on (c == 10) (not is_escaped && c == 34) (option_map (λ len. 1 + len) (quoted_len (not is_escaped && c == 92) (text ++ 34 ∷ rest))) s.no_line_end inside ∙ ap (option_map (λ len. 1 + len)) more ∙ ap (λ n. Some n) (add_length (length text))

-- a field that is written is one token
abbrev IsWritten : Written → Type 0
IsWritten (plain []) = ⊥
IsWritten (plain (c ∷ text)) = is_plain false (c ∷ text) ≡ true
IsWritten (quoted text) = is_plain false text ≡ true

add_after : (c : ℕ) (text : Octets) → length (c ∷ text) + 1 ≡ suc (length text + 1)
add_after c text = omega arith

after_quote : (text rest : Octets) → rest ≡ drop (length text + 1) (text ++ 34 ∷ rest)
after_quote [] rest = refl
after_quote (c ∷ text) rest = rw add_after (after_quote text rest)

tokens-written : (w : Written) (rest : Octets) → IsWritten w → FollowsField rest → tokens 0 (spelled w ++ rest) ≡ field (unquoted w) ∷ tokens 0 rest
tokens-written (plain []) rest is follows = absurd is
tokens-written (plain (c ∷ text)) rest is follows =
    let s = plain_step false c text is in
    let len : length text ≡ field_len (nat_eq c 92) (text ++ rest) = sym (field_len-plain (c == 92) text rest s.more follows) in
    (begins-field (c ∷ (text ++ rest)) (text ++ rest) (c ∷ text) rest c (length text) refl s.no_end len (sym (rw add_length (take-append_seam (c ∷ text) rest))) (sym (rw add_length (drop-append_seam (c ∷ text) rest)))).spells
tokens-written (quoted text) rest is follows =
    let whole : (text ++ 34 ∷ []) ++ rest ≡ text ++ 34 ∷ rest = append_assoc text (34 ∷ []) rest in
    let len = quoted_len-plain false text rest is in
    let begins = begins-quoted (text ++ 34 ∷ rest) rest (length text) len (omega (arith, length-append text (34 ∷ rest))) (after_quote text rest) in
    ap (λ t. tokens 0 (34 ∷ t)) whole ∙ begins.spells ∙ ap (λ t. field t ∷ tokens 0 rest) (take-append_seam text (34 ∷ rest))

-- the entries of written fields

-- an entry with more fields
abbrev with_fields : Begun → List Octets → Begun
with_fields begun fields = record begun { fields = begun.fields ++ fields }

with_fields-nil : (begun : Begun) → with_fields begun [] ≡ begun
with_fields-nil begun = ap (λ fields. record begun { fields = fields }) (append-nil begun.fields)

with_fields-cons : (begun : Begun) (octets : Octets) (fields : List Octets) → with_fields (with_field begun octets) fields ≡ with_fields begun (octets ∷ fields)
with_fields-cons begun octets fields =
    ap (λ all. record begun { fields = all }) (append_assoc begun.fields (octets ∷ []) fields)

tokens-spaced : (w v : Written) (ws : List Written) → IsWritten w → tokens 0 (spaced (map spelled (w ∷ v ∷ ws))) ≡ field (unquoted w) ∷ blank ∷ tokens 0 (spaced (map spelled (v ∷ ws)))
tokens-spaced w v ws is =
    ap (tokens 0) (append_assoc (spelled w) (32 ∷ []) (spaced (map spelled (v ∷ ws)))) ∙ tokens-written w (32 ∷ spaced (map spelled (v ∷ ws))) is refl

tokens-last : (w : Written) → IsWritten w → tokens 0 (spelled w) ≡ field (unquoted w) ∷ []
tokens-last w is = ap (tokens 0) (sym (append-nil (spelled w))) ∙ tokens-written w [] is tt

entries-spaced : (ws : List Written) (begun : Begun) (line : ℕ) → AllByRecursion IsWritten ws → entries_from begun 0 line (tokens 0 (spaced (map spelled ws))) ≡ prepend_entry (with_fields begun (map unquoted ws)) []
entries-spaced [] begun line is = ap (λ b. prepend_entry b []) (sym (with_fields-nil begun))
entries-spaced (w ∷ []) begun line is = ap (entries_from begun 0 line) (tokens-last w is.0)
entries-spaced (w ∷ v ∷ ws) begun line is =
    ap (entries_from begun 0 line) (tokens-spaced w v ws is.0) ∙ entries-spaced (v ∷ ws) (with_field begun (unquoted w)) line is.1 ∙ ap (λ b. prepend_entry b []) (with_fields-cons begun (unquoted w) (map unquoted (v ∷ ws)))

first_is_field : (w : Written) (ws : List Written) → AllByRecursion IsWritten (w ∷ ws) → begins_blank (tokens 0 (spaced (map spelled (w ∷ ws)))) ≡ false
first_is_field w [] is = ap begins_blank (tokens-last w is.0)
first_is_field w (v ∷ ws) is = ap begins_blank (tokens-spaced w v ws is.0)

entries_of-spaced : (w : Written) (ws : List Written) → AllByRecursion IsWritten (w ∷ ws) → entries_of (spaced (map spelled (w ∷ ws))) ≡ record { line = 1; is_indented = false; content = Ok (map unquoted (w ∷ ws)) } ∷ []
entries_of-spaced w ws is =
    entries-spaced (w ∷ ws) (record { line = 1; is_indented = begins_blank (tokens 0 (spaced (map spelled (w ∷ ws)))); fields = [] }) 1 is ∙ ap (λ b. record { line = 1; is_indented = b; content = Ok (map unquoted (w ∷ ws)) } ∷ []) (first_is_field w ws is)

-- printed octets are plain

digit_plain : (x : ℕ) → x < 10 → is_plain false ((48 + x) ∷ []) ≡ true
digit_plain x small = grind (arith, nat_tests)

digit_after : (x : ℕ) → x < 10 → is_plain true ((48 + x) ∷ []) ≡ true
digit_after x small = grind (arith, nat_tests)

number_plain : (a b c : ℕ) → a < 10 → b < 10 → c < 10 → is_plain false (92 ∷ (48 + a) ∷ (48 + b) ∷ (48 + c) ∷ []) ≡ true
number_plain a b c ha hb hc =
    is_plain-append true ((48 + a) ∷ []) ((48 + b) ∷ (48 + c) ∷ []) (digit_after a ha) ∙ plain_both ((48 + b) ∷ []) ((48 + c) ∷ []) (digit_plain b hb) (digit_plain c hc)

marked_plain : (c : ℕ) → nat_le 33 c ≡ true → is_plain true (c ∷ []) ≡ true
marked_plain c seen = grind (arith, nat_tests)

seen_plain : (c : ℕ) → nat_le 33 c ≡ true → is_special c ≡ false → is_plain false (c ∷ []) ≡ true
seen_plain c seen special = grind (arith, nat_tests)

chosen_plain : (low high special : Bool) (c : ℕ) → c < 256 → nat_le 33 c ≡ low → is_special c ≡ special → is_plain false (if low && high then (if special then 92 ∷ c ∷ [] else c ∷ []) else 92 ∷ (48 + c / 100) ∷ (48 + c / 10 % 10) ∷ (48 + c % 10) ∷ []) ≡ true
chosen_plain true true true c small low is = marked_plain c low
chosen_plain true true false c small low is = seen_plain c low is
chosen_plain true false special c small low is =
    number_plain (c / 100) (c / 10 % 10) (c % 10) (omega arith) (omega arith) (omega arith)
chosen_plain false high special c small low is =
    number_plain (c / 100) (c / 10 % 10) (c % 10) (omega arith) (omega arith) (omega arith)

printed_octet_plain : (c : ℕ) → c < 256 → is_plain false (printed_octet c) ≡ true
printed_octet_plain c small = chosen_plain (nat_le 33 c) (nat_le c 126) (is_special c) c small refl refl

printed_string_plain : (octets : Octets) → AllByRecursion (λ octet. octet < 256) octets → is_plain false (printed_string octets) ≡ true
printed_string_plain [] all = refl
printed_string_plain (c ∷ octets) all =
    plain_both (printed_octet c) (printed_string octets) (printed_octet_plain c all.0) (printed_string_plain octets all.1)

printed_label_plain : (label : Octets) → IsLabel label → is_plain false (printed_label label) ≡ true
printed_label_plain label is =
    plain_both (printed_string label) (codes ".") (printed_string_plain label is.octets) refl

printed_labels_plain : (labels : Labels) → AllByRecursion IsLabel labels → is_plain false (flat_map printed_label labels) ≡ true
printed_labels_plain [] all = refl
printed_labels_plain (label ∷ labels) all =
    plain_both (printed_label label) (flat_map printed_label labels) (printed_label_plain label all.0) (printed_labels_plain labels all.1)

text_of_plain : (labels : Labels) → IsName labels → is_plain false (text_of labels) ≡ true
text_of_plain [] is = refl
text_of_plain (label ∷ labels) is = printed_labels_plain (label ∷ labels) is.each

-- mnemonics, numbers and addresses are plain

letter_plain : (c : ℕ) → (nat_le 65 c && nat_le c 90) ≡ true → is_plain false (c ∷ []) ≡ true
letter_plain c is = grind (arith, nat_tests)

letters_plain : (text : Octets) → list_all (λ c. nat_le 65 c && nat_le c 90) text ≡ true → is_plain false text ≡ true
letters_plain [] all = refl
letters_plain (c ∷ text) all =
    let both = and_parts (nat_le 65 c && nat_le c 90) (list_all (λ k. nat_le 65 k && nat_le k 90) text) all in
    plain_both (c ∷ []) text (letter_plain c both.0) (letters_plain text both.1)

nonempty : (n : ℕ) → nat_le 1 n ≡ true → 0 < n
nonempty n is = grind (arith, nat_tests)

digit_is_plain : (c : ℕ) → is_ascii_digit c ≡ true → is_plain false (c ∷ []) ≡ true
digit_is_plain c is = grind (arith, nat_tests)

digits_plain : (digits : Octets) → all_ascii_digits digits ≡ true → is_plain false digits ≡ true
digits_plain [] all = refl
digits_plain (c ∷ digits) all =
    let both = and_parts (is_ascii_digit c) (all_ascii_digits digits) all in
    plain_both (c ∷ []) digits (digit_is_plain c both.0) (digits_plain digits both.1)

decimal_plain : (n : ℕ) → n < 2 ^ 64 → is_plain false (decimal n) ≡ true
decimal_plain n small =
    digits_plain (decimal n) (digits_decimal (numerals_by_value (λ ds. all_ascii_digits ds ≡ true) tells_all_ascii_digits) n small)

dotted_plain : (a b c d : ℕ) → a < 2 ^ 64 → b < 2 ^ 64 → c < 2 ^ 64 → d < 2 ^ 64 → is_plain false (decimal a ++ 46 ∷ decimal b ++ 46 ∷ decimal c ++ 46 ∷ decimal d) ≡ true
dotted_plain a b c d ha hb hc hd =
    let flat : decimal a ++ 46 ∷ decimal b ++ 46 ∷ decimal c ++ 46 ∷ decimal d ≡ decimal a ++ 46 ∷ (decimal b ++ 46 ∷ (decimal c ++ 46 ∷ decimal d)) = simp append_assoc in
    let dot : (text : Octets) → is_plain false text ≡ true → is_plain false (46 ∷ text) ≡ true = λ text is. is in
    let last : is_plain false (decimal c ++ 46 ∷ decimal d) ≡ true = plain_both (decimal c) (46 ∷ decimal d) (decimal_plain c hc) (dot (decimal d) (decimal_plain d hd)) in
    let others : is_plain false (decimal b ++ 46 ∷ (decimal c ++ 46 ∷ decimal d)) ≡ true = plain_both (decimal b) (46 ∷ (decimal c ++ 46 ∷ decimal d)) (decimal_plain b hb) (dot (decimal c ++ 46 ∷ decimal d) last) in
    rw flat (plain_both (decimal a) (46 ∷ (decimal b ++ 46 ∷ (decimal c ++ 46 ∷ decimal d))) (decimal_plain a ha) (dot (decimal b ++ 46 ∷ (decimal c ++ 46 ∷ decimal d)) others))

text_of_number_plain : (n : ℕ) → n < 2 ^ 32 → is_plain false (text_of_number n) ≡ true
text_of_number_plain n small =
    dotted_plain (n / 16777216) (n / 65536 % 256) (n / 256 % 256) (n % 256) (omega arith) (omega arith) (omega arith) (omega arith)

-- octets that are plain one by one
abbrev AllPlain : Octets → Type 0
AllPlain [] = Unit {0}
AllPlain (c ∷ text) = (is_plain false (c ∷ []) ≡ true) × AllPlain text

plain_all : (text : Octets) → AllPlain text → is_plain false text ≡ true
plain_all [] all = refl
plain_all (c ∷ text) all = plain_both (c ∷ []) text all.0 (plain_all text all.1)

all_drop : (n : ℕ) (text : Octets) → AllPlain text → AllPlain (drop n text)
all_drop zero text all = all
all_drop (suc n) [] all = tt
all_drop (suc n) (c ∷ text) all = all_drop n text all.1

digit_char_plain : (d : ℕ) → d < 16 → is_plain false (digit_char d ∷ []) ≡ true
digit_char_plain d low = grind (arith, nat_tests)

hex_plain : (n : ℕ) → n < 2 ^ 16 → is_plain false (hex n) ≡ true
unfolding hex
hex_plain n small =
    plain_all _ (all_drop (leading_zero_digits n) _ (digit_char_plain (n / 0x1000) (omega arith), (digit_char_plain (n / 0x100 % 16) (omega arith), (digit_char_plain (n / 0x10 % 16) (omega arith), (digit_char_plain (n % 16) (omega arith), tt)))))

abbrev AllSmall : List ℕ → Type 0
AllSmall [] = Unit {0}
AllSmall (g ∷ groups) = (g < 2 ^ 16) × AllSmall groups

more_groups_plain : (groups : List ℕ) → AllSmall groups → is_plain false (flat_map (λ g. codes ":" ++ hex g) groups) ≡ true
more_groups_plain [] all = refl
more_groups_plain (g ∷ groups) all =
    plain_both (58 ∷ hex g) (flat_map (λ h. codes ":" ++ hex h) groups) (hex_plain g all.0) (more_groups_plain groups all.1)

groups_text_plain : (groups : List ℕ) → AllSmall groups → is_plain false (groups_text groups) ≡ true
groups_text_plain [] all = refl
groups_text_plain (g ∷ groups) all =
    plain_both (hex g) (flat_map (λ h. codes ":" ++ hex h) groups) (hex_plain g all.0) (more_groups_plain groups all.1)

text_of_address6_plain : (n : ℕ) → n < 2 ^ 128 → is_plain false (text_of_address6 n) ≡ true
text_of_address6_plain n small = groups_text_plain (groups_of_number n) (omega arith)

-- a field that is read is not empty

written_read : {A : Type 0} (read : Octets → Option A) (text : Octets) (x : A) → read text ≡ Some x → read [] ≡ None → is_plain false text ≡ true → IsWritten (plain text)
written_read read [] x is none all = absurd (let both : None ≡ Some x = sym none ∙ is in cc)
written_read read (c ∷ text) x is none all = all

written_text : (text : Octets) → 0 < length text → is_plain false text ≡ true → IsWritten (plain text)
written_text [] some all = absurd (omega arith)
written_text (c ∷ text) some all = all

text_of_some : (labels : Labels) → 0 < length (text_of labels)
text_of_some [] = omega arith
text_of_some (label ∷ labels) =
    omega (arith, length-append (printed_label label) (flat_map printed_label labels), length-append (printed_string label) (codes "."))

written_name : (labels : Labels) → IsName labels → IsWritten (plain (text_of labels))
written_name labels is = written_text (text_of labels) (text_of_some labels) (text_of_plain labels is)

written_number : (n : ℕ) → n < 65536 → IsWritten (plain (decimal n))
written_number n small =
    written_read (λ text. number_of text 65535) (decimal n) n (number_of-decimal n small) refl (decimal_plain n (omega arith))

written_string : (octets : Octets) → IsString octets → IsWritten (quoted (printed_string octets))
written_string octets is = printed_string_plain octets is.each

written_mnemonic : (text : Octets) → is_mnemonic text ≡ true → IsWritten (plain text)
written_mnemonic text is =
    let all = and_parts (list_all (λ c. nat_le 65 c && nat_le c 90) text && nat_le 1 (length text)) (nat_le (length text) 5) is in
    let some = and_parts (list_all (λ c. nat_le 65 c && nat_le c 90) text) (nat_le 1 (length text)) all.0 in
    written_text text (nonempty (length text) some.1) (letters_plain text some.0)

written_field : OfEachField IsWritten
written_field = record {
  mnemonic = written_mnemonic;
  address4 = λ n small. written_read number_of_text (text_of_number n) n (number_of_text-text_of n small) refl (text_of_number_plain n small);
  address6 = λ n small. written_read address6_of_text (text_of_address6 n) n (address6_of_text-text_of n small) refl (text_of_address6_plain n small);
  name = written_name;
  number = written_number;
  string = written_string;
}

pub entries_of-record_text : (r : Record) → IsRecord r → entries_of (record_text r) ≡ entry_of_record r ∷ []
entries_of-record_text r is =
    entries_of-spaced (plain (text_of r.owner)) (written_data r.value) (written_name r.owner is.owner, each_field IsWritten written_field r.value is.value)
