-- The octets of printed numbers, names, addresses, questions and records.
use Rattle.std.proofs.Common.{◌≡◌, ℕ, ◌+◌, ◌/◌, ◌%◌, ◌^◌, ◌<◌, ◌≤◌, Bool, true, false, ◌&&◌, List, [], ◌∷◌, ◌++◌, map, Option, None, Some, length, refl, sym, ap, ◌∙◌, arith, nat_le, nat_lt, cond, codes, decimal}
use Rattle.std.specs.Char.{digit_char, is_ascii_digit}
use Rattle.std.specs.List.{AllByRecursion, flat_map, list_all}
use Rattle.std.specs.Net.Text.{groups_text, hex, leading_zero_digits}
use Rattle.std.specs.Str.{all_ascii_digits}
use Rattle.std.specs.Str.Parse.{digits_value}
use Rattle.std.proofs.lemmas.Bool.{and_parts}
use Rattle.std.proofs.lemmas.Bool.Decides.{nat_tests}
use Rattle.std.proofs.lemmas.Fmt.{decimal_is_IsNumeral, digits_decimal}
use Rattle.std.proofs.lemmas.Str.Parse.{numerals_by_value, tells_all_ascii_digits}
use Rattle.sipl_names.specs.Labels.{Octets, Labels}
use Rattle.sipl_names.specs.NamePrint.{is_special, printed_label, printed_octet, text_of}
use Rattle.sipl_records.specs.Addresses.{IsAddress, text_of_address}
use Rattle.sipl_records.specs.declared.address.Address.{Address}
use Rattle.sipl_records.specs.declared.address.Address.TheVariants.{V4, V6}
use Rattle.sipl_records.specs.declared.data.Data.{Data}
use Rattle.sipl_records.specs.declared.record.Record.{Record}
use Rattle.sipl_records.specs.Ipv6.{groups_of_number}
use Rattle.sipl_masterfile.specs.RecordPrint.{IsData, IsRecord, printed_string, record_text, spaced, spelled, written_data, written_record}
use Rattle.sipl_masterfile.proofs.PrintedFields.{OfEachField, each_field, is_mnemonic, spelled-all}
use Rattle.sipl_choice.specs.Transports.{transport_text}
use Rattle.sipl_choice.specs.declared.transport.Transport.{Transport}
use Rattle.sipl_choice.specs.declared.transport.Transport.TheVariants.{Udp, Tcp, Tls, Sctp}
use Rattle.sipl_uri.specs.QuestionText.{IsAskable, IsHostTarget, host_text, port_text, question_text, scheme_text, transport_param}
use Rattle.sipl_uri.specs.declared.question.Question.{Question}
use Rattle.sipl_uri.specs.declared.question.Target.{Target}
use Rattle.sipl_uri.specs.declared.question.Target.TheVariants.{Numeric, Domain}
use Rattle.std.specs.Prelude.{IfSome, if◌then◌else◌}
use Rattle.sipl_laws.proofs.Cuts.{From, from-append, from-drop, from-flat_map, from-lower, from-test}

-- numbers

from-digits : (text : Octets) → all_ascii_digits text ≡ true → From 48 text
from-digits [] all = tt
from-digits (c ∷ text) all =
    let both = and_parts (is_ascii_digit c) (all_ascii_digits text) all in
    let least : 48 ≤ c = let is = both.0 in grind (arith, nat_tests) in
    (least, from-digits text both.1)

pub from-decimal : (n : ℕ) → n < 2 ^ 64 → From 48 (decimal n)
from-decimal n small =
    from-digits (decimal n) (digits_decimal (numerals_by_value (λ ds. all_ascii_digits ds ≡ true) tells_all_ascii_digits) n small)

pub same-decimal : (m n : ℕ) → m < 2 ^ 64 → n < 2 ^ 64 → decimal m ≡ decimal n → m ≡ n
same-decimal m n small few is =
    sym ((decimal_is_IsNumeral m small).1) ∙ ap (digits_value 10) is ∙ (decimal_is_IsNumeral n few).1

seen-decimal : (low n : ℕ) → low ≤ 48 → n < 2 ^ 64 → From low (decimal n)
seen-decimal low n below small = from-lower low 48 (decimal n) below (from-decimal n small)

-- names

from-printed : (low c : ℕ) → low ≤ 33 → From low (printed_octet c)
from-printed low c below = by (nat_le 33 c) (nat_le c 126) (is_special c) refl
  where
    at_least : nat_le 33 c ≡ true → low ≤ c
    at_least is = grind (arith, nat_tests)

    by : (seen short special : Bool) → nat_le 33 c ≡ seen → From low (if seen && short then (if special then codes "\\" ++ c ∷ [] else c ∷ []) else codes "\\" ++ (48 + c / 100) ∷ (48 + c / 10 % 10) ∷ (48 + c % 10) ∷ [])
    by true true true is = (omega arith, (at_least is, tt))
    by true true false is = (at_least is, tt)
    by true false special is = (omega arith, (omega arith, (omega arith, (omega arith, tt))))
    by false short special is = (omega arith, (omega arith, (omega arith, (omega arith, tt))))

pub from-text_of : (labels : Labels) → From 33 (text_of labels)
from-text_of [] = (omega arith, tt)
from-text_of (label ∷ labels) =
    from-flat_map 33 printed_label (λ l. from-append 33 (flat_map printed_octet l) (codes ".") (from-flat_map 33 printed_octet (λ c. from-printed 33 c (omega arith)) l) (omega arith, tt)) (label ∷ labels)

-- addresses

from-hex : (n : ℕ) → From 48 (hex n)
unfolding hex
from-hex n = from-drop 48 (leading_zero_digits n) _ (digit (n / 0x1000), (digit (n / 0x100 % 16), (digit (n / 0x10 % 16), (digit (n % 16), tt))))
  where
    digit : (d : ℕ) → 48 ≤ digit_char d
    digit d = by (nat_lt d 10)
      where
        by : (few : Bool) → 48 ≤ cond few (48 + d) (87 + d)
        by true = omega arith
        by false = omega arith

from-groups : (groups : List ℕ) → From 33 (groups_text groups)
from-groups [] = tt
from-groups (group ∷ groups) =
    from-append 33 (hex group) (flat_map (λ t. codes ":" ++ hex t) groups) (seen group)
    (from-flat_map 33 (λ t. codes ":" ++ hex t) (λ t. (omega arith, seen t)) groups)
  where
    seen : (n : ℕ) → From 33 (hex n)
    seen n = from-lower 33 48 (hex n) (omega arith) (from-hex n)

from-dotted : (a b c d : Octets) → From 33 a → From 33 b → From 33 c → From 33 d → From 33 (a ++ 46 ∷ b ++ 46 ∷ c ++ 46 ∷ d)
from-dotted a b c d first second third last =
    from-append 33 (a ++ 46 ∷ b ++ 46 ∷ c) (46 ∷ d)
    (from-append 33 (a ++ 46 ∷ b) (46 ∷ c) (from-append 33 a (46 ∷ b) first (omega arith, second)) (omega arith, third))
    (omega arith, last)

from-number4 : (n : ℕ) → n < 2 ^ 32 → From 33 (text_of_address (V4 n))
from-number4 n small =
    from-dotted (decimal (n / 16777216)) (decimal (n / 65536 % 256)) (decimal (n / 256 % 256)) (decimal (n % 256))
    (seen-decimal 33 (n / 16777216) (omega arith) (omega arith))
    (seen-decimal 33 (n / 65536 % 256) (omega arith) (omega arith))
    (seen-decimal 33 (n / 256 % 256) (omega arith) (omega arith))
    (seen-decimal 33 (n % 256) (omega arith) (omega arith))

pub from-address : (address : Address) → IsAddress address → From 33 (text_of_address address)
from-address (V4 n) is = from-number4 n is
from-address (V6 n) is = from-groups (groups_of_number n)

pub from-transport : (transport : Transport) → From 33 (transport_text transport)
from-transport Udp = from-test 33 (codes "udp") refl
from-transport Tcp = from-test 33 (codes "tcp") refl
from-transport Tls = from-test 33 (codes "tls") refl
from-transport Sctp = from-test 33 (codes "sctp") refl

-- questions

from-scheme : (secure : Bool) → From 33 (scheme_text secure)
from-scheme false = from-test 33 (codes "sip:") refl
from-scheme true = from-test 33 (codes "sips:") refl

from-host : (target : Target) → IsHostTarget target → From 33 (host_text target)
from-host (Numeric (V4 n)) is = from-address (V4 n) is
from-host (Numeric (V6 n)) is =
    (omega arith, from-append 33 (text_of_address (V6 n)) (codes "]") (from-address (V6 n) is) (omega arith, tt))
from-host (Domain labels) is = from-text_of labels

from-port : (port : Option ℕ) → IfSome port (λ n. (1 ≤ n) × (n ≤ 65535)) → From 33 (port_text port)
from-port None is = tt
from-port (Some n) is = let most = is.1 in (omega arith, seen-decimal 33 n (omega arith) (omega (arith, most)))

from-param : (transport : Option Transport) → From 33 (transport_param transport)
from-param None = tt
from-param (Some transport) =
    from-append 33 (codes ";transport=") (transport_text transport) (from-test 33 (codes ";transport=") refl) (from-transport transport)

pub from-question : (question : Question) → IsAskable question → From 33 (question_text question)
from-question question is =
    from-append 33 _ (transport_param question.transport)
    (from-append 33 _ (port_text question.port)
    (from-append 33 (scheme_text question.secure) (host_text question.target) (from-scheme question.secure) (from-host question.target is.target))
    (from-port question.port is.port))
    (from-param question.transport)

-- records

from-spaced : (fields : List Octets) → AllByRecursion (From 32) fields → From 32 (spaced fields)
from-spaced [] all = tt
from-spaced (field ∷ []) all = all.0
from-spaced (field ∷ next ∷ fields) all =
    from-append 32 (field ++ codes " ") (spaced (next ∷ fields)) (from-append 32 field (codes " ") all.0 (omega arith, tt)) (from-spaced (next ∷ fields) all.1)

name-field : (labels : Labels) → From 32 (text_of labels)
name-field labels = from-lower 32 33 (text_of labels) (omega arith) (from-text_of labels)

number-field : (n : ℕ) → n < 65536 → From 32 (decimal n)
number-field n small = seen-decimal 32 n (omega arith) (omega arith)

address-field : (address : Address) → IsAddress address → From 32 (text_of_address address)
address-field address is = from-lower 32 33 (text_of_address address) (omega arith) (from-address address is)

string-field : (octets : Octets) → From 32 (codes "\"" ++ printed_string octets ++ codes "\"")
string-field octets =
    (omega arith, from-append 32 (printed_string octets) (codes "\"") (from-flat_map 32 printed_octet (λ c. from-printed 32 c (omega arith)) octets) (omega arith, tt))

mnemonic-field : (text : Octets) → is_mnemonic text ≡ true → From 32 text
mnemonic-field text is =
    let all = and_parts (list_all (λ c. nat_le 65 c && nat_le c 90) text && nat_le 1 (length text)) (nat_le (length text) 5) is in
    let letters = and_parts (list_all (λ c. nat_le 65 c && nat_le c 90) text) (nat_le 1 (length text)) all.0 in
    from-letters text letters.0
  where
    from-letters : (text : Octets) → list_all (λ c. nat_le 65 c && nat_le c 90) text ≡ true → From 32 text
    from-letters [] all = tt
    from-letters (c ∷ text) all =
        let both = and_parts (nat_le 65 c && nat_le c 90) (list_all (λ k. nat_le 65 k && nat_le k 90) text) all in
        let least : 32 ≤ c = let is = both.0 in grind (arith, nat_tests) in
        (least, from-letters text both.1)

data-field : OfEachField (λ w. From 32 (spelled w))
data-field = record {
  mnemonic = mnemonic-field;
  address4 = λ n small. address-field (V4 n) small;
  address6 = λ n small. address-field (V6 n) small;
  name = λ labels is. name-field labels;
  number = number-field;
  string = λ octets is. string-field octets;
}

data-fields : (value : Data) → IsData value → AllByRecursion (From 32) (map spelled (written_data value))
data-fields value is =
    spelled-all (From 32) (written_data value) (each_field (λ w. From 32 (spelled w)) data-field value is)

pub from-record : (r : Record) → IsRecord r → From 32 (record_text r)
from-record r is = from-spaced (map spelled (written_record r)) (name-field r.owner, data-fields r.value is.value)
