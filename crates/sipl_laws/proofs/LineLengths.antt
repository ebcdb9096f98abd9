-- How long the lines of events are.
use Rattle.std.proofs.Common.{◌≡◌, ℕ, ◌+◌, ◌*◌, ◌/◌, ◌%◌, ◌^◌, ◌<◌, ◌≤◌, Bool, true, false, ◌&&◌, List, [], ◌∷◌, ◌++◌, length, length-append, map, arith, nat_le, codes, decimal}
use Rattle.std.specs.Prelude.{if◌then◌else◌}
use Rattle.std.specs.List.{AllByRecursion, list_all}
use Rattle.std.proofs.lemmas.Bool.{and_parts}
use Rattle.std.proofs.lemmas.Bool.Decides.{nat_tests}
use Rattle.std.proofs.lemmas.List.{length-map}
use Rattle.std.proofs.lemmas.Fmt.{length-decimal-le}
use Rattle.sipl_names.specs.Labels.{Octets, Labels, IsName}
use Rattle.sipl_names.specs.NamePrint.{is_special, printed_octet, text_of}
use Rattle.sipl_names.proofs.Public.{length-text_of}
use Rattle.sipl_records.specs.Addresses.{IsAddress, text_of_address}
use Rattle.sipl_records.specs.declared.address.Address.{Address}
use Rattle.sipl_records.specs.declared.address.Address.TheVariants.{V4, V6}
use Rattle.sipl_records.specs.declared.record.Record.{Record}
use Rattle.sipl_records.proofs.Public.{length-text_of_address}
use Rattle.sipl_masterfile.specs.RecordPrint.{IsRecord, IsString, printed_string, record_text, spaced, spelled, written_data, written_record}
use Rattle.sipl_masterfile.proofs.PrintedFields.{OfEachField, each_field, few_fields, is_mnemonic, spelled-all}
use Rattle.sipl_choice.specs.Transports.{transport_text}
use Rattle.sipl_choice.specs.declared.endpoint.Endpoint.{Endpoint}
use Rattle.sipl_choice.specs.declared.transport.Transport.{Transport}
use Rattle.sipl_choice.specs.declared.transport.Transport.TheVariants.{Udp, Tcp, Tls, Sctp}
use Rattle.sipl_lines.specs.ReplyText.{number_field, word_field}
use Rattle.sipl_lines.specs.CommandText.{endpoint_text}
use Rattle.sipl_laws.specs.Events.{IsEndpoint}

pub length-number : (n : ℕ) → n < 2 ^ 64 → length (decimal n) ≤ 20
length-number n small = length-decimal-le 20 n (omega arith) (omega (arith, small)) small

-- records

length-printed : (c : ℕ) → length (printed_octet c) ≤ 4
length-printed c = by (nat_le 33 c) (nat_le c 126) (is_special c)
  where
    by : (seen short special : Bool) → length (if seen && short then (if special then codes "\\" ++ c ∷ [] else c ∷ []) else codes "\\" ++ (48 + c / 100) ∷ (48 + c / 10 % 10) ∷ (48 + c % 10) ∷ []) ≤ 4
    by true true true = omega arith
    by true true false = omega arith
    by true false special = omega arith
    by false short special = omega arith

length-string : (octets : Octets) → length (printed_string octets) ≤ 4 * length octets
length-string [] = omega arith
length-string (c ∷ octets) = omega (arith, length-append (printed_octet c) (printed_string octets), length-printed c, length-string octets)

abbrev AreShort : List Octets → Type 0
AreShort fields = AllByRecursion (λ field. length field ≤ 1022) fields

length-spaced : (fields : List Octets) → AreShort fields → length (spaced fields) ≤ 1023 * length fields
length-spaced [] all = omega arith
length-spaced (field ∷ []) all = let first = all.0 in omega (arith, first)
length-spaced (field ∷ next ∷ fields) all =
    let first = all.0 in
    omega (arith, first, length-append (field ++ codes " ") (spaced (next ∷ fields)), length-append field (codes " "), length-spaced (next ∷ fields) all.1)

short-number : (n : ℕ) → n < 65536 → length (decimal n) ≤ 1022
short-number n small = omega (arith, length-number n (omega arith))

short-name : (labels : Labels) → IsName labels → length (text_of labels) ≤ 1022
short-name labels is = omega (arith, length-text_of labels is)

short-address : (address : Address) → IsAddress address → length (text_of_address address) ≤ 1022
short-address address is = omega (arith, length-text_of_address address is)

short-string : (octets : Octets) → IsString octets → length (codes "\"" ++ printed_string octets ++ codes "\"") ≤ 1022
short-string octets is =
    let most = is.short in
    omega (arith, most, length-string octets, length-append (codes "\"" ++ printed_string octets) (codes "\""), length-append (codes "\"") (printed_string octets))

short-mnemonic : (text : Octets) → is_mnemonic text ≡ true → length text ≤ 1022
short-mnemonic text is =
    let both = and_parts (list_all (λ c. nat_le 65 c && nat_le c 90) text && nat_le 1 (length text)) (nat_le (length text) 5) is in
    few (length text) both.1
  where
    few : (n : ℕ) → nat_le n 5 ≡ true → n ≤ 1022
    few n is = grind (arith, nat_tests)

short-field : OfEachField (λ w. length (spelled w) ≤ 1022)
short-field = record {
  mnemonic = short-mnemonic;
  address4 = λ n small. short-address (V4 n) small;
  address6 = λ n small. short-address (V6 n) small;
  name = short-name;
  number = short-number;
  string = short-string;
}

-- the text of a record has at most 8,184 octets
pub length-record : (r : Record) → IsRecord r → length (record_text r) ≤ 8184
length-record r is =
    let short = spelled-all (λ field. length field ≤ 1022) (written_data r.value) (each_field (λ w. length (spelled w) ≤ 1022) short-field r.value is.value) in
    omega (
      arith,
      length-map (written_data r.value) spelled,
      few_fields r.value,
      length-spaced (map spelled (written_record r)) (short-name r.owner is.owner, short),
    )

-- endpoints

length-transport : (transport : Transport) → length (transport_text transport) ≤ 4
length-transport Udp = omega arith
length-transport Tcp = omega arith
length-transport Tls = omega arith
length-transport Sctp = omega arith

pub length-endpoint : (endpoint : Endpoint) → IsEndpoint endpoint → length (endpoint_text endpoint) ≤ 65
length-endpoint endpoint is =
    let port = is.port in
    omega (
      arith,
      length-append (transport_text endpoint.transport ++ word_field (text_of_address endpoint.address)) (number_field endpoint.port),
      length-append (transport_text endpoint.transport) (word_field (text_of_address endpoint.address)),
      length-transport endpoint.transport,
      length-text_of_address endpoint.address is.address,
      length-number endpoint.port (omega (arith, port)),
    )
