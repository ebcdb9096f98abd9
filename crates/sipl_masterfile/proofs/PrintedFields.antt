-- The fields of a printed record state it.
use Rattle.std.proofs.Common.{◌≡◌, ℕ, ◌^◌, ◌<◌, ◌≤◌, Bool, true, false, ◌&&◌, List, [], ◌∷◌, ◌++◌, Option, None, Some, Result, Ok, Err, length, map, refl, sym, ap, ◌∙◌, arith, append-nil, append_assoc, nat_eq, nat_le, nat_lt, codes, decimal, if◌then◌else◌}
use Rattle.std.specs.List.{AllByRecursion, list_all}
use Rattle.std.specs.Option.{ok_or}
use Rattle.std.specs.Str.{all_ascii_digits}
use Rattle.std.specs.Str.Parse.{digits_value}
use Rattle.std.proofs.lemmas.Bool.Decides.{nat_tests}
use Rattle.std.proofs.lemmas.Fmt.{decimal_is_IsNumeral, digits_decimal, decimal_nonempty}
use Rattle.std.proofs.lemmas.Str.Parse.{numerals_by_value, tells_all_ascii_digits}
use lib.Pointwise.{pointwise, bytes_decides}
use Rattle.sipl_names.specs.Labels.{Octets, Labels, IsName}
use Rattle.sipl_names.specs.NamePrint.{is_special, text_of}
use Rattle.sipl_names.specs.NameText.{octet, symbols, name_of}
use Rattle.sipl_names.specs.declared.fault.InvalidName.{InvalidName}
use Rattle.sipl_names.proofs.Public.{name_of-text_of, printed_octets_read}
use Rattle.sipl_records.specs.Numbers.{number_of}
use Rattle.sipl_records.specs.Ipv4.{number_of_text, text_of_number}
use Rattle.sipl_records.specs.Ipv6.{address6_of_text, text_of_address6}
use Rattle.sipl_records.specs.declared.data.Data.{Data}
use Rattle.sipl_records.specs.declared.data.Data.TheVariants.{Address4, Address6, Alias, Service, Pointer, Bare}
use Rattle.sipl_records.specs.declared.record.Record.{Record}
use Rattle.sipl_records.proofs.Public.{number_of_text-text_of, address6_of_text-text_of}
use Rattle.sipl_masterfile.specs.Readers.{◌>>=◌, prepend, octets_of_symbols, string_within_limit, string_of, name_in, number_in, address4_in, address6_in}
use Rattle.sipl_masterfile.specs.RecordPrint.{IsString, IsService, IsPointer, IsData, IsRecord, Written, plain, quoted, printed_string, written_data, spelled, unquoted, record_fields}
use Rattle.sipl_masterfile.specs.Rdata.{data_of}
use Rattle.sipl_masterfile.specs.Statements.{is_directive, from_type, directive_or_record, statement_of}
use Rattle.sipl_masterfile.specs.declared.fault.ZoneCause.{ZoneCause}
use Rattle.sipl_masterfile.specs.declared.fault.ZoneCause.TheVariants.{InName, BadNumber, BadAddress}
use Rattle.sipl_masterfile.specs.declared.statement.Statement.TheVariants as statement

-- numbers

pub number_of-decimal : (n : ℕ) → n < 65536 → number_of (decimal n) 65535 ≡ Some n
number_of-decimal n small =
    let value : digits_value 10 (decimal n) ≡ n = (decimal_is_IsNumeral n (omega arith)).1 in
    let all : all_ascii_digits (decimal n) ≡ true = digits_decimal (numerals_by_value (λ ds. all_ascii_digits ds ≡ true) tells_all_ascii_digits) n (omega arith) in
    let some : 0 < length (decimal n) = decimal_nonempty n (omega arith) in
    let enough : nat_le 1 (length (decimal n)) ≡ true = grind (arith, nat_tests) in
    let fits : nat_le n 65535 ≡ true = grind (arith, nat_tests) in
    rw (all, value, enough, fits) refl

number_in-decimal : (n : ℕ) → n < 65536 → number_in (decimal n) ≡ Ok n
number_in-decimal n small = ap (λ number. ok_or number BadNumber) (number_of-decimal n small)

-- names

abbrev as_name : Result Labels InvalidName → Result Labels ZoneCause
as_name (Ok name) = Ok name
as_name (Err fault) = Err (InName fault)

as_name-name_in : (origin : Labels) (field : Octets) → name_in origin field ≡ as_name (name_of field origin)
as_name-name_in origin field = refl

name_in-text_of : (labels origin : Labels) → IsName labels → name_in origin (text_of labels) ≡ Ok labels
name_in-text_of labels origin is =
    as_name-name_in origin (text_of labels) ∙ ap as_name (name_of-text_of labels origin is)

-- strings

octets_of_symbols-octets : (octets : Octets) → octets_of_symbols (map octet octets) ≡ Ok octets
octets_of_symbols-octets [] = refl
octets_of_symbols-octets (c ∷ octets) = ap (prepend c) (octets_of_symbols-octets octets)

within_limit : (octets : Octets) → length octets ≤ 255 → string_within_limit octets ≡ Ok octets
within_limit octets short =
    let test : nat_lt 255 (length octets) ≡ false = grind (arith, nat_tests) in
    rw (test, string_within_limit) refl

string_of-printed : (octets : Octets) → IsString octets → string_of (printed_string octets) ≡ Ok octets
string_of-printed octets is =
    let spelled : symbols 0 (printed_string octets) ≡ map octet octets = ap (symbols 0) (sym (append-nil (printed_string octets))) ∙ printed_octets_read octets [] is.each ∙ append-nil (map octet octets) in
    ap (λ read. octets_of_symbols read >>= string_within_limit) spelled ∙ ap (λ read. read >>= string_within_limit) (octets_of_symbols-octets octets) ∙ within_limit octets is.short

-- no printed field begins the generic form

other_form : {A : Type 0} (read : Octets → Option A) (text : Octets) (x : A) (test : Bool) → read text ≡ Some x → read (codes "\\#") ≡ None → pointwise nat_eq text (codes "\\#") ≡ test → test ≡ false
other_form read text x true is none same =
    let text_is : text ≡ codes "\\#" = (bytes_decides text (codes "\\#")).0 same in
    let both : None ≡ Some x = sym none ∙ ap read (sym text_is) ∙ is in
    absurd cc
other_form read text x false is none same = refl

other_name : (labels : Labels) (test : Bool) → IsName labels → pointwise nat_eq (text_of labels) (codes "\\#") ≡ test → test ≡ false
other_name labels true is same =
    let text_is : text_of labels ≡ codes "\\#" = (bytes_decides (text_of labels) (codes "\\#")).0 same in
    let alone : Ok ((35 ∷ []) ∷ []) ≡ Ok labels = ap (λ text. name_of text []) (sym text_is) ∙ name_of-text_of labels [] is in
    let below : Ok ((35 ∷ []) ∷ (97 ∷ []) ∷ []) ≡ Ok labels = ap (λ text. name_of text ((97 ∷ []) ∷ [])) (sym text_is) ∙ name_of-text_of labels ((97 ∷ []) ∷ []) is in
    absurd cc
other_name labels false is same = refl

plain_name : (labels : Labels) → IsName labels → pointwise nat_eq (text_of labels) (codes "\\#") ≡ false
plain_name labels is = other_name labels _ is refl

plain_number : (n : ℕ) → n < 65536 → pointwise nat_eq (decimal n) (codes "\\#") ≡ false
plain_number n small = other_form (λ text. number_of text 65535) (decimal n) n _ (number_of-decimal n small) refl refl

plain_address4 : (n : ℕ) → n < 2 ^ 32 → pointwise nat_eq (text_of_number n) (codes "\\#") ≡ false
plain_address4 n small = other_form number_of_text (text_of_number n) n _ (number_of_text-text_of n small) refl refl

plain_address6 : (n : ℕ) → n < 2 ^ 128 → pointwise nat_eq (text_of_address6 n) (codes "\\#") ≡ false
plain_address6 n small = other_form address6_of_text (text_of_address6 n) n _ (address6_of_text-text_of n small) refl refl

-- no printed name begins a directive

not_dollar : (printable special : Bool) (c : ℕ) (digits rest : Octets) → is_special c ≡ special → is_directive ((if printable then (if special then 92 ∷ c ∷ [] else c ∷ []) else 92 ∷ digits) ++ rest) ≡ false
not_dollar true true c digits rest is = refl
not_dollar true false c digits rest is = grind (arith, nat_tests)
not_dollar false special c digits rest is = refl

text_of-no_dollar : (labels : Labels) → is_directive (text_of labels) ≡ false
text_of-no_dollar [] = refl
text_of-no_dollar ([] ∷ labels) = refl
text_of-no_dollar ((c ∷ label) ∷ labels) =
    rw (append_assoc, append_assoc) (not_dollar (nat_le 33 c && nat_le c 126) (is_special c) c _ _ refl)

-- the fields of data

-- capital letters, as a mnemonic has: one to five
abbrev pub is_mnemonic : Octets → Bool
is_mnemonic text = list_all (λ c. nat_le 65 c && nat_le c 90) text && nat_le 1 (length text) && nat_le (length text) 5

-- what holds for the field of a mnemonic, an address, a name, a number and a string
pub record OfEachField (P : Written → Type 0) : Type 0 where
  pub mnemonic : (text : Octets) → is_mnemonic text ≡ true → P (plain text)
  pub address4 : (n : ℕ) → n < 2 ^ 32 → P (plain (text_of_number n))
  pub address6 : (n : ℕ) → n < 2 ^ 128 → P (plain (text_of_address6 n))
  pub name : (labels : Labels) → IsName labels → P (plain (text_of labels))
  pub number : (n : ℕ) → n < 65536 → P (plain (decimal n))
  pub string : (octets : Octets) → IsString octets → P (quoted (printed_string octets))

-- holds for each field in which data are written
pub each_field : (P : Written → Type 0) → OfEachField P → (value : Data) → IsData value → AllByRecursion P (written_data value)
each_field P of (Address4 n) is = (of.mnemonic (codes "A") refl, (of.address4 n is, tt))
each_field P of (Address6 n) is = (of.mnemonic (codes "AAAA") refl, (of.address6 n is, tt))
each_field P of (Alias name) is = (of.mnemonic (codes "CNAME") refl, (of.name name is, tt))
each_field P of (Service priority weight port target) is =
    (of.mnemonic (codes "SRV") refl, (of.number priority is.priority_fits, (of.number weight is.weight_fits, (of.number port is.port_fits, (of.name target is.target_is_name, tt)))))
each_field P of (Pointer order preference flags services regexp replacement) is =
    (of.mnemonic (codes "NAPTR") refl, (of.number order is.order_fits, (of.number preference is.preference_fits, (of.string flags is.flags_are_string, (of.string services is.services_are_string, (of.string regexp is.regexp_is_string, (of.name replacement is.replacement_is_name, tt)))))))
each_field P of Bare is = (of.mnemonic (codes "NULL") refl, tt)

pub spelled-all : (P : Octets → Type 0) (fields : List Written) → AllByRecursion (λ w. P (spelled w)) fields → AllByRecursion P (map spelled fields)
spelled-all P [] all = tt
spelled-all P (w ∷ fields) all = (all.0, spelled-all P fields all.1)

-- data are written in at most seven fields
pub few_fields : (value : Data) → length (written_data value) ≤ 7
few_fields Bare = omega arith
few_fields _ = omega arith

-- the data of each kind

data_of-address4 : (n : ℕ) (origin : Labels) → n < 2 ^ 32 → data_of origin (map unquoted (written_data (Address4 n))) ≡ Ok (Address4 n)
data_of-address4 n origin small =
    let address : address4_in (text_of_number n) ≡ Ok n = ap (λ o. ok_or o BadAddress) (number_of_text-text_of n small) in
    rw (plain_address4 n small, address) refl

data_of-address6 : (n : ℕ) (origin : Labels) → n < 2 ^ 128 → data_of origin (map unquoted (written_data (Address6 n))) ≡ Ok (Address6 n)
data_of-address6 n origin small =
    let address : address6_in (text_of_address6 n) ≡ Ok n = ap (λ o. ok_or o BadAddress) (address6_of_text-text_of n small) in
    rw (plain_address6 n small, address) refl

data_of-alias : (name origin : Labels) → IsName name → data_of origin (map unquoted (written_data (Alias name))) ≡ Ok (Alias name)
data_of-alias name origin is = rw (plain_name name is, name_in-text_of name origin is) refl

data_of-service : (priority weight port : ℕ) (target origin : Labels) → IsService priority weight port target → data_of origin (map unquoted (written_data (Service priority weight port target))) ≡ Ok (Service priority weight port target)
data_of-service priority weight port target origin is =
    rw (plain_number priority is.priority_fits, number_in-decimal priority is.priority_fits, number_in-decimal weight is.weight_fits, number_in-decimal port is.port_fits, name_in-text_of target origin is.target_is_name) refl

data_of-pointer : (order preference : ℕ) (flags services regexp : Octets) (replacement origin : Labels) → IsPointer order preference flags services regexp replacement → data_of origin (map unquoted (written_data (Pointer order preference flags services regexp replacement))) ≡ Ok (Pointer order preference flags services regexp replacement)
data_of-pointer order preference flags services regexp replacement origin is =
    rw (plain_number order is.order_fits, number_in-decimal order is.order_fits, number_in-decimal preference is.preference_fits, string_of-printed flags is.flags_are_string, string_of-printed services is.services_are_string, string_of-printed regexp is.regexp_is_string, name_in-text_of replacement origin is.replacement_is_name) refl

data_of-written : (value : Data) (origin : Labels) → IsData value → data_of origin (map unquoted (written_data value)) ≡ Ok value
data_of-written (Address4 n) origin is = data_of-address4 n origin is
data_of-written (Address6 n) origin is = data_of-address6 n origin is
data_of-written (Alias name) origin is = data_of-alias name origin is
data_of-written (Service priority weight port target) origin is =
    data_of-service priority weight port target origin is
data_of-written (Pointer order preference flags services regexp replacement) origin is =
    data_of-pointer order preference flags services regexp replacement origin is
data_of-written Bare origin is = refl

-- neither ttl nor class is printed
from_type-written : (value : Data) → from_type (map unquoted (written_data value)) ≡ Ok (map unquoted (written_data value))
from_type-written Bare = refl
from_type-written _ = refl

states : (field : Octets) (fields : List Octets) (name origin : Labels) (value : Data) → is_directive field ≡ false → name_in origin field ≡ Ok name → from_type fields ≡ Ok fields → data_of origin fields ≡ Ok value → directive_or_record origin (field ∷ fields) ≡ Ok (statement.Record (record { owner = name; value = value }))
states field fields name origin value undirected named typed is = rw (undirected, named, typed, is) refl

pub statement_of-record_fields : (r : Record) (origin : Labels) (owner : Option Labels) → IsRecord r → statement_of false (record_fields r) origin owner ≡ Ok (statement.Record r)
statement_of-record_fields r origin owner is =
    states (text_of r.owner) (map unquoted (written_data r.value)) r.owner origin r.value (text_of-no_dollar r.owner) (name_in-text_of r.owner origin is.owner) (from_type-written r.value) (data_of-written r.value origin is.value)
