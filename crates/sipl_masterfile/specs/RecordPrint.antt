-- How a record is printed as a line of a master file (RFC 1035, 5.1), without the line's end.
use Rattle.std.specs.Prelude.{ℕ, ◌^◌, ◌<◌, ◌≤◌, false, Ok, List, [], ◌∷◌, ◌++◌, length, map, codes, decimal}
use Rattle.std.specs.List.{AllByRecursion, flat_map}
use Rattle.sipl_names.specs.Labels.{Octets, Labels, IsName}
use Rattle.sipl_names.specs.NamePrint.{printed_octet, text_of}
use Rattle.sipl_records.specs.Ipv4.{text_of_number}
use Rattle.sipl_records.specs.Ipv6.{text_of_address6}
use Rattle.sipl_records.specs.declared.data.Data.{Data}
use Rattle.sipl_records.specs.declared.data.Data.TheVariants.{Address4, Address6, Alias, Service, Pointer, Bare}
use Rattle.sipl_records.specs.declared.record.Record.{Record}
use Rattle.sipl_masterfile.specs.Entries.{Entry}

-- RFC 1035, 3.3: a character string has at most 255 octets
pub record IsString (octets : Octets) : Type 0 where
  pub short : length octets ≤ 255
  pub each : AllByRecursion (λ octet. octet < 256) octets

-- RFC 2782: the data of `SRV` are three integers of 16 bits and a name
pub record IsService (priority weight port : ℕ) (target : Labels) : Type 0 where
  pub priority_fits : priority < 65536
  pub weight_fits : weight < 65536
  pub port_fits : port < 65536
  pub target_is_name : IsName target

-- RFC 3403, 4.1: the data of `NAPTR` are two integers of 16 bits, three strings and a name
pub record IsPointer (order preference : ℕ) (flags services regexp : Octets) (replacement : Labels)
    : Type 0 where
  pub order_fits : order < 65536
  pub preference_fits : preference < 65536
  pub flags_are_string : IsString flags
  pub services_are_string : IsString services
  pub regexp_is_string : IsString regexp
  pub replacement_is_name : IsName replacement

-- the names, numbers and strings of the data are within their limits
abbrev pub IsData : Data → Type 0
IsData (Address4 n) = n < 2 ^ 32
IsData (Address6 n) = n < 2 ^ 128
IsData (Alias name) = IsName name
IsData (Service priority weight port target) = IsService priority weight port target
IsData (Pointer order preference flags services regexp replacement) =
    IsPointer order preference flags services regexp replacement
IsData Bare = Unit {0}

-- the owner is a name, and the data are within their limits
pub record IsRecord (r : Record) : Type 0 where
  pub owner : IsName r.owner
  pub value : IsData r.value

-- a field as it is written: as it is, or in quotes
pub data Written : Type 0 where
  plain : Octets → Written
  quoted : Octets → Written

-- the octets of a field without its quotes
abbrev pub unquoted : Written → Octets
unquoted (plain field) = field
unquoted (quoted field) = field

-- the octets of a field with its quotes
abbrev pub spelled : Written → Octets
spelled (plain field) = field
spelled (quoted field) = codes "\"" ++ field ++ codes "\""

-- a character string, with the escapes of names
abbrev pub printed_string : Octets → Octets
printed_string octets = flat_map printed_octet octets

-- type and data; data of which nothing is kept are of type `NULL` (RFC 1035, 3.3.10)
abbrev pub written_data : Data → List Written
written_data (Address4 n) = plain (codes "A") ∷ plain (text_of_number n) ∷ []
written_data (Address6 n) = plain (codes "AAAA") ∷ plain (text_of_address6 n) ∷ []
written_data (Alias name) = plain (codes "CNAME") ∷ plain (text_of name) ∷ []
written_data (Service priority weight port target) =
    plain (codes "SRV") ∷ plain (decimal priority) ∷ plain (decimal weight)
    ∷ plain (decimal port) ∷ plain (text_of target) ∷ []
written_data (Pointer order preference flags services regexp replacement) =
    plain (codes "NAPTR") ∷ plain (decimal order) ∷ plain (decimal preference)
    ∷ quoted (printed_string flags) ∷ quoted (printed_string services)
    ∷ quoted (printed_string regexp) ∷ plain (text_of replacement) ∷ []
written_data Bare = plain (codes "NULL") ∷ []

-- the fields of a record: its whole owner, its type and its data
abbrev pub written_record : Record → List Written
written_record r = plain (text_of r.owner) ∷ written_data r.value

-- the fields without their quotes
abbrev pub record_fields : Record → List Octets
record_fields r = map unquoted (written_record r)

-- fields with a space between them
abbrev pub spaced : List Octets → Octets
spaced [] = []
spaced (field ∷ []) = field
spaced (field ∷ next ∷ fields) = field ++ codes " " ++ spaced (next ∷ fields)

-- the line of a record
abbrev pub record_text : Record → Octets
record_text r = spaced (map spelled (written_record r))

-- a field after a space
abbrev pub spaced_field : Octets → Octets
spaced_field field = 32 ∷ field

-- the type and the data of a record, each field after a space
abbrev pub data_text : Data → Octets
data_text value = flat_map (λ field. spaced_field (spelled field)) (written_data value)

-- a character string in quotes, after a space
abbrev pub string_field : Octets → Octets
string_field octets = spaced_field (spelled (quoted (printed_string octets)))

-- the entry of a printed record
abbrev pub entry_of_record : Record → Entry
entry_of_record r = record { line = 1; is_indented = false; content = Ok (record_fields r) }
