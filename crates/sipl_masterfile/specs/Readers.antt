-- Reading the fields of an entry from left to right (RFC 1035, 5.1), up to the first cause.
use Rattle.std.specs.Prelude.{◌≡◌, ℕ, ◌<◌, List, [], ◌∷◌, length, Result, Ok, Err, nat_lt, if◌then◌else◌}
use Rattle.std.specs.Option.{ok_or}
use Rattle.sipl_names.specs.Labels.{Octets, Labels}
use Rattle.sipl_names.specs.NameText.{Symbol, octet, dot, bad_escape, symbols, name_of}
use Rattle.sipl_names.specs.declared.fault.InvalidName.TheVariants.{BadEscape}
use Rattle.sipl_records.specs.Ipv4.{number_of_text}
use Rattle.sipl_records.specs.Ipv6.{address6_of_text}
use Rattle.sipl_records.specs.Numbers.{number_of}
use Rattle.sipl_masterfile.specs.Ttl.{ttl_of}
use Rattle.sipl_masterfile.specs.declared.fault.ZoneCause.{ZoneCause}
use Rattle.sipl_masterfile.specs.declared.fault.ZoneCause.TheVariants.{InName, MissingField, BadNumber, BadAddress, StringTooLong, ExtraField}

-- a step after another, which a cause ends
infixl 10 ◌>>=◌
abbrev pub ◌>>=◌ : {A B : Type 0} → Result A ZoneCause → (A → Result B ZoneCause)
    → Result B ZoneCause
(Ok x) >>= f = f x
(Err cause) >>= f = Err cause

-- what one field states
abbrev pub name_in : Labels → Octets → Result Labels ZoneCause
name_in origin field =
    elim (name_of field origin) [ Ok name ↦ Ok name | Err fault ↦ Err (InName fault) ]

-- an integer of 16 bits, such as a preference or a port
abbrev pub number_in : Octets → Result ℕ ZoneCause
number_in field = ok_or (number_of field 65535) BadNumber

abbrev pub ttl_in : Octets → Result ℕ ZoneCause
ttl_in field = ok_or (ttl_of field) BadNumber

-- RFC 1035, 3.4.1: an IPv4 address
abbrev pub address4_in : Octets → Result ℕ ZoneCause
address4_in field = ok_or (number_of_text field) BadAddress

-- RFC 3596, 2.4: an IPv6 address
abbrev pub address6_in : Octets → Result ℕ ZoneCause
address6_in field = ok_or (address6_of_text field) BadAddress

-- an octet before the others of a string
abbrev pub prepend : ℕ → Result Octets ZoneCause → Result Octets ZoneCause
prepend c (Ok octets) = Ok (c ∷ octets)
prepend c (Err cause) = Err cause

-- RFC 1035, 5.1: the octets that symbols denote in a string, where a dot (46) is an octet
abbrev pub octets_of_symbols : List Symbol → Result Octets ZoneCause
octets_of_symbols [] = Ok []
octets_of_symbols (octet c ∷ rest) = prepend c (octets_of_symbols rest)
octets_of_symbols (dot ∷ rest) = prepend 46 (octets_of_symbols rest)
octets_of_symbols (bad_escape ∷ rest) = Err (InName BadEscape)

-- the text begins with an octet of a string, and the rest follows
pub record BeginsWithOctet (text : Octets) (c : ℕ) (rest : Octets) : Type 0 where
  pub spells : octets_of_symbols (symbols 0 text) ≡ prepend c (octets_of_symbols (symbols 0 rest))
  pub shorter : length rest < length text

-- RFC 1035, 3.3: a character string has at most 255 octets
abbrev pub string_within_limit : Octets → Result Octets ZoneCause
string_within_limit octets = if nat_lt 255 (length octets) then Err StringTooLong else Ok octets

-- the character string of a field; a faulty escape comes before the length
abbrev pub string_of : Octets → Result Octets ZoneCause
string_of field = octets_of_symbols (symbols 0 field) >>= string_within_limit

-- the first field as it is read, and the fields after it
abbrev pub first : {A : Type 0} → (Octets → Result A ZoneCause) → List Octets
    → Result (A × List Octets) ZoneCause
first read [] = Err MissingField
first read (field ∷ fields) = read field >>= (λ value. Ok (value, fields))

-- that no field follows
abbrev pub at_end : List Octets → Result (Unit {0}) ZoneCause
at_end [] = Ok tt
at_end (field ∷ fields) = Err ExtraField

-- the last field as it is read, after which none follows
abbrev pub last : {A : Type 0} → (Octets → Result A ZoneCause) → List Octets → Result A ZoneCause
last read fields = first read fields >>= (λ value. at_end value.1 >>= (λ end. Ok value.0))
