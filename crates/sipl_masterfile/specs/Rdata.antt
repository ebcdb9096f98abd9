-- The type of a record and its data (RFC 1035, 5.1).
use Rattle.std.specs.Prelude.{ℕ, Bool, false, ◌||◌, ◌&&◌, List, [], ◌∷◌, None, Some, Option, Result, Ok, Err, find, codes, nat_eq, if◌then◌else◌, ◌==◌}
use Rattle.std.specs.Char.{is_ascii_alphanumeric}
use Rattle.std.specs.List.{list_all, list_any}
use Rattle.std.specs.Str.{str_eq_ignore_ascii_case}
use lib.Pointwise.{pointwise}
use Rattle.sipl_names.specs.Labels.{Octets, Labels}
use Rattle.sipl_records.specs.Kinds.{text_of_kind}
use Rattle.sipl_names.specs.Hostnames.{begins_with_letter}
use Rattle.sipl_records.specs.declared.data.Data.{Data}
use Rattle.sipl_records.specs.declared.data.Data.TheVariants as values
use Rattle.sipl_records.specs.declared.kind.Kind.{Kind}
use Rattle.sipl_records.specs.declared.kind.Kind.TheVariants.{Address4, Address6, Alias, Service, Pointer, Exists}
use Rattle.sipl_masterfile.specs.Readers.{◌>>=◌, first, last, name_in, number_in, address4_in, address6_in, string_of}
use Rattle.sipl_masterfile.specs.declared.fault.ZoneCause.{ZoneCause}
use Rattle.sipl_masterfile.specs.declared.fault.ZoneCause.TheVariants.{MissingField, GenericForm}

-- RFC 1035, 3.4.1: the data of `A`
abbrev pub address4_data : List Octets → Result Data ZoneCause
address4_data fields = do
  address ← last address4_in fields
  Ok (values.Address4 address)

-- RFC 3596, 2.2: the data of `AAAA`
abbrev pub address6_data : List Octets → Result Data ZoneCause
address6_data fields = do
  address ← last address6_in fields
  Ok (values.Address6 address)

-- RFC 1035, 3.3.1: the data of `CNAME`
abbrev pub alias_data : Labels → List Octets → Result Data ZoneCause
alias_data origin fields = do
  name ← last (name_in origin) fields
  Ok (values.Alias name)

-- RFC 2782: the data of `SRV`
abbrev pub service_data : Labels → List Octets → Result Data ZoneCause
service_data origin fields = do
  priority ← first number_in fields
  weight ← first number_in priority.1
  port ← first number_in weight.1
  target ← last (name_in origin) port.1
  Ok (values.Service priority.0 weight.0 port.0 target)

-- RFC 3403, 4.1: the data of `NAPTR`
abbrev pub pointer_data : Labels → List Octets → Result Data ZoneCause
pointer_data origin fields = do
  order ← first number_in fields
  preference ← first number_in order.1
  flags ← first string_of preference.1
  services ← first string_of flags.1
  regexp ← first string_of services.1
  replacement ← last (name_in origin) regexp.1
  Ok (values.Pointer order.0 preference.0 flags.0 services.0 regexp.0 replacement)

-- the data of a kind; those of existence keep nothing
abbrev pub data_of_kind : Kind → Labels → List Octets → Result Data ZoneCause
data_of_kind Address4 origin fields = address4_data fields
data_of_kind Address6 origin fields = address6_data fields
data_of_kind Alias origin fields = alias_data origin fields
data_of_kind Service origin fields = service_data origin fields
data_of_kind Pointer origin fields = pointer_data origin fields
data_of_kind Exists origin fields = Ok values.Bare

-- the kind whose mnemonic is this type, in either case
abbrev pub kind_of_type : Octets → Option Kind
kind_of_type type =
    find (λ kind. str_eq_ignore_ascii_case type (text_of_kind kind))
    (Address4 ∷ Address6 ∷ Alias ∷ Service ∷ Pointer ∷ [])

-- RFC 3597, 5: whether the type is that of a kind by its number
abbrev pub is_numbered_kind : Octets → Bool
is_numbered_kind type =
    list_any (str_eq_ignore_ascii_case type)
    (codes "TYPE1" ∷ codes "TYPE5" ∷ codes "TYPE28" ∷ codes "TYPE33" ∷ codes "TYPE35" ∷ [])

-- RFC 3597, 5: whether the data are of the generic form, which begins with `\#`
abbrev pub are_generic : List Octets → Bool
are_generic [] = false
are_generic (field ∷ fields) = pointwise nat_eq field (codes "\\#")

-- RFC 1035, 5.1: a type is a letter, and then letters, digits and hyphens
abbrev pub is_type_octet : ℕ → Bool
is_type_octet c = is_ascii_alphanumeric c || c == 45

abbrev pub is_type : Octets → Bool
is_type field = begins_with_letter field && list_all is_type_octet field

-- the data of a type: those of a kind, not in the generic form, or data of which nothing is kept
abbrev pub data_of_type : Octets → Labels → List Octets → Result Data ZoneCause
data_of_type type origin fields = elim (kind_of_type type) [
  | Some kind ↦ if are_generic fields then Err GenericForm else data_of_kind kind origin fields
  | None ↦ if is_numbered_kind type then Err GenericForm else Ok values.Bare
]

-- the data of the fields from the type on
abbrev pub data_of : Labels → List Octets → Result Data ZoneCause
data_of origin [] = Err MissingField
data_of origin (type ∷ fields) =
    if is_type type then data_of_type type origin fields else Err MissingField
