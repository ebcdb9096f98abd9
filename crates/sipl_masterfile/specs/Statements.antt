-- What an entry of a master file states (RFC 1035, 5.1): a record, a new origin, or a ttl.
use Rattle.std.specs.Prelude.{Bool, true, false, ◌||◌, ◌&&◌, List, [], ◌∷◌, length, take, drop, Option, None, Some, Result, Ok, Err, codes, nat_lt, if◌then◌else◌, ◌==◌}
use Rattle.std.specs.Char.{is_ascii_digit}
use Rattle.std.specs.List.{list_all, list_any}
use Rattle.std.specs.Str.{str_eq_ignore_ascii_case}
use Rattle.sipl_names.specs.Labels.{Octets, Labels}
use Rattle.sipl_masterfile.specs.Readers.{◌>>=◌, last, name_in, ttl_in}
use Rattle.sipl_masterfile.specs.Rdata.{data_of}
use Rattle.sipl_masterfile.specs.declared.fault.ZoneCause.{ZoneCause}
use Rattle.sipl_masterfile.specs.declared.fault.ZoneCause.TheVariants.{MissingField, ClassNotIn, Include, Generate, NoOwner}
use Rattle.sipl_masterfile.specs.declared.statement.Statement.{Statement}
use Rattle.sipl_masterfile.specs.declared.statement.Statement.TheVariants.{Record, Origin, Ttl}

-- whether a field begins with a digit, as a ttl does
abbrev pub begins_with_digit : Octets → Bool
begins_with_digit [] = false
begins_with_digit (c ∷ field) = is_ascii_digit c

-- the fields after a ttl, if one is first
abbrev pub after_ttl : List Octets → Result (List Octets) ZoneCause
after_ttl [] = Ok []
after_ttl (field ∷ fields) =
    if begins_with_digit field then ttl_in field >>= (λ ttl. Ok fields) else Ok (field ∷ fields)

-- RFC 3597, 5: a class by its number
abbrev pub is_numbered_class : Octets → Bool
is_numbered_class field =
    nat_lt 5 (length field) && str_eq_ignore_ascii_case (take 5 field) (codes "CLASS")
    && list_all is_ascii_digit (drop 5 field)

-- RFC 1035, 3.2.4: the classes other than `IN`
abbrev pub is_other_class : Octets → Bool
is_other_class field =
    list_any (str_eq_ignore_ascii_case field) (codes "CH" ∷ codes "HS" ∷ codes "CS" ∷ [])
    || is_numbered_class field

-- the fields after a class, if one is first, which is `IN`
abbrev pub after_class : List Octets → Result (List Octets) ZoneCause
after_class [] = Ok []
after_class (field ∷ fields) =
    if str_eq_ignore_ascii_case field (codes "IN") then Ok fields
    else (if is_other_class field then Err ClassNotIn else Ok (field ∷ fields))

-- whether a ttl is first
abbrev pub ttl_is_first : List Octets → Bool
ttl_is_first [] = false
ttl_is_first (field ∷ fields) = begins_with_digit field

-- the fields from the type on: after [ttl] [class] in either order
abbrev pub from_type : List Octets → Result (List Octets) ZoneCause
from_type fields =
    if ttl_is_first fields then after_ttl fields >>= after_class
    else after_class fields >>= after_ttl

-- the record of an owner: [ttl] [class] type rdata
abbrev pub record_of_owner : Labels → Labels → List Octets → Result Statement ZoneCause
record_of_owner owner origin fields = do
  typed ← from_type fields
  value ← data_of origin typed
  Ok (Record (record { owner = owner; value = value }))

-- RFC 1035, 5.1: $ORIGIN name
abbrev pub origin_directive : Labels → List Octets → Result Statement ZoneCause
origin_directive origin fields = do
  name ← last (name_in origin) fields
  Ok (Origin name)

-- RFC 2308, 4: $TTL ttl
abbrev pub ttl_directive : List Octets → Result Statement ZoneCause
ttl_directive fields = do
  ttl ← last ttl_in fields
  Ok Ttl

-- a directive, whose word is read without case
abbrev pub directive_of : Octets → Labels → List Octets → Result Statement ZoneCause
directive_of word origin fields =
    if str_eq_ignore_ascii_case word (codes "$ORIGIN") then origin_directive origin fields
    else (if str_eq_ignore_ascii_case word (codes "$TTL") then ttl_directive fields
    else (if str_eq_ignore_ascii_case word (codes "$INCLUDE") then Err Include
    else (if str_eq_ignore_ascii_case word (codes "$GENERATE") then Err Generate
    else Err MissingField)))

-- whether a field begins with the `$` of a directive
abbrev pub is_directive : Octets → Bool
is_directive [] = false
is_directive (c ∷ field) = c == 36

-- a directive, or a record with its owner
abbrev pub directive_or_record : Labels → List Octets → Result Statement ZoneCause
directive_or_record origin [] = Err MissingField
directive_or_record origin (field ∷ fields) =
    if is_directive field then directive_of field origin fields
    else name_in origin field >>= (λ owner. record_of_owner owner origin fields)

-- RFC 1035, 5.1: the record of an entry without an owner is of the owner of the record before it
abbrev pub record_after : Option Labels → Labels → List Octets → Result Statement ZoneCause
record_after None origin fields = Err NoOwner
record_after (Some owner) origin fields = record_of_owner owner origin fields

-- what an entry states, with the origin and the last owner before it
abbrev pub statement_of : Bool → List Octets → Labels → Option Labels → Result Statement ZoneCause
statement_of true fields origin owner = record_after owner origin fields
statement_of false fields origin owner = directive_or_record origin fields
