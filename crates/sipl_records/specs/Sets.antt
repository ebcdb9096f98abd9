-- Sets of records (RFC 2181, 5), and which names exist (RFC 4592, 2.2.3).
use Rattle.std.specs.Prelude.{Bool, true, false, ◌&&◌, ◌||◌, List, [], ◌∷◌, Option, None, Some, option_map, if◌then◌else◌, nat_eq, ◌==◌}
use Rattle.std.specs.List.{list_any}
use Rattle.std.specs.Option.{is_some, option_map_or, unwrap_or}
use lib.Pointwise.{pointwise}
use Rattle.sipl_names.specs.Labels.{Labels, Octets, is_within, same_name}
use Rattle.sipl_records.specs.declared.data.Data.{Data}
use Rattle.sipl_records.specs.declared.data.Data.TheVariants.{Address4 as data_address4, Address6 as data_address6, Alias as data_alias, Service as data_service, Pointer as data_pointer, Bare as data_bare}
use Rattle.sipl_records.specs.declared.kind.Kind.{Kind}
use Rattle.sipl_records.specs.declared.kind.Kind.TheVariants.{Address4, Address6, Alias, Service, Pointer, Exists}
use Rattle.sipl_records.specs.declared.record.Record.{Record}
use Rattle.sipl_records.specs.declared.record.Key.{Key}

-- the table of kinds: the kind of the set that the data of a record are in, none for those of other
-- types, of which nothing is kept
abbrev pub kind_of : Data → Option Kind
kind_of (data_address4 n) = Some Address4
kind_of (data_address6 n) = Some Address6
kind_of (data_alias name) = Some Alias
kind_of (data_service priority weight port target) = Some Service
kind_of (data_pointer order preference flags services regexp replacement) = Some Pointer
kind_of data_bare = None

-- whether the data have a name: those of an alias, a service or a pointer
abbrev pub has_name : Data → Bool
has_name (data_alias name) = true
has_name (data_service priority weight port target) = true
has_name (data_pointer order preference flags services regexp replacement) = true
has_name _ = false

-- whether two kinds are one
abbrev pub same_kind : Kind → Kind → Bool
same_kind Address4 Address4 = true
same_kind Address6 Address6 = true
same_kind Alias Alias = true
same_kind Service Service = true
same_kind Pointer Pointer = true
same_kind Exists Exists = true
same_kind _ _ = false

-- whether a record of these data is in a set of this kind; one of another type is in none
abbrev pub has_own_kind : Kind → Data → Bool
has_own_kind kind value = option_map_or (λ own. same_kind own kind) (kind_of value) false

-- whether a set of this kind can have the data: those of other types are the data of existence
abbrev pub has_kind : Kind → Data → Bool
has_kind kind value = same_kind (unwrap_or (kind_of value) Exists) kind

-- whether records of the two data are in sets of one kind; those of other types are in none
abbrev pub has_same_kind : Data → Data → Bool
has_same_kind a b = option_map_or (λ kind. has_own_kind kind b) (kind_of a) false

-- whether the record is in the key's set: it has that owner and kind
abbrev pub has_key : Key → Record → Bool
has_key key record' = same_name record'.owner key.name && has_own_kind key.kind record'.value

-- the key of the set that a record is in
abbrev pub key_of : Record → Option Key
key_of r = option_map (λ kind. record { name = r.owner; kind = kind }) (kind_of r.value)

-- whether two records are in one set: equal owners, and data of one kind
abbrev pub shares_set : Record → Record → Bool
shares_set a b = same_name a.owner b.owner && has_same_kind a.value b.value

-- whether the data are of some kind: those of other types, of which nothing is kept, are of none
abbrev pub has_some_kind : Data → Bool
has_some_kind value = is_some (kind_of value)

-- RFC 1034, 3.6.2, and RFC 2181, 10.1: an alias has no other data beside it; so two records conflict
-- that have one owner and some kind each, at least one of them an alias
abbrev pub conflicts : Record → Record → Bool
conflicts a b =
    same_name a.owner b.owner && has_some_kind a.value && has_some_kind b.value
    && (has_own_kind Alias a.value || has_own_kind Alias b.value)

-- RFC 2181, 5: the data of the records with a key, in the order of the records
abbrev pub data_of : List Record → Key → List Data
data_of [] key = []
data_of (r ∷ records) key = if has_key key r then r.value ∷ data_of records key else data_of records key

-- RFC 4592, 2.2.3: whether a name exists: it or a name below it owns a record
abbrev pub exists_in : List Record → Labels → Bool
exists_in records name = list_any (λ r. is_within r.owner name) records

-- whether a key is that of a name's existence
abbrev pub is_existence : Key → Bool
is_existence key = same_kind key.kind Exists

-- the set of a name's existence: data of which nothing is kept, where the name exists
abbrev pub existence_of : Bool → List Data
existence_of exists = if exists then data_bare ∷ [] else []

-- RFC 2181, 5: the data of one owner and kind, in the order of the records; or whether a name exists
abbrev pub set_of : List Record → Key → List Data
set_of records key =
    if is_existence key then existence_of (exists_in records key.name) else data_of records key

-- whether two keys are the same
abbrev pub same_key : Key → Key → Bool
same_key a b = same_name a.name b.name && same_kind a.kind b.kind

-- whether two strings have the same octets
abbrev pub same_octets : Octets → Octets → Bool
same_octets = pointwise nat_eq

-- whether two data are the same: names without case, as they are kept, and strings octet by octet
abbrev pub same_data : Data → Data → Bool
same_data (data_address4 m) (data_address4 n) = m == n
same_data (data_address6 m) (data_address6 n) = m == n
same_data (data_alias a) (data_alias b) = same_name a b
same_data (data_service p w port n) (data_service p' w' port' n') =
    p == p' && w == w' && port == port' && same_name n n'
same_data (data_pointer o p f s r n) (data_pointer o' p' f' s' r' n') =
    o == o' && p == p' && same_octets f f' && same_octets s s' && same_octets r r'
    && same_name n n'
same_data data_bare data_bare = true
same_data _ _ = false

-- whether two records are the same: equal owners, without case, and the same data
abbrev pub same_record : Record → Record → Bool
same_record a b = same_name a.owner b.owner && same_data a.value b.value
