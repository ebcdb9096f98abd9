-- A table of record sets by their owners and kinds.
use Rattle.std.specs.Prelude.{◌≡◌, ℕ, Bool, true, false, not, ◌&&◌, List, [], ◌∷◌, ◌++◌, filter, map, slice_get, Some, if◌then◌else◌, IfSome}
use Rattle.std.specs.List.{list_all, list_any, position_from}
use Rattle.std.specs.Map.{lookup}
use Rattle.std.specs.Option.{option_to_list, unwrap_or}
use lib.Pointwise.{pointwise}
use Rattle.sipl_names.specs.Labels.{Labels, same_name}
use Rattle.sipl_records.specs.Sets.{data_of, same_data, same_key, same_kind, key_of}
use Rattle.sipl_records.specs.declared.data.Data.{Data}
use Rattle.sipl_records.specs.declared.kind.Kind.{Kind}
use Rattle.sipl_records.specs.declared.kind.Kind.TheVariants.{Alias}
use Rattle.sipl_records.specs.declared.record.Record.{Record}
use Rattle.sipl_records.specs.declared.record.Key.{Key}
use Rattle.sipl_zonestore.specs.Numbers.{SetNumber, is_empty}
use Rattle.sipl_zonestore.specs.Content.{Content, no_content, carried, without}
use Rattle.sipl_zonestore.specs.declared.owner_sets.KindSet.{KindSet}

-- the sets of an owner, each with its kind
abbrev pub OwnerSets : Type 0
OwnerSets = List KindSet

-- the set of a kind among those of an owner
abbrev pub set_at : Kind → OwnerSets → Content
set_at kind [] = no_content
set_at kind (own ∷ sets) = if same_kind own.kind kind then own.set else set_at kind sets

-- the sets of an owner, where that of this kind is this one: a kind of which there was none comes last,
-- unless its set is empty
abbrev pub with_set : Kind → Content → OwnerSets → OwnerSets
with_set kind set [] = if is_empty set.values then [] else record { kind = kind; set = set } ∷ []
with_set kind set (own ∷ sets) =
    if same_kind own.kind kind then record { kind = own.kind; set = set } ∷ sets
    else own ∷ with_set kind set sets

-- no sets
abbrev pub no_sets : OwnerSets
no_sets = []

-- whether all sets of an owner are empty
abbrev pub has_no_data : OwnerSets → Bool
has_no_data sets = list_all (λ own. is_empty (set_at own.kind sets).values) sets

-- whether an owner has at most one set of each kind
abbrev pub has_kinds_once : OwnerSets → Bool
has_kinds_once [] = true
has_kinds_once (own ∷ sets) =
    not (list_any (λ other. same_kind other.kind own.kind) sets) && has_kinds_once sets

-- the sets of a table by their owners
abbrev pub OwnerTable : Type 0
OwnerTable = List (Labels × OwnerSets)

-- the content of an owner's set
abbrev pub held : Kind → OwnerSets → Content
held kind sets = carried (set_at kind sets).number (set_at kind sets).values

-- the number and the data of a key's set
abbrev pub content_of : OwnerTable → Key → Content
content_of [] key = no_content
content_of (owner ∷ owners) key =
    if same_name owner.0 key.name then held key.kind owner.1 else content_of owners key

-- the owner has this place, and its sets are those that a look-up finds
pub record IsPlace (owners : OwnerTable) (name : Labels) (place : ℕ) : Type 0 where
  pub sets : OwnerSets
  pub there : slice_get owners place ≡ Some (name, sets)
  pub found : lookup (same_name name) owners ≡ Some sets

-- the number of an owner's set
abbrev pub number_at : Kind → Labels × OwnerSets → SetNumber
number_at kind owner =
    record { key = record { name = owner.0; kind = kind }; number = (held kind owner.1).number }

-- the number of each set, 0 of those that are empty; an owner is one of its name
abbrev pub numbers_of : OwnerTable → List SetNumber
numbers_of [] = []
numbers_of (owner ∷ owners) =
    map (λ own. number_at own.kind owner) owner.1
    ++ filter (λ other. not (same_name owner.0 other.key.name)) (numbers_of owners)

-- each owner that a look-up finds has data
abbrev pub HaveData : OwnerTable → Type 0
HaveData owners =
    (name : Labels) → IfSome (lookup (same_name name) owners) (λ sets. has_no_data sets ≡ false)

-- whether the key has a set
abbrev pub has_set : OwnerTable → Key → Bool
has_set sets key = not (is_empty (content_of sets key).values)

-- whether the owner has a set of this kind
abbrev pub has_kind_set : OwnerTable → Labels → Kind → Bool
has_kind_set sets name kind = has_set sets (record { name = name; kind = kind })

-- whether an owner has data of some kind
abbrev pub has_data : OwnerTable → Labels → Bool
has_data [] name = false
has_data (owner ∷ owners) name =
    if same_name owner.0 name then not (has_no_data owner.1) else has_data owners name

-- whether a record of this key conflicts with the sets of its owner (RFC 1034, 3.6.2): an alias
-- does with each, and any other record with an alias
abbrev pub conflicts_in : OwnerTable → Key → Bool
conflicts_in sets key =
    if same_kind key.kind Alias then has_data sets key.name else has_kind_set sets key.name Alias

-- the key of a record, where its set has other data
abbrev pub keys_left : OwnerTable → Record → List Key
keys_left sets r =
    filter (λ key. not (is_empty (without r.value (content_of sets key)).values))
    (option_to_list (key_of r))

-- the content of a key once the sets of these keys take the numbers from this one on, in order
abbrev pub numbered_content : OwnerTable → List Key → ℕ → Key → Content
numbered_content sets keys next key =
    carried
    (unwrap_or (position_from (λ other. same_key other key) next (filter (has_set sets) keys))
    (content_of sets key).number)
    (content_of sets key).values

-- the sets of a table are those of the records
abbrev pub HasSets : OwnerTable → List Record → Type 0
HasSets sets records = (key : Key) → (content_of sets key).values ≡ data_of records key

-- whether a datum is the first of a set
abbrev pub is_first : Data → List Data → Bool
is_first value [] = false
is_first value (first ∷ others) = same_data value first

-- the record's key, where the record is the first of its old set, and the set differs
abbrev pub changed_in : OwnerTable → OwnerTable → Record → List Key
changed_in old new r =
    filter
    (λ key. is_first r.value (content_of old key).values
    && not (pointwise same_data (content_of old key).values (content_of new key).values))
    (option_to_list (key_of r))

-- the record's key, where the record is the first of its new set, and the old set is empty
abbrev pub added_in : OwnerTable → OwnerTable → Record → List Key
added_in old new r =
    filter
    (λ key. is_empty (content_of old key).values && is_first r.value (content_of new key).values)
    (option_to_list (key_of r))
