-- Which record sets an edit changed, and which names it made exist or no longer exist.
use Rattle.std.specs.Prelude.{ℕ, Bool, not, List, [], ◌∷◌, ◌++◌, filter, filter_map, length, map, if◌then◌else◌}
use Rattle.std.specs.List.{flat_map}
use lib.Pointwise.{pointwise}
use Rattle.sipl_names.specs.Labels.{Labels, same_name}
use Rattle.sipl_records.specs.Sets.{data_of, exists_in, same_data, same_key, key_of}
use Rattle.sipl_records.specs.Unique.{unique}
use Rattle.sipl_records.specs.declared.kind.Kind.TheVariants.{Exists}
use Rattle.sipl_records.specs.declared.record.Record.{Record}
use Rattle.sipl_records.specs.declared.record.Key.{Key}

-- whether the key's data differ between the old records and the new ones
abbrev pub is_changed : List Record → List Record → Key → Bool
is_changed old new key = not (pointwise same_data (data_of old key) (data_of new key))

-- the keys of these records whose data differ, each once, in the order of the records
abbrev pub changed_among : List Record → List Record → List Record → List Key
changed_among old new records =
    filter (is_changed old new) (unique same_key (filter_map key_of records))

-- the keys of the record sets that differ, each once, in the order of the old records followed by
-- the new
abbrev pub changed_sets : List Record → List Record → List Key
changed_sets old new = changed_among old new (old ++ new)

-- RFC 1034, 3.1: a name, its parent, the parent of that, and so on up to the root
abbrev pub with_ancestors : Labels → List Labels
with_ancestors [] = [] ∷ []
with_ancestors (label ∷ labels) = (label ∷ labels) ∷ with_ancestors labels

-- RFC 4592, 2.2.3: the names that exist: of each owner in the order of the records it and its
-- ancestors, each once, at its first place
abbrev pub existing_names : List Record → List Labels
existing_names records = unique same_name (flat_map (λ r. with_ancestors r.owner) records)

-- whether a name exists by only one of the two lists of records
abbrev pub exists_in_one : List Record → List Record → Labels → Bool
exists_in_one old new name =
    if exists_in old name then not (exists_in new name) else exists_in new name

-- the names that exist by only one of the two lists, in the order of the old records followed by
-- the new
abbrev pub changed_names : List Record → List Record → List Labels
changed_names old new = filter (exists_in_one old new) (existing_names (old ++ new))

-- the key of a name's existence
abbrev pub existence_key : Labels → Key
existence_key name = record { name = name; kind = Exists }

-- the keys of the existence of these names
abbrev pub changed_existence : List Record → List Record → List Key
changed_existence old new = map existence_key (changed_names old new)

-- the keys whose set differs, each once: those of record sets, then those of existence
abbrev pub changed_keys : List Record → List Record → List Key
changed_keys old new = changed_sets old new ++ changed_existence old new

-- how many record sets differ; existence does not count
abbrev pub changed_count : List Record → List Record → ℕ
changed_count old new = length (changed_sets old new)
