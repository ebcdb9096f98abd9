-- The owners of records of types that are not read, of which nothing is kept.
use Rattle.std.specs.Prelude.{◌≡◌, Bool, ◌&&◌, false, not, List, Option}
use Rattle.std.specs.List.{list_any}
use Rattle.std.specs.Option.{option_map_or}
use Rattle.sipl_names.specs.Labels.{Labels, same_name}
use Rattle.sipl_records.specs.Sets.{has_some_kind}
use Rattle.sipl_records.specs.declared.record.Record.{Record}

-- whether the record is one of which nothing is kept, with this owner
abbrev pub is_bare_at : Labels → Record → Bool
is_bare_at name r = same_name name r.owner && not (has_some_kind r.value)

-- whether the name is the one, if there is one
abbrev pub is_name : Labels → Option Labels → Bool
is_name name own = option_map_or (same_name name) own false

-- a table of names has the owners of such records, and no other name
abbrev pub HasBare : (Labels → Bool) → List Record → Type 0
HasBare owners records = (name : Labels) → owners name ≡ list_any (is_bare_at name) records
