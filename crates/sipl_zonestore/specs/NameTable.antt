-- The names that exist: of each, how many records are within it.
use Rattle.std.specs.Prelude.{◌≡◌, ℕ, List, [], Option, None, Some}
use Rattle.std.specs.List.{count_by}
use Rattle.std.specs.Map.{lookup}
use Rattle.std.specs.Option.{unwrap_or}
use Rattle.sipl_names.specs.Labels.{Labels, is_within, same_name}
use Rattle.sipl_records.specs.declared.record.Record.{Record}
use Rattle.sipl_zonestore.specs.Changes.{with_ancestors}

-- names with counts
abbrev pub NameTable : Type 0
NameTable = List (Labels × ℕ)

-- the count of a name, 0 where it has none
abbrev pub count_at : NameTable → Labels → ℕ
count_at names name = unwrap_or (lookup (same_name name) names) 0

-- how many of the records are within a name
abbrev pub count_within : List Record → Labels → ℕ
count_within records name = count_by (λ r. is_within r.owner name) records

-- each name's count is that of the records within it
abbrev pub HasNames : NameTable → List Record → Type 0
HasNames names records = (name : Labels) → count_at names name ≡ count_within records name

-- the name and its ancestors, if there is one
abbrev pub ancestors_from : Option Labels → List Labels
ancestors_from None = []
ancestors_from (Some name) = with_ancestors name
