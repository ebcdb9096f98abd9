-- The places of items, by the names and the kinds of their keys.
use Rattle.std.specs.Prelude.{◌≡◌, ℕ, ◌<◌, Box, List, length, Option, None, Some, box_value, position, slice_index_or}
use Rattle.indexmap.specs.IndexMap.{IndexMap, get}
use Rattle.sipl_names.specs.Labels.{Labels, same_name}
use Rattle.sipl_records.specs.declared.kind.Kind.{Kind}
use Rattle.sipl_records.specs.Kinds.{index_of}
use Rattle.sipl_records.specs.declared.record.Key.{Key}
use Rattle.sipl_records.specs.Sets.{same_key}
use Rattle.sipl_evidence.specs.declared.places.Places.{Places}
use Rattle.sipl_evidence.specs.Items.{Item, HasDistinctKeys}

-- the place of a kind
abbrev pub place_at : Places → Kind → Option ℕ
place_at places kind = slice_index_or places.by_kind (index_of kind) None

-- the place of a kind, where there are places
abbrev pub place_among : Option Places → Kind → Option ℕ
place_among None kind = None
place_among (Some places) kind = place_at places kind

-- the places of a name in a table, if there is one
abbrev pub table_of : {S Z : Type 0} → Option (Box (IndexMap Labels Places S) Z) → Labels → Option Places
table_of None name = None
table_of (Some table) name = get same_name (box_value table) name

-- the place of a key in a table by names
abbrev pub place_in : (Labels → Option Places) → Key → Option ℕ
place_in table k = place_among (table k.name) k.kind

-- the place of the item of a key, if there is one
abbrev pub place_of : List Item → Key → Option ℕ
place_of items k = position (λ item. same_key item.key k) items

-- no key is read twice, and the table has the place of each key's item
pub record IsIndexed (items : List Item) (table : Labels → Option Places) : Type 0 where
  pub distinct : HasDistinctKeys items
  pub places : (k : Key) → place_in table k ≡ place_of items k

-- no key is read twice, and the table has the place of each key's item, where they are more than
-- eight; fewer are searched one by one
pub record IsEvidence (items : List Item) (table : Labels → Option Places) : Type 0 where
  pub distinct : HasDistinctKeys items
  pub indexed : 8 < length items → IsIndexed items table
