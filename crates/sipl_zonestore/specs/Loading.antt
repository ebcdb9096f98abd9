-- What a load makes of the tables.
use Rattle.std.specs.Prelude.{ℕ, ◌&&◌, ◌++◌, List, filter, map, nat_eq}
use Rattle.sipl_names.specs.Labels.{Labels}
use Rattle.sipl_records.specs.Sets.{data_of}
use Rattle.sipl_records.specs.declared.record.Record.{Record}
use Rattle.sipl_records.specs.declared.record.Key.{Key}
use Rattle.sipl_zonestore.specs.Changes.{existence_key}
use Rattle.sipl_zonestore.specs.Content.{Content, carried}
use Rattle.sipl_zonestore.specs.NameTable.{NameTable, count_at}
use Rattle.sipl_zonestore.specs.Numbers.{set_number_after}
use Rattle.sipl_zonestore.specs.SetTable.{OwnerTable, content_of}

-- the data that a key has in a text, with the number of its set once the old records have become the new
-- ones, of which the text is a part
abbrev pub content_loaded : OwnerTable → List Record → List Record → List Record → ℕ → Key → Content
content_loaded sets old new text next key =
    carried (set_number_after old new next (λ key. (content_of sets key).number) key) (data_of text key)

-- the keys of those of the old names with which no other record was counted, and with which none of the new
-- is, and then of those of the new names with which none was
abbrev pub existence_changed : NameTable → NameTable → NameTable → List Labels → List Labels → List Key
existence_changed names old new old_names new_names =
    map existence_key
    (filter
    (λ name. nat_eq (count_at names name) (count_at old name) && nat_eq (count_at new name) 0)
    old_names)
    ++ map existence_key (filter (λ name. nat_eq (count_at names name) 0) new_names)
