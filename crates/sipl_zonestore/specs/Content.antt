-- The number and the data of a record set.
use Rattle.std.specs.Prelude.{ℕ, not, List, [], ◌∷◌, ◌++◌, filter, if◌then◌else◌}
use Rattle.sipl_records.specs.Sets.{same_data}
use Rattle.sipl_records.specs.declared.data.Data.{Data}
use Rattle.sipl_zonestore.specs.Numbers.{is_empty}

-- what a table has for a key
pub record Content : Type 0 where
  pub number : ℕ
  pub values : List Data

-- where it has no set: no data, and the number 0
abbrev pub no_content : Content
no_content = record { number = 0; values = [] }

-- the content of these data: an empty set has the number 0
abbrev pub carried : ℕ → List Data → Content
carried number values = record { number = if is_empty values then 0 else number; values = values }

-- the content with this number and one more datum
abbrev pub pushed : ℕ → Data → Content → Content
pushed number value content = record { number = number; values = content.values ++ value ∷ [] }

-- the content without a datum, which keeps its number
abbrev pub data_without : Data → Content → Content
data_without value content =
    record {
      number = content.number;
      values = filter (λ other. not (same_data value other)) content.values;
    }

-- the data with this number
abbrev pub with_number : ℕ → Content → Content
with_number number content = record { number = number; values = content.values }

-- the content without a datum
abbrev pub without : Data → Content → Content
without value content =
    carried content.number (filter (λ other. not (same_data value other)) content.values)

-- the content with this number
abbrev pub renumbered : ℕ → Content → Content
renumbered number content = carried number content.values
