-- What the value of a setting may be, and what it is by default.
use Rattle.std.specs.Prelude.{ℕ, pos, ◌&&◌, List, ◌++◌, Option, None, Some, codes, decimal, map, nat_le, if◌then◌else◌}
use Rattle.toml.specs.Data.{Data, array, integer, string}
use Rattle.toml.specs.View.{items_of}
use Rattle.sipl_config.specs.declared.rows.Values.{Values}
use Rattle.sipl_config.specs.declared.rows.Values.TheVariants as values
use Rattle.sipl_config.specs.declared.rows.DefaultValue.{DefaultValue}
use Rattle.sipl_config.specs.declared.rows.DefaultValue.TheVariants as default

-- what a value may be, in words: of a number the least and the greatest
abbrev pub allowed_words : Values → List ℕ
allowed_words (values.Numbers least greatest) = decimal least ++ (codes " to " ++ decimal greatest)
allowed_words (values.List least words) = words.now
allowed_words (values.Words words) = words.now

-- the integer of a value, from the least to the greatest
abbrev pub number_within : Values → Data → Option ℕ
number_within (values.Numbers least greatest) (integer (pos n)) =
    if nat_le least n && nat_le n greatest then Some n else None
number_within _ _ = None

-- how many values a list has at least
abbrev pub least_length : Values → ℕ
least_length (values.List least words) = least
least_length _ = 0

-- the value of a document without the key
abbrev pub default_data : DefaultValue → Option Data
default_data default.Nothing = None
default_data (default.Number number) = Some (integer (pos number))
default_data (default.Text text) = Some (string text.now)
default_data (default.Texts texts) =
    Some (array (items_of (map (λ text. string text.now) texts.now)))
