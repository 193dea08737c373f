-- The table that a header names (UAX 44, section 5: the long names of properties).
use Rattle.std.specs.Prelude.{ℕ, nat_eq, List, Option, Some, None, option_map, option_and_then, if◌then◌else◌}
use Rattle.std.specs.List.{position}
use Rattle.std.specs.Str.{bytes_eq}
use Rattle.prop_binary.specs.Tables.{set_table_names, emoji_table_names}
use Rattle.prop_values.specs.Tables.{map_table_names, names_table_names, glyph_table}
use Rattle.prop_data.specs.Line.{Header, set_header, map_header, names_header, long_header, short_header, emoji_header, scx_header, ext_header}
use Rattle.prop_data.specs.Numbers.{decimal_number}

-- the number of the set table with this name
abbrev pub set_number : List ℕ → Option ℕ
set_number name = position (λ known. bytes_eq known name) set_table_names

-- the number of the map table with this name
abbrev pub map_number : List ℕ → Option ℕ
map_number name = position (λ known. bytes_eq known name) map_table_names

-- the number of the table of names with this name
abbrev pub names_number : List ℕ → Option ℕ
names_number name = position (λ known. bytes_eq known name) names_table_names

-- the number of the emoji table with this name
abbrev pub emoji_number : List ℕ → Option ℕ
emoji_number name = position (λ known. bytes_eq known name) emoji_table_names

-- a table whose values have names, as all but the mirroring glyph's do
abbrev pub has_names : ℕ → Option ℕ
has_names t = if nat_eq t glyph_table then None else Some t

-- the number of the table of one name for each value, with this name
abbrev pub text_number : List ℕ → Option ℕ
text_number name = option_and_then has_names (map_number name)

pub data Table : Type 0 where
  -- the number of a set
  set_table : ℕ → Table
  -- the number of a map, and its default
  map_table : ℕ → ℕ → Table
  -- the number of a table of names
  names_table : ℕ → Table
  -- the number of a table of long names, and of short names
  long_table : ℕ → Table
  short_table : ℕ → Table
  -- the number of an emoji table
  emoji_table : ℕ → Table
  -- the default of the scripts with extensions
  scx_table : ℕ → Table
  -- the index of an extension list, and its script, if it has one
  ext_table : ℕ → Option ℕ → Table

abbrev pub ext_of : Option (List ℕ) → ℕ → Option Table
ext_of None i = Some (ext_table i None)
ext_of (Some script) i = option_map (λ s. ext_table i (Some s)) (decimal_number script)

abbrev pub table_of : Header → Option Table
table_of (set_header name) = option_map set_table (set_number name)
table_of (map_header name default) =
    option_and_then (λ t. option_map (map_table t) (decimal_number default)) (map_number name)
table_of (names_header name) = option_map names_table (names_number name)
table_of (long_header name) = option_map long_table (text_number name)
table_of (short_header name) = option_map short_table (text_number name)
table_of (emoji_header name) = option_map emoji_table (emoji_number name)
table_of (scx_header default) = option_map scx_table (decimal_number default)
table_of (ext_header index script) = option_and_then (ext_of script) (decimal_number index)
