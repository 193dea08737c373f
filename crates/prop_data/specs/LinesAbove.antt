-- What the lines above a line say, the nearest line first.
use Rattle.std.specs.Prelude.{ℕ, Bool, true, false, nat_eq, List, [], ◌∷◌, Option, Some, None, if◌then◌else◌}
use Rattle.std.specs.Option.{option_or}
use Rattle.prop_names.specs.Names.{Names}
use Rattle.prop_data.specs.Headers.{Table, set_table, map_table, names_table, long_table, short_table, emoji_table, scx_table, ext_table, table_of}
use Rattle.prop_data.specs.Line.{Row, Line, blank, header, row, closing, other}
use Rattle.prop_data.specs.Rows.{last_of, members, value, names_in, texts_in, is_subtags, emoji_members, script_numbers, extension_list}
use Rattle.prop_data.specs.Tables.{EmojiMembers, ScriptNumbers, ExtensionList, Tables}

-- `end` stands above
abbrev pub is_closed : List Line → Bool
is_closed [] = false
is_closed (closing ∷ above) = true
is_closed (blank ∷ above) = is_closed above
is_closed (header h ∷ above) = is_closed above
is_closed (row r ∷ above) = is_closed above
is_closed (other ∷ above) = is_closed above

-- a table with its rows, the nearest first
abbrev pub Section : Type 0
Section = Table × List Row

abbrev pub begins_with : Option Table → List Section → List Section
begins_with None sections = sections
begins_with (Some t) sections = (t, []) ∷ sections

abbrev pub with_row : Row → List Section → List Section
with_row r [] = []
with_row r (s ∷ sections) = (s.0, r ∷ s.1) ∷ sections

-- the tables with their rows, the nearest first
abbrev pub sections : List Line → List Section
sections [] = []
sections (header h ∷ above) = begins_with (table_of h) (sections above)
sections (row r ∷ above) = with_row r (sections above)
sections (blank ∷ above) = sections above
sections (closing ∷ above) = sections above
sections (other ∷ above) = sections above

-- the table that a row belongs to
abbrev pub table_of_row : List Section → Option Table
table_of_row [] = None
table_of_row (s ∷ sections) = Some s.0

-- what a row must be above in its table
abbrev pub last_in_table : List Section → Option ℕ
last_in_table [] = None
last_in_table (s ∷ sections) = last_of s.0 s.1

-- what the nearest section says that says something
abbrev pub found : {A : Type 0} → (Table → List Row → Option A) → List Section → Option A
found says [] = None
found says (s ∷ sections) = option_or (says s.0 s.1) (found says sections)

-- the members of the set with this number
abbrev pub set_at : ℕ → Table → List Row → Option (ℕ → Bool)
set_at n (set_table t) rows = if nat_eq t n then Some (members rows) else None
set_at n other_table rows = None

-- the values of the map with this number
abbrev pub map_at : ℕ → Table → List Row → Option (ℕ → ℕ)
map_at n (map_table t default) rows = if nat_eq t n then Some (value t default rows) else None
map_at n other_table rows = None

-- the names of the table of names with this number
abbrev pub names_at : ℕ → Table → List Row → Option Names
names_at n (names_table t) rows = if nat_eq t n then Some (names_in rows) else None
names_at n other_table rows = None

-- the long names of the table with this number
abbrev pub long_at : ℕ → Table → List Row → Option (ℕ → Option (List ℕ))
long_at n (long_table t) rows = if nat_eq t n then Some (texts_in false rows) else None
long_at n other_table rows = None

-- the short names of the table with this number
abbrev pub short_at : ℕ → Table → List Row → Option (ℕ → Option (List ℕ))
short_at n (short_table t) rows = if nat_eq t n then Some (texts_in (is_subtags t) rows) else None
short_at n other_table rows = None

-- the members of the emoji table with this number
abbrev pub emoji_at : ℕ → Table → List Row → Option EmojiMembers
emoji_at n (emoji_table t) rows = if nat_eq t n then Some (emoji_members rows) else None
emoji_at n other_table rows = None

-- the scripts with extensions
abbrev pub scx_at : Table → List Row → Option ScriptNumbers
scx_at (scx_table default) rows = Some (script_numbers default rows)
scx_at other_table rows = None

-- the extension list at this index
abbrev pub ext_at : ℕ → Table → List Row → Option ExtensionList
ext_at n (ext_table t script) rows = if nat_eq t n then Some (extension_list script rows) else None
ext_at n other_table rows = None

-- the tables that the sections mean
abbrev pub tables_of_sections : List Section → Tables
tables_of_sections ss = record {
  sets = λ n. found (set_at n) ss;
  maps = λ n. found (map_at n) ss;
  names = λ n. found (names_at n) ss;
  long = λ n. found (long_at n) ss;
  short = λ n. found (short_at n) ss;
  emoji = λ n. found (emoji_at n) ss;
  scripts = found scx_at ss;
  extensions = λ n. found (ext_at n) ss;
}

-- the tables that the lines mean
abbrev pub tables_of_lines : List Line → Tables
tables_of_lines above = tables_of_sections (sections above)
