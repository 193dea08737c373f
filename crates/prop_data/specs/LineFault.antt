-- The tests of a line of a table text, for each kind of table in the order in which they are made.
use Rattle.std.specs.Prelude.{ℕ, Bool, true, false, ◌||◌, ◌&&◌, nat_eq, nat_le, nat_lt, not, ◌==◌, ◌%◌, unwrap_or, option_map, max, List, [], ◌∷◌, Option, Some, None, is_some, if◌then◌else◌}
use Rattle.std.specs.Option.{option_or}
use Rattle.std.specs.List.{list_any, list_all}
use Rattle.std.specs.Char.{is_ascii_alphanumeric}
use Rattle.prop_names.specs.Folding.{stored_folding}
use Rattle.prop_names.specs.Names.{Names, value_of_folding}
use Rattle.prop_names.specs.ValueNames.{not_empty}
use Rattle.prop_values.specs.ScriptWithExt.{kind_of}
use Rattle.prop_values.specs.Subtag.{is_four_letters, in_subtag_case}
use Rattle.prop_values.specs.Tables.{accepts, accepts_name_of, script_table}
use Rattle.prop_data.specs.declared.error.TableErrorKind.{TableErrorKind}
use Rattle.prop_data.specs.declared.error.TableErrorKind.TheVariants.{UnknownLine, UnknownTable, TableTwice, BadNumber, TooLarge, RangeOrder, ValueOutOfType, BadName, NamesClash, SyntaxAscii, ExtensionOrder, StringOfOne, StringTwice, ExtensionMissing, AfterEnd}
use Rattle.prop_data.specs.Headers.{Table, set_table, map_table, names_table, long_table, short_table, emoji_table, scx_table, ext_table, set_number, map_number, names_number, text_number, emoji_number}
use Rattle.prop_data.specs.Line.{Header, set_header, map_header, names_header, long_header, short_header, emoji_header, scx_header, ext_header, Row, Line, blank, header, row, closing, other}
use Rattle.prop_data.specs.LinesAbove.{is_closed, sections, table_of_row, last_in_table, tables_of_lines}
use Rattle.prop_data.specs.Numbers.{range, decimal_number}
use Rattle.prop_data.specs.Rows.{is_subtags}
use Rattle.prop_data.specs.Strings.{braced, string_numbers, text_of_numbers}
use Rattle.prop_data.specs.Tables.{EmojiMembers, ExtensionList, ScriptNumbers, Tables}

-- what the tests of a line look at above it
pub record Above : Type 0 where
  -- whether `end` stands there
  pub closed : Bool
  -- the table whose rows stand there
  pub table : Option Table
  -- the last code point, or the script, of its last row
  pub last : Option ℕ
  -- what the tables there mean so far
  pub tables : Tables

-- nothing behind `end`
abbrev pub unless : {A : Type 0} → Bool → Option A → Option A
unless closed o = if closed then None else o

abbrev pub above : List Line → Above
above ls = record {
  closed = is_closed ls;
  table = unless (is_closed ls) (table_of_row (sections ls));
  last = unless (is_closed ls) (last_in_table (sections ls));
  tables = tables_of_lines ls;
}

-- The ASCII ranges that a table must not hold: Pattern_White_Space (51) the visible characters, XID_Continue (67) and XID_Start
-- (68) all but letters, digits and `_`. No other table is tested so.
abbrev pub forbidden : ℕ → List (ℕ × ℕ)
forbidden t =
    if nat_eq t 51 then (0x21, 0x7E) ∷ []
    else if nat_eq t 67 || nat_eq t 68
    then (0x00, 0x2F) ∷ (0x3A, 0x40) ∷ (0x5B, 0x5E) ∷ (0x60, 0x60) ∷ (0x7B, 0x7F) ∷ []
    else []

abbrev pub overlaps : ℕ × ℕ → ℕ × ℕ → Bool
overlaps r s = nat_le r.0 s.1 && nat_le s.0 r.1

-- the row's first code point, or its script, is not above the last of the row before it
abbrev pub is_not_above : Option ℕ → ℕ → Bool
is_not_above None start = false
is_not_above (Some last) start = nat_le start last

-- the tests of a range, where the last code point of the row before it is given
unfoldable pub range_fault : Option ℕ → ℕ × ℕ → Option TableErrorKind
range_fault last r =
    if nat_lt 0x10_FFFF (max r.0 r.1) then Some TooLarge
    else if nat_lt r.1 r.0 || is_not_above last r.0 then Some RangeOrder
    else None

unfoldable pub syntax_fault : ℕ → ℕ × ℕ → Option TableErrorKind
syntax_fault t r = if list_any (overlaps r) (forbidden t) then Some SyntaxAscii else None

-- the property of the map takes the number, which is at most 32 bits wide
abbrev pub accepts_value : ℕ → ℕ → Bool
accepts_value t n = nat_lt n 0x1_0000_0000 && accepts t n

unfoldable pub value_fault : ℕ → ℕ → Option TableErrorKind
value_fault t n = if accepts_value t n then None else Some ValueOutOfType

-- the tests of a row of a set, by the range that it spells
abbrev pub set_row_fault : ℕ → Option ℕ → Option (ℕ × ℕ) → Option TableErrorKind
set_row_fault t last None = Some BadNumber
set_row_fault t last (Some r) = option_or (range_fault last r) (syntax_fault t r)

-- the tests of a row of a map, by the range and the value that it spells
abbrev pub map_row_fault : ℕ → Option ℕ → Option (ℕ × ℕ) → Option ℕ → Option TableErrorKind
map_row_fault t last None n = Some BadNumber
map_row_fault t last (Some r) None = Some BadNumber
map_row_fault t last (Some r) (Some n) = option_or (range_fault last r) (value_fault t n)

-- an ASCII letter or digit, `_` or a hyphen
abbrev pub is_name_character : ℕ → Bool
is_name_character c = is_ascii_alphanumeric c || (c == 0x5F || c == 0x2D)

abbrev pub is_name : List ℕ → Bool
is_name text = list_all is_name_character text

-- the table of names takes the number, which is at most 16 bits wide
abbrev pub accepts_name : ℕ → ℕ → Bool
accepts_name t n = nat_lt n 0x1_0000 && accepts_name_of t n

-- there is a value, and it is another one
abbrev pub is_other : Option ℕ → ℕ → Bool
is_other None n = false
is_other (Some v) n = not (nat_eq v n)

-- the names that fold as this one have another value
abbrev pub clashes : Names → List ℕ → ℕ → Bool
clashes names text n = is_other (value_of_folding names (stored_folding text)) n

-- the tests of a name and its value, below other names
abbrev pub name_fault : ℕ → Names → ℕ → List ℕ → Option TableErrorKind
name_fault t names n text =
    if not (accepts_name t n) then Some ValueOutOfType
    else if not (is_name text) then Some BadName
    else if clashes names text n then Some NamesClash
    else None

-- the tests of a row of a table of names, by the value that it spells
abbrev pub names_row_fault : ℕ → Names → Option ℕ → List ℕ → Option TableErrorKind
names_row_fault t names None text = Some BadNumber
names_row_fault t names (Some n) text = name_fault t names n text

-- a name that may stand in a table of one name for each value, as it is kept
abbrev pub kept_of : Bool → List ℕ → Option (List ℕ)
kept_of is_subtag text =
    if not (is_name text) then None
    else if is_subtag then (if is_four_letters text then Some (in_subtag_case text) else None)
    else not_empty text

abbrev pub kept_fault : Bool → Option (List ℕ) → Option TableErrorKind
kept_fault is_there None = Some BadName
kept_fault is_there (Some kept) = if is_there then Some NamesClash else None

-- the tests of a name and its value, where other values have names
abbrev pub text_fault : Bool → ℕ → (ℕ → Option (List ℕ)) → ℕ → List ℕ → Option TableErrorKind
text_fault is_subtag t texts n text =
    if accepts_value t n then kept_fault (is_some (texts n)) (kept_of is_subtag text) else Some ValueOutOfType

-- the tests of a row of a table of one name for each value, by the value that it spells
abbrev pub text_row_fault : Bool → ℕ → (ℕ → Option (List ℕ)) → Option ℕ → List ℕ → Option TableErrorKind
text_row_fault is_subtag t texts None text = Some BadNumber
text_row_fault is_subtag t texts (Some n) text = text_fault is_subtag t texts n text

abbrev pub no_text : ℕ → Option (List ℕ)
no_text n = None

abbrev pub no_emoji : EmojiMembers
no_emoji = record { code_points = λ c. false; strings = λ bytes. false }

-- the tests of a row of an emoji table that is a range
abbrev pub emoji_range_fault : Option ℕ → Option (ℕ × ℕ) → Option TableErrorKind
emoji_range_fault last None = Some BadNumber
emoji_range_fault last (Some r) = range_fault last r

abbrev pub is_one : List ℕ → Bool
is_one [] = false
is_one (n ∷ []) = true
is_one (n ∷ m ∷ ns) = false

-- the tests of a string, below other strings
abbrev pub string_fault : EmojiMembers → List ℕ → Option TableErrorKind
string_fault members ns =
    if list_any (nat_lt 0x10_FFFF) ns then Some TooLarge
    else if is_one ns then Some StringOfOne
    else if members.strings (text_of_numbers ns) then Some StringTwice
    else None

-- the tests of a row of an emoji table that is a string, by the numbers that it spells
abbrev pub emoji_string_fault : EmojiMembers → Option (List ℕ) → Option TableErrorKind
emoji_string_fault members None = Some BadNumber
emoji_string_fault members (Some ns) = string_fault members ns

-- the tests of a row of an emoji table, by what stands in braces
abbrev pub emoji_row_fault : EmojiMembers → Option ℕ → List ℕ → Option (List ℕ) → Option TableErrorKind
emoji_row_fault members last field None = emoji_range_fault last (range field)
emoji_row_fault members last field (Some inner) = emoji_string_fault members (string_numbers inner)

-- the tests of a row of the scripts with extensions, which takes the numbers of the table of scripts
abbrev pub scx_row_fault : Option ℕ → Option (ℕ × ℕ) → Option ℕ → Option TableErrorKind
scx_row_fault last r n = map_row_fault script_table last r n

unfoldable pub order_fault : Option ℕ → ℕ → Option TableErrorKind
order_fault last n = if is_not_above last n then Some ExtensionOrder else None

-- the tests of a row of an extension list, by the script that it spells
abbrev pub ext_row_fault : Option ℕ → Option ℕ → Option TableErrorKind
ext_row_fault last None = Some BadNumber
ext_row_fault last (Some n) = option_or (value_fault script_table n) (order_fault last n)

-- the tests of a row below the header of a table
abbrev pub row_fault : Tables → Option Table → Option ℕ → Row → Option TableErrorKind
row_fault tables None last r = Some UnknownLine
row_fault tables (Some (set_table t)) last (first, None) = set_row_fault t last (range first)
row_fault tables (Some (set_table t)) last (first, Some second) = Some UnknownLine
row_fault tables (Some (map_table t default)) last (first, None) = Some UnknownLine
row_fault tables (Some (map_table t default)) last (first, Some second) =
    map_row_fault t last (range first) (decimal_number second)
row_fault tables (Some (names_table t)) last (first, None) = Some UnknownLine
row_fault tables (Some (names_table t)) last (first, Some second) =
    names_row_fault t (unwrap_or (tables.names t) []) (decimal_number first) second
row_fault tables (Some (long_table t)) last (first, None) = Some UnknownLine
row_fault tables (Some (long_table t)) last (first, Some second) =
    text_row_fault false t (unwrap_or (tables.long t) no_text) (decimal_number first) second
row_fault tables (Some (short_table t)) last (first, None) = Some UnknownLine
row_fault tables (Some (short_table t)) last (first, Some second) =
    text_row_fault (is_subtags t) t (unwrap_or (tables.short t) no_text) (decimal_number first) second
row_fault tables (Some (emoji_table t)) last (first, None) =
    emoji_row_fault (unwrap_or (tables.emoji t) no_emoji) last first (braced first)
row_fault tables (Some (emoji_table t)) last (first, Some second) = Some UnknownLine
row_fault tables (Some (scx_table default)) last (first, None) = Some UnknownLine
row_fault tables (Some (scx_table default)) last (first, Some second) =
    scx_row_fault last (range first) (decimal_number second)
row_fault tables (Some (ext_table i script)) last (first, None) = ext_row_fault last (decimal_number first)
row_fault tables (Some (ext_table i script)) last (first, Some second) = Some UnknownLine

-- the tests of the header of a set, by the number that its name has
abbrev pub set_header_fault : Tables → Option ℕ → Option TableErrorKind
set_header_fault tables None = Some UnknownTable
set_header_fault tables (Some t) = if is_some (tables.sets t) then Some TableTwice else None

abbrev pub default_fault : ℕ → Option ℕ → Option TableErrorKind
default_fault t None = Some BadNumber
default_fault t (Some n) = value_fault t n

-- the tests of the header of a map, by the number that its name has and the default that it spells
abbrev pub map_header_fault : Tables → Option ℕ → Option ℕ → Option TableErrorKind
map_header_fault tables None default = Some UnknownTable
map_header_fault tables (Some t) default = if is_some (tables.maps t) then Some TableTwice else default_fault t default

-- the tests of the header of a table of names, by the number that its name has
abbrev pub names_header_fault : Tables → Option ℕ → Option TableErrorKind
names_header_fault tables None = Some UnknownTable
names_header_fault tables (Some t) = if is_some (tables.names t) then Some TableTwice else None

-- the tests of the header of a table of one name for each value, by the number that its name has
abbrev pub text_header_fault : (ℕ → Option (ℕ → Option (List ℕ))) → Option ℕ → Option TableErrorKind
text_header_fault texts None = Some UnknownTable
text_header_fault texts (Some t) = if is_some (texts t) then Some TableTwice else None

-- the tests of the header of an emoji table, by the number that its name has
abbrev pub emoji_header_fault : Tables → Option ℕ → Option TableErrorKind
emoji_header_fault tables None = Some UnknownTable
emoji_header_fault tables (Some t) = if is_some (tables.emoji t) then Some TableTwice else None

-- the tests of the header of the scripts with extensions, by the default that it spells
abbrev pub scx_header_fault : Tables → Option ℕ → Option TableErrorKind
scx_header_fault tables default = if is_some tables.scripts then Some TableTwice else default_fault script_table default

-- the tests of an index, and of the script beside it, if there is one, by what they spell
abbrev pub index_fault : ℕ → Option (Option ℕ) → Option TableErrorKind
index_fault i None = if nat_lt 1023 i then Some TooLarge else None
index_fault i (Some None) = Some BadNumber
index_fault i (Some (Some s)) = if nat_lt 1023 i then Some TooLarge else value_fault script_table s

-- the tests of the header of an extension list
abbrev pub ext_header_fault : Tables → Option ℕ → Option (Option ℕ) → Option TableErrorKind
ext_header_fault tables None script = Some BadNumber
ext_header_fault tables (Some i) script =
    if is_some (tables.extensions i) then Some TableTwice else index_fault i script

-- the tests of a header, wherever it stands
abbrev pub header_fault : Tables → Header → Option TableErrorKind
header_fault tables (set_header name) = set_header_fault tables (set_number name)
header_fault tables (map_header name default) = map_header_fault tables (map_number name) (decimal_number default)
header_fault tables (names_header name) = names_header_fault tables (names_number name)
header_fault tables (long_header name) = text_header_fault tables.long (text_number name)
header_fault tables (short_header name) = text_header_fault tables.short (text_number name)
header_fault tables (emoji_header name) = emoji_header_fault tables (emoji_number name)
header_fault tables (scx_header default) = scx_header_fault tables (decimal_number default)
header_fault tables (ext_header index script) =
    ext_header_fault tables (decimal_number index) (option_map decimal_number script)

-- a list without a script, and one with a script
abbrev pub is_plain_list : Option ExtensionList → Bool
is_plain_list None = false
is_plain_list (Some list) = not list.has_script

abbrev pub is_script_list : Option ExtensionList → Bool
is_script_list None = false
is_script_list (Some list) = list.has_script

-- The number has kind 1 or 2, and there is no list without a script at the index in its low ten bits, or it has kind 3, and there is
-- none with a script (UAX 24, section 2.8, as the original packs it).
abbrev pub lacks_list : (ℕ → Option ExtensionList) → ℕ → Bool
lacks_list lists n =
    if kind_of n == 1 || kind_of n == 2 then not (is_plain_list (lists (n % 1024)))
    else if kind_of n == 3 then not (is_script_list (lists (n % 1024)))
    else false

abbrev pub any_lacks : (ℕ → Option ExtensionList) → Option ScriptNumbers → Bool
any_lacks lists None = false
any_lacks lists (Some numbers) = list_any (lacks_list lists) numbers.named

-- a number that the scripts with extensions name has no list
unfoldable pub lacks_some_list : Tables → Bool
lacks_some_list tables = any_lacks tables.extensions tables.scripts

abbrev pub missing_fault : Tables → Option TableErrorKind
missing_fault tables = if lacks_some_list tables then Some ExtensionMissing else None

abbrev pub after_end : Bool → Option TableErrorKind
after_end closed = if closed then Some AfterEnd else None

-- the first test that fails at a line, as the tests are made
abbrev pub line_fault : Above → Line → Option TableErrorKind
line_fault seen blank = None
line_fault seen other = Some UnknownLine
line_fault seen closing = option_or (missing_fault seen.tables) (after_end seen.closed)
line_fault seen (header h) = option_or (header_fault seen.tables h) (after_end seen.closed)
line_fault seen (row r) = if seen.closed then Some UnknownLine else row_fault seen.tables seen.table seen.last r
