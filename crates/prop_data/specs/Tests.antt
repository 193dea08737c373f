-- What a line is by its fields and the header above it, and its tests in their order, one for each kind of fault.
use Rattle.std.specs.Prelude.{ℕ, Bool, true, false, ◌||◌, not, nat_lt, max, List, [], ◌∷◌, Option, Some, None, is_none, is_some, unwrap_or, option_map, if◌then◌else◌}
use Rattle.std.specs.List.{list_any}
use Rattle.prop_data.specs.declared.error.TableErrorKind.{TableErrorKind}
use Rattle.prop_data.specs.declared.error.TableErrorKind.TheVariants.{UnknownLine, UnknownTable, TableTwice, BadNumber, TooLarge, RangeOrder, ValueOutOfType, BadName, NamesClash, SyntaxAscii, ExtensionOrder, StringOfOne, StringTwice, ExtensionMissing, AfterEnd}
use Rattle.prop_data.specs.Headers.{Table, set_table, map_table, names_table, long_table, short_table, emoji_table, scx_table, ext_table, set_number, map_number, names_number, text_number, emoji_number}
use Rattle.prop_data.specs.Line.{Header, set_header, map_header, names_header, long_header, short_header, emoji_header, scx_header, ext_header, Row, Line, blank, header, row, closing, other}
use Rattle.prop_data.specs.LineFault.{Above, overlaps, forbidden, is_not_above, accepts_value, accepts_name, is_name, clashes, kept_of, no_text, is_one, no_emoji, lacks_some_list}
use Rattle.prop_data.specs.Numbers.{range, decimal_number}
use Rattle.prop_data.specs.Rows.{is_subtags}
use Rattle.prop_data.specs.Strings.{braced, string_numbers, text_of_numbers}
use Rattle.prop_values.specs.Tables.{script_table}

-- A line by its fields and the header above it. A header has the number of its table, and a row what its fields spell, where they
-- do.
pub data Said : Type 0 where
  nothing : Said
  unknown : Said
  ending : Said
  set_begins : Option ℕ → Said
  -- the number, and the default
  map_begins : Option ℕ → Option ℕ → Said
  names_begin : Option ℕ → Said
  long_begins : Option ℕ → Said
  short_begins : Option ℕ → Said
  emoji_begins : Option ℕ → Said
  -- the default
  scx_begins : Option ℕ → Said
  -- the index, and the script, where the header has one
  ext_begins : Option ℕ → Option (Option ℕ) → Said
  set_row : ℕ → Option (ℕ × ℕ) → Said
  map_row : ℕ → Option (ℕ × ℕ) → Option ℕ → Said
  -- the value, and the name
  names_row : ℕ → Option ℕ → List ℕ → Said
  long_row : ℕ → Option ℕ → List ℕ → Said
  short_row : ℕ → Option ℕ → List ℕ → Said
  -- a range, and the numbers of a string
  emoji_range : ℕ → Option (ℕ × ℕ) → Said
  emoji_string : ℕ → Option (List ℕ) → Said
  scx_row : Option (ℕ × ℕ) → Option ℕ → Said
  ext_row : Option ℕ → Said

abbrev pub said_by_header : Header → Said
said_by_header (set_header name) = set_begins (set_number name)
said_by_header (map_header name default) = map_begins (map_number name) (decimal_number default)
said_by_header (names_header name) = names_begin (names_number name)
said_by_header (long_header name) = long_begins (text_number name)
said_by_header (short_header name) = short_begins (text_number name)
said_by_header (emoji_header name) = emoji_begins (emoji_number name)
said_by_header (scx_header default) = scx_begins (decimal_number default)
said_by_header (ext_header index script) = ext_begins (decimal_number index) (option_map decimal_number script)

-- a row of an emoji table is a string where it stands in braces, else a range
abbrev pub said_by_emoji : ℕ → List ℕ → Option (List ℕ) → Said
said_by_emoji t field None = emoji_range t (range field)
said_by_emoji t field (Some inner) = emoji_string t (string_numbers inner)

-- a row of a set, an emoji table or an extension list has one field, and a row of any other table two
abbrev pub said_by_row : Option Table → Row → Said
said_by_row None r = unknown
said_by_row (Some (set_table t)) (first, None) = set_row t (range first)
said_by_row (Some (set_table t)) (first, Some second) = unknown
said_by_row (Some (map_table t default)) (first, None) = unknown
said_by_row (Some (map_table t default)) (first, Some second) = map_row t (range first) (decimal_number second)
said_by_row (Some (names_table t)) (first, None) = unknown
said_by_row (Some (names_table t)) (first, Some second) = names_row t (decimal_number first) second
said_by_row (Some (long_table t)) (first, None) = unknown
said_by_row (Some (long_table t)) (first, Some second) = long_row t (decimal_number first) second
said_by_row (Some (short_table t)) (first, None) = unknown
said_by_row (Some (short_table t)) (first, Some second) = short_row t (decimal_number first) second
said_by_row (Some (emoji_table t)) (first, None) = said_by_emoji t first (braced first)
said_by_row (Some (emoji_table t)) (first, Some second) = unknown
said_by_row (Some (scx_table default)) (first, None) = unknown
said_by_row (Some (scx_table default)) (first, Some second) = scx_row (range first) (decimal_number second)
said_by_row (Some (ext_table i script)) (first, None) = ext_row (decimal_number first)
said_by_row (Some (ext_table i script)) (first, Some second) = unknown

-- behind `end` no line is a row
abbrev pub said : Above → Line → Said
said seen blank = nothing
said seen other = unknown
said seen closing = ending
said seen (header h) = said_by_header h
said seen (row r) = if seen.closed then unknown else said_by_row seen.table r

-- UnknownLine: it is none of a header, a lone `end` and a row
abbrev pub is_unknown : Above → Said → Bool
is_unknown seen unknown = true
is_unknown seen s = false

-- UnknownTable: the header names no table of its kind
abbrev pub has_no_table : Above → Said → Bool
has_no_table seen (set_begins t) = is_none t
has_no_table seen (map_begins t n) = is_none t
has_no_table seen (names_begin t) = is_none t
has_no_table seen (long_begins t) = is_none t
has_no_table seen (short_begins t) = is_none t
has_no_table seen (emoji_begins t) = is_none t
has_no_table seen s = false

abbrev pub is_there : {A : Type 0} → (ℕ → Option A) → Option ℕ → Bool
is_there tables None = false
is_there tables (Some t) = is_some (tables t)

-- TableTwice: an earlier header has the same word and name, or an equal index; of `scx` there is one
abbrev pub is_twice : Above → Said → Bool
is_twice seen (set_begins t) = is_there seen.tables.sets t
is_twice seen (map_begins t n) = is_there seen.tables.maps t
is_twice seen (names_begin t) = is_there seen.tables.names t
is_twice seen (long_begins t) = is_there seen.tables.long t
is_twice seen (short_begins t) = is_there seen.tables.short t
is_twice seen (emoji_begins t) = is_there seen.tables.emoji t
is_twice seen (scx_begins n) = is_some seen.tables.scripts
is_twice seen (ext_begins i s) = is_there seen.tables.extensions i
is_twice seen s = false

abbrev pub is_script_misspelled : Option (Option ℕ) → Bool
is_script_misspelled None = false
is_script_misspelled (Some s) = is_none s

-- BadNumber: a number, a range or a string is not spelled as it must be, or a number of a string is a surrogate
abbrev pub is_misspelled : Above → Said → Bool
is_misspelled seen (map_begins t n) = is_none n
is_misspelled seen (set_row t r) = is_none r
is_misspelled seen (map_row t r n) = is_none r || is_none n
is_misspelled seen (names_row t n text) = is_none n
is_misspelled seen (long_row t n text) = is_none n
is_misspelled seen (short_row t n text) = is_none n
is_misspelled seen (emoji_range t r) = is_none r
is_misspelled seen (emoji_string t ns) = is_none ns
is_misspelled seen (scx_begins n) = is_none n
is_misspelled seen (ext_begins i s) = is_none i || is_script_misspelled s
is_misspelled seen (scx_row r n) = is_none r || is_none n
is_misspelled seen (ext_row n) = is_none n
is_misspelled seen s = false

abbrev pub ends_past_all : Option (ℕ × ℕ) → Bool
ends_past_all None = false
ends_past_all (Some r) = nat_lt 0x10_FFFF (max r.0 r.1)

abbrev pub has_past_all : Option (List ℕ) → Bool
has_past_all None = false
has_past_all (Some ns) = list_any (nat_lt 0x10_FFFF) ns

abbrev pub is_past_lists : Option ℕ → Bool
is_past_lists None = false
is_past_lists (Some i) = nat_lt 1023 i

-- TooLarge: a code point is above 10FFFF, or an index above 1023
abbrev pub is_too_large : Above → Said → Bool
is_too_large seen (set_row t r) = ends_past_all r
is_too_large seen (map_row t r n) = ends_past_all r
is_too_large seen (emoji_range t r) = ends_past_all r
is_too_large seen (emoji_string t ns) = has_past_all ns
is_too_large seen (ext_begins i s) = is_past_lists i
is_too_large seen (scx_row r n) = ends_past_all r
is_too_large seen s = false

abbrev pub is_disordered : Option ℕ → Option (ℕ × ℕ) → Bool
is_disordered last None = false
is_disordered last (Some r) = nat_lt r.1 r.0 || is_not_above last r.0

-- RangeOrder: a range's first is above its last, or not above the last of the range before it in this table
abbrev pub is_out_of_order : Above → Said → Bool
is_out_of_order seen (set_row t r) = is_disordered seen.last r
is_out_of_order seen (map_row t r n) = is_disordered seen.last r
is_out_of_order seen (emoji_range t r) = is_disordered seen.last r
is_out_of_order seen (scx_row r n) = is_disordered seen.last r
is_out_of_order seen s = false

abbrev pub is_refused : (ℕ → Bool) → Option ℕ → Bool
is_refused takes None = false
is_refused takes (Some n) = not (takes n)

abbrev pub refuses_default : Option ℕ → Option ℕ → Bool
refuses_default None n = false
refuses_default (Some t) n = is_refused (accepts_value t) n

abbrev pub is_script_refused : Option (Option ℕ) → Bool
is_script_refused None = false
is_script_refused (Some s) = is_refused (accepts_value script_table) s

-- ValueOutOfType: the property of the table takes no such number, which is that of scripts (4) where extensions are told
abbrev pub is_out_of_type : Above → Said → Bool
is_out_of_type seen (map_begins t n) = refuses_default t n
is_out_of_type seen (map_row t r n) = is_refused (accepts_value t) n
is_out_of_type seen (names_row t n text) = is_refused (accepts_name t) n
is_out_of_type seen (long_row t n text) = is_refused (accepts_value t) n
is_out_of_type seen (short_row t n text) = is_refused (accepts_value t) n
is_out_of_type seen (scx_begins n) = is_refused (accepts_value script_table) n
is_out_of_type seen (ext_begins i s) = is_script_refused s
is_out_of_type seen (scx_row r n) = is_refused (accepts_value script_table) n
is_out_of_type seen (ext_row n) = is_refused (accepts_value script_table) n
is_out_of_type seen s = false

-- BadName: the name has another character, or is no four letters where it must be
abbrev pub has_bad_name : Above → Said → Bool
has_bad_name seen (names_row t n text) = not (is_name text)
has_bad_name seen (long_row t n text) = is_none (kept_of false text)
has_bad_name seen (short_row t n text) = is_none (kept_of (is_subtags t) text)
has_bad_name seen s = false

abbrev pub is_named : Option (ℕ → Option (List ℕ)) → Option ℕ → Bool
is_named texts None = false
is_named texts (Some n) = is_some (unwrap_or texts no_text n)

-- NamesClash: among names an earlier row has another value for a name that folds alike; else an earlier row has the same value
abbrev pub is_clash : Above → Said → Bool
is_clash seen (names_row t None text) = false
is_clash seen (names_row t (Some n) text) = clashes (unwrap_or (seen.tables.names t) []) text n
is_clash seen (long_row t n text) = is_named (seen.tables.long t) n
is_clash seen (short_row t n text) = is_named (seen.tables.short t) n
is_clash seen s = false

-- SyntaxAscii: a syntax table holds an ASCII character that it must not hold
abbrev pub holds_syntax : Above → Said → Bool
holds_syntax seen (set_row t None) = false
holds_syntax seen (set_row t (Some r)) = list_any (overlaps r) (forbidden t)
holds_syntax seen s = false

abbrev pub is_not_above_last : Option ℕ → Option ℕ → Bool
is_not_above_last last None = false
is_not_above_last last (Some n) = is_not_above last n

-- ExtensionOrder: a script of an extension list is not above the one in the row before it
abbrev pub is_unordered : Above → Said → Bool
is_unordered seen (ext_row n) = is_not_above_last seen.last n
is_unordered seen s = false

-- StringOfOne: a string has one character
abbrev pub is_of_one : Above → Said → Bool
is_of_one seen (emoji_string t None) = false
is_of_one seen (emoji_string t (Some ns)) = is_one ns
is_of_one seen s = false

-- StringTwice: an earlier row of this table is the same string
abbrev pub is_said_twice : Above → Said → Bool
is_said_twice seen (emoji_string t None) = false
is_said_twice seen (emoji_string t (Some ns)) = (unwrap_or (seen.tables.emoji t) no_emoji).strings (text_of_numbers ns)
is_said_twice seen s = false

-- ExtensionMissing: at `end`, a number of the scripts with extensions has no list of its kind at its index
abbrev pub is_missing : Above → Said → Bool
is_missing seen ending = lacks_some_list seen.tables
is_missing seen s = false

-- AfterEnd: a header or `end` stands behind `end`
abbrev pub is_after_end : Above → Said → Bool
is_after_end seen ending = seen.closed
is_after_end seen (set_begins t) = seen.closed
is_after_end seen (map_begins t n) = seen.closed
is_after_end seen (names_begin t) = seen.closed
is_after_end seen (long_begins t) = seen.closed
is_after_end seen (short_begins t) = seen.closed
is_after_end seen (emoji_begins t) = seen.closed
is_after_end seen (scx_begins n) = seen.closed
is_after_end seen (ext_begins i s) = seen.closed
is_after_end seen s = false

-- the tests in their order
abbrev pub tests : List ((Above → Said → Bool) × TableErrorKind)
tests =
    (is_unknown, UnknownLine)
    ∷ (has_no_table, UnknownTable)
    ∷ (is_twice, TableTwice)
    ∷ (is_misspelled, BadNumber)
    ∷ (is_too_large, TooLarge)
    ∷ (is_out_of_order, RangeOrder)
    ∷ (is_out_of_type, ValueOutOfType)
    ∷ (has_bad_name, BadName)
    ∷ (is_clash, NamesClash)
    ∷ (holds_syntax, SyntaxAscii)
    ∷ (is_unordered, ExtensionOrder)
    ∷ (is_of_one, StringOfOne)
    ∷ (is_said_twice, StringTwice)
    ∷ (is_missing, ExtensionMissing)
    ∷ (is_after_end, AfterEnd)
    ∷ []

-- the kind of the first test that fails
abbrev pub first_failing : Above → Said → List ((Above → Said → Bool) × TableErrorKind) → Option TableErrorKind
first_failing seen s [] = None
first_failing seen s (t ∷ ts) = if t.0 seen s then Some t.1 else first_failing seen s ts

abbrev pub fault_of_line : Above → Line → Option TableErrorKind
fault_of_line seen l = first_failing seen (said seen l) tests
