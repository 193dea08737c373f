-- What the rows of a table mean, the nearest row first.
use Rattle.std.specs.Prelude.{ℕ, Bool, false, ◌||◌, ◌&&◌, nat_eq, nat_le, nat_lt, List, [], ◌∷◌, ◌++◌, Option, Some, None, is_some, unwrap_or, option_map, option_and_then, if◌then◌else◌}
use Rattle.std.specs.Option.{option_or}
use Rattle.prop_values.specs.Subtag.{in_subtag_case}
use Rattle.prop_values.specs.Tables.{default_number, script_table}
use Rattle.prop_names.specs.Names.{Names, with_name}
use Rattle.prop_data.specs.Headers.{Table, set_table, map_table, emoji_table, scx_table, ext_table}
use Rattle.prop_data.specs.Line.{Row}
use Rattle.prop_data.specs.Numbers.{range, decimal_number}
use Rattle.prop_data.specs.Strings.{is_text, string_in, range_in}
use Rattle.prop_data.specs.Tables.{EmojiMembers, ScriptNumbers, ExtensionList}

-- the range, where there is one, holds the number
abbrev pub holds : Option (ℕ × ℕ) → ℕ → Bool
holds None c = false
holds (Some r) c = nat_le r.0 c && nat_le c r.1

-- the last number of the range that a field spells
abbrev pub end_of : List ℕ → Option ℕ
end_of field = option_map (λ r. r.1) (range field)

-- What the next row of the table must be above: the last code point of a row, where rows are ranges, and the script of an extension
-- list. A string has no last code point, and then that of the row before it stands.
abbrev pub last_behind : Table → Row → Option ℕ → Option ℕ
last_behind (set_table n) r last = end_of r.0
last_behind (map_table n default) r last = end_of r.0
last_behind (emoji_table n) r last = option_or (option_map (λ range. range.1) (range_in r.0)) last
last_behind (scx_table default) r last = end_of r.0
last_behind (ext_table i script) r last = decimal_number r.0
last_behind t r last = None

-- what the next row of the table must be above
abbrev pub last_of : Table → List Row → Option ℕ
last_of t [] = None
last_of t (r ∷ rows) = last_behind t r (last_of t rows)

-- the members of a set: the numbers that a row holds
abbrev pub members : List Row → ℕ → Bool
members [] c = false
members (r ∷ rows) c = members rows c || holds (range r.0) c

-- the number that a field spells
abbrev pub value_of : Option (List ℕ) → ℕ
value_of field = unwrap_or (option_and_then decimal_number field) 0

-- the text that a field is
abbrev pub text_of : Option (List ℕ) → List ℕ
text_of field = unwrap_or field []

-- the value of a map where no row holds the number: the default of the header, and past the last code point that of the property
abbrev pub value_outside : ℕ → ℕ → ℕ → ℕ
value_outside table default c = if nat_lt 0x10_FFFF c then default_number table else default

-- the value of a map: that of the row that holds the number
abbrev pub value : ℕ → ℕ → List Row → ℕ → ℕ
value table default [] c = value_outside table default c
value table default (r ∷ rows) c = if holds (range r.0) c then value_of r.1 else value table default rows c

-- the names of a table of names: the second fields, each with the number that the first spells
abbrev pub names_in : List Row → Names
names_in [] = []
names_in (r ∷ rows) = with_name (names_in rows) (text_of r.1) (value_of (Some r.0))

-- how a name is kept: a script's short name as the subtag that its four letters spell (RFC 5646, section 2.1.1)
abbrev pub as_kept : Bool → List ℕ → List ℕ
as_kept is_subtag text = if is_subtag then in_subtag_case text else text

-- the name of each number: the second field of the row whose first field spells it
abbrev pub texts_in : Bool → List Row → ℕ → Option (List ℕ)
texts_in is_subtag [] n = None
texts_in is_subtag (r ∷ rows) n =
    if nat_eq (value_of (Some r.0)) n then Some (as_kept is_subtag (text_of r.1)) else texts_in is_subtag rows n

-- the short names of scripts are subtags
abbrev pub is_subtags : ℕ → Bool
is_subtags table = nat_eq table script_table

-- the code points of an emoji table: those that a range holds
abbrev pub emoji_code_points : List Row → ℕ → Bool
emoji_code_points [] c = false
emoji_code_points (r ∷ rows) c = emoji_code_points rows c || holds (range_in r.0) c

-- the strings of an emoji table
abbrev pub emoji_strings : List Row → List ℕ → Bool
emoji_strings [] bytes = false
emoji_strings (r ∷ rows) bytes = emoji_strings rows bytes || is_text (string_in r.0) bytes

abbrev pub emoji_members : List Row → EmojiMembers
emoji_members rows = record { code_points = emoji_code_points rows; strings = emoji_strings rows }

-- the numbers that the header and the rows of the scripts with extensions name
abbrev pub named_in : ℕ → List Row → List ℕ
named_in default [] = default ∷ []
named_in default (r ∷ rows) = named_in default rows ++ value_of r.1 ∷ []

-- the scripts with extensions: past the last code point the script Unknown, as in the table of scripts
abbrev pub script_numbers : ℕ → List Row → ScriptNumbers
script_numbers default rows = record { values = value script_table default rows; named = named_in default rows }

abbrev pub first_scripts : Option ℕ → List ℕ
first_scripts None = []
first_scripts (Some script) = script ∷ []

-- the script of the header, if it has one, and those of the rows
abbrev pub scripts_in : Option ℕ → List Row → List ℕ
scripts_in script [] = first_scripts script
scripts_in script (r ∷ rows) = scripts_in script rows ++ value_of (Some r.0) ∷ []

abbrev pub extension_list : Option ℕ → List Row → ExtensionList
extension_list script rows = record { has_script = is_some script; scripts = scripts_in script rows }
