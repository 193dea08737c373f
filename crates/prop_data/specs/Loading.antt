-- What the loader keeps of the lines that it has read, and what a line makes of it.
use Rattle.std.specs.Prelude.{◌≡◌, ℕ, Bool, true, false, ◌||◌, nat_eq, nat_lt, List, [], ◌∷◌, ◌++◌, Option, Some, None, is_some, option_map, Result, Ok, Err, if◌then◌else◌}
use Rattle.std.specs.Option.{option_copied, option_or}
use Rattle.cp_invlist.specs.InversionList.{contains}
use Rattle.cp_trie.specs.Runs.{value_in}
use Rattle.prop_names.specs.Names.{with_name}
use Rattle.prop_names.specs.ValueNameTables.{name_at}
use Rattle.prop_values.specs.Tables.{default_number, script_table}
use Rattle.prop_data.specs.declared.database.PropertyDatabase.{PropertyDatabase}
use Rattle.prop_data.specs.declared.line.Header.{Header as CodeHeader}
use Rattle.prop_data.specs.declared.line.Header.TheVariants.{Set as SetHeader, Map as MapHeader, Names as NamesHeader, Texts as TextsHeader, Emoji as EmojiHeader, Scripts as ScxHeader, Extensions as ExtHeader}
use Rattle.prop_data.specs.declared.line.Row.{Row as CodeRow}
use Rattle.prop_data.specs.declared.line.Line.{Line as CodeLine}
use Rattle.prop_data.specs.declared.line.Line.TheVariants.{Blank, Header as HeaderLine, Row as RowLine, Closing, Other}
use Rattle.prop_data.specs.declared.error.LoadError.{LoadError}
use Rattle.prop_data.specs.declared.error.LoadError.TheVariants.{Table as TableFault, NoMemory as OutOfMemory}
use Rattle.prop_data.specs.declared.error.LineError.{LineError}
use Rattle.prop_data.specs.declared.error.LineError.TheVariants.{Fault, NoMemory}
use Rattle.prop_data.specs.declared.error.TableErrorKind.{TableErrorKind}
use Rattle.prop_data.specs.declared.load.Loader.{Loader}
use Rattle.prop_data.specs.declared.load.Section.{Section}
use Rattle.prop_data.specs.declared.load.Section.TheVariants.{Front, Table as InTable, Behind}
use Rattle.prop_data.specs.declared.load.OpenTable.{OpenTable}
use Rattle.prop_data.specs.declared.load.OpenTable.TheVariants.{Set, Map, Names, Texts, Emoji, Scripts, List as Listed}
use Rattle.prop_data.specs.declared.load.texts.Length.{Length}
use Rattle.prop_data.specs.declared.load.texts.Length.TheVariants.{Long, Short}
use Rattle.prop_data.specs.declared.load.emoji.OpenEmoji.{OpenEmoji}
use Rattle.prop_data.specs.declared.load.extensions.OpenList.{OpenList}
use Rattle.prop_data.specs.declared.load.map.OpenMap.{OpenMap}
use Rattle.prop_data.specs.declared.load.scripts.OpenScripts.{OpenScripts}
use Rattle.std.specs.BTreeSet.{contains_text}
use Rattle.prop_data.specs.Database.{tables_of}
use Rattle.prop_data.specs.Headers.{Table, set_table, map_table, names_table, long_table, short_table, emoji_table, scx_table, ext_table, ext_of, table_of}
use Rattle.prop_data.specs.Line.{Header, set_header, map_header, names_header, long_header, short_header, emoji_header, scx_header, ext_header, Row, Line, blank, header, row, closing, other}
use Rattle.prop_data.specs.Numbers.{range, decimal_number}
use Rattle.prop_data.specs.Rows.{holds, last_behind, value_of, text_of, value_outside, as_kept, is_subtags, first_scripts}
use Rattle.prop_data.specs.Strings.{is_text, string_in, range_in}
use Rattle.prop_data.specs.Changes.{with_set, with_map, with_names, with_texts, with_emoji, with_scripts, with_list}
use Rattle.prop_data.specs.Tables.{EmojiMembers, ScriptNumbers, ExtensionList, Tables}
use Rattle.prop_data.specs.LineFault.{Above, line_fault, header_fault, row_fault, index_fault, no_text, no_emoji}
use Rattle.prop_data.specs.TableText.{at_line}

-- the header of a table of names of this length
abbrev pub texts_header : Length → List ℕ → Header
texts_header Long name = long_header name
texts_header Short name = short_header name

abbrev pub header_seen : CodeHeader → Header
header_seen (SetHeader name) = set_header name.now
header_seen (MapHeader name default) = map_header name.now default.now
header_seen (NamesHeader name) = names_header name.now
header_seen (TextsHeader length name) = texts_header length name.now
header_seen (EmojiHeader name) = emoji_header name.now
header_seen (ScxHeader default) = scx_header default.now
header_seen (ExtHeader index script) = ext_header index.now (option_copied script)

abbrev pub row_seen : CodeRow → Row
row_seen r = (r.first.now, option_copied r.second)

-- a line as the code keeps it
abbrev pub line_seen : CodeLine → Line
line_seen Blank = blank
line_seen (HeaderLine h) = header (header_seen h)
line_seen (RowLine r) = row (row_seen r)
line_seen Closing = closing
line_seen Other = other

-- the values of a map whose rows are being read
abbrev pub values_of : OpenMap → ℕ → ℕ
values_of o c = if nat_lt 0x10_FFFF c then default_number o.table else value_in o.builder.runs.items o.builder.default c

-- a table of names of this length
abbrev pub table_of_length : Length → ℕ → Table
table_of_length Long t = long_table t
table_of_length Short t = short_table t

-- the table that is open
abbrev pub table_seen : OpenTable → Table
table_seen (Set o) = set_table o.table
table_seen (Map o) = map_table o.table o.builder.default
table_seen (Names o) = names_table o.table
table_seen (Texts o) = table_of_length o.length o.table
table_seen (Emoji o) = emoji_table o.table
table_seen (Scripts o) = scx_table o.builder.default
table_seen (Listed o) = ext_table o.index o.script

-- the last code point of its row above, or the script of a row of an extension list
abbrev pub last_seen : OpenTable → Option ℕ
last_seen (Set o) = o.last
last_seen (Map o) = o.builder.last
last_seen (Names o) = None
last_seen (Texts o) = None
last_seen (Emoji o) = o.last
last_seen (Scripts o) = o.builder.last
last_seen (Listed o) = o.last

-- the members of an emoji table whose rows are being read
abbrev pub emoji_read : OpenEmoji → EmojiMembers
emoji_read o = record { code_points = contains o.builder; strings = contains_text o.strings }

-- the scripts with extensions whose rows are being read
abbrev pub scripts_read : OpenScripts → ScriptNumbers
scripts_read o = record {
  values = λ c. if nat_lt 0x10_FFFF c then default_number script_table else value_in o.builder.runs.items o.builder.default c;
  named = o.named.items;
}

-- the extension list whose rows are being read
abbrev pub list_read : OpenList → ExtensionList
list_read o = record { has_script = is_some o.script; scripts = o.scripts.items }

-- the tables with the open one
abbrev pub tables_with : OpenTable → Tables → Tables
tables_with (Set o) tables = with_set o.table (contains o.builder) tables
tables_with (Map o) tables = with_map o.table (values_of o) tables
tables_with (Names o) tables = with_names o.table o.builder tables
tables_with (Texts o) tables = with_texts o.length o.table (name_at o.texts) tables
tables_with (Emoji o) tables = with_emoji o.table (emoji_read o) tables
tables_with (Scripts o) tables = with_scripts (scripts_read o) tables
tables_with (Listed o) tables = with_list o.index (list_read o) tables

-- what the loader keeps of the lines above, where it stands in this section below these tables
abbrev pub kept_in : Section → Tables → Above
kept_in Front tables = record { closed = false; table = None; last = None; tables = tables }
kept_in (InTable o) tables =
    record { closed = false; table = Some (table_seen o); last = last_seen o; tables = tables_with o tables }
kept_in Behind tables = record { closed = true; table = None; last = None; tables = tables }

-- what the loader keeps of the lines above
abbrev pub kept : Loader → Above
kept l = kept_in l.section (tables_of l.database)

-- the error of the line with this number
abbrev pub error_at : ℕ → LineError → LoadError
error_at n (Fault kind) = TableFault (at_line n kind)
error_at n NoMemory = OutOfMemory

-- the same tables, and one without rows
abbrev pub tables_begun : Option Table → Tables → Tables
tables_begun None tables = tables
tables_begun (Some (set_table n)) tables = with_set n (λ c. false) tables
tables_begun (Some (map_table n default)) tables = with_map n (value_outside n default) tables
tables_begun (Some (names_table n)) tables = with_names n [] tables
tables_begun (Some (long_table n)) tables = with_texts Long n no_text tables
tables_begun (Some (short_table n)) tables = with_texts Short n no_text tables
tables_begun (Some (emoji_table n)) tables = with_emoji n no_emoji tables
tables_begun (Some (scx_table default)) tables =
    with_scripts (record { values = value_outside script_table default; named = default ∷ [] }) tables
tables_begun (Some (ext_table n script)) tables =
    with_list n (record { has_script = is_some script; scripts = first_scripts script }) tables

-- the names with one more
abbrev pub with_text : Bool → Row → (ℕ → Option (List ℕ)) → ℕ → Option (List ℕ)
with_text is_subtag r texts n =
    if nat_eq (value_of (Some r.0)) n then Some (as_kept is_subtag (text_of r.1)) else texts n

-- the members with those of one more row
abbrev pub emoji_with : Row → EmojiMembers → EmojiMembers
emoji_with r members = record {
  code_points = λ c. members.code_points c || holds (range_in r.0) c;
  strings = λ bytes. members.strings bytes || is_text (string_in r.0) bytes;
}

-- the numbers with that of one more row
abbrev pub numbers_with : Row → ScriptNumbers → ScriptNumbers
numbers_with r numbers = record {
  values = λ c. if holds (range r.0) c then value_of r.1 else numbers.values c;
  named = numbers.named ++ value_of r.1 ∷ [];
}

-- the list with the script of one more row
abbrev pub list_with : Row → ExtensionList → ExtensionList
list_with r list = record list { scripts = list.scripts ++ value_of (Some r.0) ∷ [] }

-- the same tables, and a row in one of them
abbrev pub tables_grown : Option Table → Row → Tables → Tables
tables_grown None r tables = tables
tables_grown (Some (set_table n)) r tables = record tables {
  sets = λ t. if nat_eq n t then option_map (λ members c. members c || holds (range r.0) c) (tables.sets t)
      else tables.sets t;
}
tables_grown (Some (map_table n default)) r tables = record tables {
  maps = λ t. if nat_eq n t
      then option_map (λ values c. if holds (range r.0) c then value_of r.1 else values c) (tables.maps t)
      else tables.maps t;
}
tables_grown (Some (names_table n)) r tables = record tables {
  names = λ t. if nat_eq n t
      then option_map (λ names. with_name names (text_of r.1) (value_of (Some r.0))) (tables.names t)
      else tables.names t;
}
tables_grown (Some (long_table n)) r tables = record tables {
  long = λ t. if nat_eq n t then option_map (with_text false r) (tables.long t) else tables.long t;
}
tables_grown (Some (short_table n)) r tables = record tables {
  short = λ t. if nat_eq n t then option_map (with_text (is_subtags n) r) (tables.short t) else tables.short t;
}
tables_grown (Some (emoji_table n)) r tables = record tables {
  emoji = λ t. if nat_eq n t then option_map (emoji_with r) (tables.emoji t) else tables.emoji t;
}
tables_grown (Some (scx_table default)) r tables =
    record tables { scripts = option_map (numbers_with r) tables.scripts }
tables_grown (Some (ext_table n script)) r tables = record tables {
  extensions = λ t. if nat_eq n t then option_map (list_with r) (tables.extensions t) else tables.extensions t;
}

-- the last code point of a row that is a range, behind that of the rows above it
abbrev pub last_after : Option Table → Row → Option ℕ → Option ℕ
last_after None r last = None
last_after (Some t) r last = last_behind t r last

-- what a line without a fault makes of what stands above the next one
abbrev pub after : Above → Line → Above
after a blank = a
after a other = a
after a closing = record { closed = true; table = None; last = None; tables = a.tables }
after a (header h) =
    record { closed = a.closed; table = table_of h; last = None; tables = tables_begun (table_of h) a.tables }
after a (row r) = record a { last = last_after a.table r a.last; tables = tables_grown a.table r a.tables }

-- A line was taken, or its fault was told, or memory was refused.
abbrev pub Takes : Above → Line → Result (Unit {0}) LineError → Above → Type 0
Takes old line (Ok _) new = (line_fault old line ≡ None) × (new ≡ after old line)
Takes old line (Err (Fault kind)) new = line_fault old line ≡ Some kind
Takes old line (Err NoMemory) new = Unit {0}

-- an open table has no row yet
abbrev pub IsNew : OpenTable → Type 0
IsNew (Set o) = (o.builder ≡ []) × (o.last ≡ None)
IsNew (Map o) = (o.builder.runs.items ≡ []) × (o.builder.last ≡ None)
IsNew (Names o) = o.builder ≡ []
IsNew (Texts o) = (n : ℕ) → name_at o.texts n ≡ None
IsNew (Scripts o) = (o.builder.runs.items ≡ []) × (o.builder.last ≡ None) × (o.named.items ≡ o.builder.default ∷ [])
IsNew (Listed o) = (o.scripts.items ≡ first_scripts o.script) × (o.last ≡ None)
IsNew (Emoji o) = (o.builder ≡ []) × (o.last ≡ None) × ((bytes : List ℕ) → contains_text o.strings bytes ≡ false)

-- A table was begun, or the fault of its header was told, or memory was refused.
abbrev pub Begins : Tables → Header → Result OpenTable LineError → Type 0
Begins tables h (Ok o) = (header_fault tables h ≡ None) × (table_of h ≡ Some (table_seen o)) × IsNew o
Begins tables h (Err (Fault kind)) = header_fault tables h ≡ Some kind
Begins tables h (Err NoMemory) = Unit {0}

-- An open table beside others took a row, or the row's fault was told, or memory was refused.
abbrev pub TakesRow : OpenTable → Row → Result (Unit {0}) LineError → OpenTable → Type 0
TakesRow old r (Ok _) new =
    ((tables : Tables) → row_fault (tables_with old tables) (Some (table_seen old)) (last_seen old) r ≡ None)
    × (table_seen new ≡ table_seen old)
    × (last_seen new ≡ last_after (Some (table_seen old)) r (last_seen old))
    × ((tables : Tables) →
    tables_with new tables ≡ tables_grown (Some (table_seen old)) r (tables_with old tables))
TakesRow old r (Err (Fault kind)) new =
    (tables : Tables) →
    row_fault (tables_with old tables) (Some (table_seen old)) (last_seen old) r ≡ Some kind
TakesRow old r (Err NoMemory) new = Unit {0}

-- An open emoji table took a row that has this fault, or spells this range or this text, or the fault was told, or memory was refused.
abbrev pub TakesEmoji : OpenEmoji → Option TableErrorKind → Option (ℕ × ℕ) → Option (List ℕ) →
    Result (Unit {0}) LineError → OpenEmoji → Type 0
TakesEmoji old found r text (Ok _) new =
    (found ≡ None)
    × (new.table ≡ old.table)
    × (new.last ≡ option_or (option_map (λ range. range.1) r) old.last)
    × ((c : ℕ) → contains new.builder c ≡ (contains old.builder c || holds r c))
    × ((bytes : List ℕ) → contains_text new.strings bytes ≡ (contains_text old.strings bytes || is_text text bytes))
TakesEmoji old found r text (Err (Fault kind)) new = found ≡ Some kind
TakesEmoji old found r text (Err NoMemory) new = Unit {0}

-- the script of a header with this index, or the first test that both fail
abbrev pub IsListed : ℕ → Option (List ℕ) → Result (Option ℕ) TableErrorKind → Type 0
IsListed i script (Ok s) =
    (index_fault i (option_map decimal_number script) ≡ None) × (ext_of script i ≡ Some (ext_table i s))
IsListed i script (Err kind) = index_fault i (option_map decimal_number script) ≡ Some kind

-- the open table was moved into the database
abbrev pub TakesFinished : OpenTable → PropertyDatabase → PropertyDatabase → Type 0
TakesFinished o old new = tables_of new ≡ tables_with o (tables_of old)
