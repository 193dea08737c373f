-- The tables that a database holds.
use Rattle.std.specs.Prelude.{◌≡◌, ℕ, nat_eq, List, Option, None, Some, option_map, if◌then◌else◌}
use Rattle.std.specs.Ordering.{nat_cmp}
use Rattle.std.specs.BTreeMap.{get}
use Rattle.cp_invlist.specs.InversionList.{contains}
use Rattle.cp_trie.specs.Map.{CodePointMap, value_at}
use Rattle.prop_names.specs.Names.{Names}
use Rattle.prop_names.specs.ValueNameTables.{linear_text, sparse_text, subtag_text}
use Rattle.prop_data.specs.declared.database.PropertyDatabase.{PropertyDatabase}
use Rattle.prop_data.specs.declared.error.LoadError.{LoadError}
use Rattle.prop_data.specs.declared.error.LoadError.TheVariants.{Table, NoMemory}
use Rattle.cp_strset.specs.StringSet.{StringSet}
use Rattle.cp_strset.specs.StringList.{holds}
use Rattle.prop_data.specs.Tables.{EmojiMembers, ExtensionList, ScriptNumbers, Tables}
use Rattle.prop_data.specs.Extensions.{list_in, list_of, scripts_map}
use Rattle.prop_data.specs.declared.load.texts.Length.{Length}
use Rattle.prop_data.specs.declared.load.texts.Length.TheVariants.{Long, Short}
use Rattle.prop_data.specs.declared.scripts.ScriptTable.{ScriptTable}
use Rattle.prop_data.specs.declared.scripts.ScriptWithExtensionsProperty.{ScriptWithExtensionsProperty}
use Rattle.prop_data.specs.TableText.{table_fault}
use Rattle.prop_values.specs.Tables.{script_table, combining_class_table}

-- the inversion list of a set table, by the table's number
abbrev pub set_of : PropertyDatabase → ℕ → Option (List ℕ)
set_of database t = get nat_cmp database.sets t

-- the map of a map table, by the table's number
abbrev pub map_of : PropertyDatabase → ℕ → Option (CodePointMap ℕ)
map_of database t = get nat_cmp database.maps t

-- the names of a table of names, by the table's number
abbrev pub names_of : PropertyDatabase → ℕ → Option Names
names_of database t = get nat_cmp database.names t

-- the long names of a property's values by their numbers, by the table's number: those of combining classes are kept apart
abbrev pub long_of : PropertyDatabase → ℕ → Option (ℕ → Option (List ℕ))
long_of database t =
    if nat_eq t combining_class_table then option_map sparse_text database.long_ccc
    else option_map linear_text (get nat_cmp database.long_linear t)

-- the short names: those of scripts are kept apart too
abbrev pub short_of : PropertyDatabase → ℕ → Option (ℕ → Option (List ℕ))
short_of database t =
    if nat_eq t combining_class_table then option_map sparse_text database.short_ccc
    else if nat_eq t script_table then option_map subtag_text database.short_script
    else option_map linear_text (get nat_cmp database.short_linear t)

-- the names of this length
abbrev pub texts_of : PropertyDatabase → Length → ℕ → Option (ℕ → Option (List ℕ))
texts_of database Long t = long_of database t
texts_of database Short t = short_of database t

-- the emoji set of an emoji table, by the table's number
abbrev pub emoji_of : PropertyDatabase → ℕ → Option StringSet
emoji_of database t = get nat_cmp database.emoji t

-- an emoji set by its members
abbrev pub emoji_seen : StringSet → EmojiMembers
emoji_seen set = record { code_points = contains set.code_points; strings = holds set.strings }

-- the scripts with extensions
abbrev pub scripts_of : PropertyDatabase → Option ScriptWithExtensionsProperty
scripts_of database = option_map (λ s. s.property) database.scripts

abbrev pub numbers_seen : ScriptTable → ScriptNumbers
numbers_seen s = record { values = value_at (scripts_map s.property); named = s.named.items }

-- the lists where no scripts with extensions are there, and those beside these
abbrev pub lists_beside : Option ScriptTable → (ℕ → Option ExtensionList) → ℕ → Option ExtensionList
lists_beside None lists n = lists n
lists_beside (Some s) lists n = list_of s.property n

-- the extension list at each index
abbrev pub list_at : PropertyDatabase → ℕ → Option ExtensionList
list_at database n = lists_beside database.scripts (list_in database.lists) n

-- the tables of a database: sets by their members, maps by their values
abbrev pub tables_of : PropertyDatabase → Tables
tables_of database = record {
  sets = λ t. option_map contains (set_of database t);
  maps = λ t. option_map value_at (map_of database t);
  names = λ t. names_of database t;
  long = λ t. long_of database t;
  short = λ t. short_of database t;
  emoji = λ t. option_map emoji_seen (emoji_of database t);
  scripts = option_map numbers_seen database.scripts;
  extensions = λ n. list_at database n;
}

-- the fault of the lines, where it is no want of memory
abbrev pub IsFault : List (List ℕ) → LoadError → Type 0
IsFault ls (Table fault) = table_fault ls ≡ Some fault
IsFault ls NoMemory = Unit {0}
