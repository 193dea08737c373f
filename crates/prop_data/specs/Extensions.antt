-- The scripts with extensions (UAX 24, section 2.8): a map, and lists of scripts by index.
use Rattle.std.specs.Prelude.{ℕ, Option, option_map}
use Rattle.std.specs.Ordering.{nat_cmp}
use Rattle.std.specs.BTreeMap.{BTreeMap, get}
use Rattle.cp_trie.specs.Map.{CodePointMap}
use Rattle.prop_data.specs.Tables.{ExtensionList}
use Rattle.prop_data.specs.declared.scripts.ListedScripts.{ListedScripts}
use Rattle.prop_data.specs.declared.scripts.ScriptWithExtensionsProperty.{ScriptWithExtensionsProperty}

abbrev pub list_seen : ListedScripts → ExtensionList
list_seen list = record { has_script = list.has_script; scripts = list.scripts.items }

abbrev pub list_in : BTreeMap ℕ ListedScripts → ℕ → Option ExtensionList
list_in lists n = option_map list_seen (get nat_cmp lists n)

-- the map from code points to the numbers of scripts with extensions
abbrev pub scripts_map : ScriptWithExtensionsProperty → CodePointMap ℕ
scripts_map property = property.trie

-- the extension list at an index
abbrev pub list_of : ScriptWithExtensionsProperty → ℕ → Option ExtensionList
list_of property n = list_in property.lists n
