-- What the types of scripts hold.
use Rattle.std.specs.Prelude.{ℕ, List, ◌++◌}
use Rattle.std.specs.Option.{option_to_list}
use Rattle.prop_data.specs.declared.scripts.ScriptWithExtensionsProperty.{ScriptWithExtensionsProperty}
use Rattle.prop_query.specs.declared.script.ScriptWithExtensions.{ScriptWithExtensions}
use Rattle.prop_query.specs.declared.script.ScriptWithExtensionsBorrowed.{ScriptWithExtensionsBorrowed}
use Rattle.prop_query.specs.declared.script.extensions.ScriptExtensionsSet.{ScriptExtensionsSet}

-- the scripts of a set, in order: a single one, or those of a list
abbrev pub scripts_in : ScriptExtensionsSet → List ℕ
scripts_in set = option_to_list set.single ++ set.list.now

-- the table that is asked
abbrev pub table_of : ScriptWithExtensionsBorrowed → ScriptWithExtensionsProperty
table_of scripts = scripts.property.now

-- the copy of a table that is kept
abbrev pub table_owned : ScriptWithExtensions → ScriptWithExtensionsProperty
table_owned scripts = scripts.property
