-- The name of each number in the tables that find the name of a value.
use Rattle.std.specs.Prelude.{ℕ, List, Option, map}
use Rattle.std.specs.String.{string_bytes}
use Rattle.prop_names.specs.ByNumber.{text_at}
use Rattle.prop_names.specs.ValueNames.{listed_at}
use Rattle.prop_names.specs.declared.by_number.NamesByNumber.{NamesByNumber}
use Rattle.prop_names.specs.declared.value_names.LinearNames.{LinearNames}
use Rattle.prop_names.specs.declared.value_names.LinearNames.TheVariants.{Listed, Ordered}
use Rattle.prop_names.specs.declared.value_names.PropertyEnumToValueNameLinearMap.{PropertyEnumToValueNameLinearMap}
use Rattle.prop_names.specs.declared.value_names.PropertyEnumToValueNameSparseMap.{PropertyEnumToValueNameSparseMap}
use Rattle.prop_names.specs.declared.value_names.PropertyScriptToIcuScriptMap.{PropertyScriptToIcuScriptMap}

-- the name of a number
abbrev pub name_at : NamesByNumber → ℕ → Option (List ℕ)
name_at names n = text_at names.names n

abbrev pub linear_at : LinearNames → ℕ → Option (List ℕ)
linear_at (Listed names) n = listed_at (map string_bytes names.items) n
linear_at (Ordered names) n = name_at names n

abbrev pub linear_text : PropertyEnumToValueNameLinearMap → ℕ → Option (List ℕ)
linear_text table n = linear_at table.names n

abbrev pub sparse_text : PropertyEnumToValueNameSparseMap → ℕ → Option (List ℕ)
sparse_text table n = name_at table.names n

-- the text of a script's subtag
abbrev pub subtag_text : PropertyScriptToIcuScriptMap → ℕ → Option (List ℕ)
subtag_text table n = name_at table.subtags n
