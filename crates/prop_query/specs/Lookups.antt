-- What the calls that look up one answer in a database find in its tables.
use Rattle.std.specs.Prelude.{ℕ, List, Option, option_and_then, unwrap_or, codes}
use Rattle.prop_names.specs.Names.{Names, value_of_name, value_of_query}
use Rattle.prop_names.specs.ValueNames.{subtag_of}
use Rattle.prop_values.specs.Tables.{unknown_script}

-- the subtag of a script's short name, and that of unknown scripts (ISO 15924) for a script without one
abbrev pub subtag_or_unknown : Option (List ℕ) → List ℕ
subtag_or_unknown name = unwrap_or (option_and_then subtag_of name) (codes "Zzzz")

-- the number of the script with this name, and that of Unknown where none has it
abbrev pub script_or_unknown : Names → List ℕ → ℕ
script_or_unknown names subtag = unwrap_or (value_of_name names subtag) unknown_script

-- the value of the least name that folds as the query
abbrev pub value_loosely : {V : Type 0} → (ℕ → Option V) → List ℕ → Names → Option V
value_loosely unpacked query names = option_and_then unpacked (value_of_query names query)
