-- What a row of names says.
use Rattle.std.specs.Prelude.{ℕ, Bool, List}
use Rattle.prop_binary.specs.declared.names.PropertyNames.{PropertyNames}

-- the long name, the short name, and whether ECMA-262 has the property
abbrev pub names_of : PropertyNames → List ℕ × List ℕ × Bool
names_of row = (row.long.now, row.short.now, row.in_ecma262)
