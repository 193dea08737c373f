-- How many tables a table text has, as text.
use Rattle.std.specs.Prelude.{ℕ, List, ◌++◌, codes, decimal}
use Rattle.std.specs.List.{flat_map}
use Rattle.prop_data.specs.declared.table.TableKind.{TableKind}
use Rattle.prop_data.specs.Counts.{table_count}
use Rattle.prop_data.specs.TableKind.{kinds, kind_word}
use Rattle.prop_data.specs.Tables.{Tables}

-- the word, and the number of the tables of the kind
abbrev pub count_line : Tables → TableKind → List ℕ
count_line tables kind = kind_word kind ++ (codes " " ++ (decimal (table_count kind tables) ++ codes "\n"))

-- a line for each kind
abbrev pub counts_text : Tables → List ℕ
counts_text tables = flat_map (count_line tables) kinds
