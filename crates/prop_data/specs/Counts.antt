-- How many tables of each kind there are.
use Rattle.std.specs.Prelude.{ℕ, zero, suc, ◌+◌, Bool, is_some, if◌then◌else◌}
use Rattle.prop_data.specs.declared.table.TableKind.{TableKind}
use Rattle.prop_data.specs.declared.table.TableKind.TheVariants.{Set, Map, Names, Long, Short, Scripts, Extensions, Emoji}
use Rattle.prop_data.specs.Tables.{Tables}

-- The numbers of the tables of a kind are below this one: 69 sets, 18 maps and tables of names, 1024 lists, and one table of the others.
abbrev pub table_bound : TableKind → ℕ
table_bound Set = 69
table_bound Map = 18
table_bound Names = 18
table_bound Long = 18
table_bound Short = 18
table_bound Scripts = 1
table_bound Extensions = 1024
table_bound Emoji = 1

-- there is a table of the kind with this number
abbrev pub is_table : TableKind → Tables → ℕ → Bool
is_table Set tables n = is_some (tables.sets n)
is_table Map tables n = is_some (tables.maps n)
is_table Names tables n = is_some (tables.names n)
is_table Long tables n = is_some (tables.long n)
is_table Short tables n = is_some (tables.short n)
is_table Scripts tables n = is_some tables.scripts
is_table Extensions tables n = is_some (tables.extensions n)
is_table Emoji tables n = is_some (tables.emoji n)

abbrev pub one_if : Bool → ℕ
one_if there = if there then 1 else 0

-- how many of the numbers below this one pass the test
unfoldable pub count_below : ℕ → (ℕ → Bool) → ℕ
count_below zero test = 0
count_below (suc n) test = count_below n test + one_if (test n)

-- how many tables of the kind there are
abbrev pub table_count : TableKind → Tables → ℕ
table_count kind tables = count_below (table_bound kind) (is_table kind tables)
