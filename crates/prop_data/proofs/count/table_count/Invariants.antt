use Rattle.std.proofs.Common.{◌≡◌, ◌≤◌}
use Rattle.prop_data.specs.Counts.{is_table, count_below}
use Rattle.prop_data.specs.Database.{tables_of}
use Rattle.prop_data.proofs.count.table_count.Given as goal

abbrev pub invariant-loop-number : goal.invariant-loop-number
invariant-loop-number l = (l.count ≤ l.number) × (l.count ≡ count_below l.number (is_table l.kind (tables_of l.database)))
