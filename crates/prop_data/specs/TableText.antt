-- The first fault of a table text, and the tables that it means.
use Rattle.std.specs.Prelude.{ℕ, ◌+◌, List, [], ◌∷◌, map, Option, Some, None, option_map, if◌then◌else◌}
use Rattle.std.specs.Option.{option_or}
use Rattle.text_lines.specs.Fields.{fields}
use Rattle.prop_data.specs.declared.error.TableErrorKind.{TableErrorKind}
use Rattle.prop_data.specs.declared.error.TableErrorKind.TheVariants.{NoEnd}
use Rattle.prop_data.specs.declared.error.TableError.{TableError}
use Rattle.prop_data.specs.Line.{Line, line_of}
use Rattle.prop_data.specs.LineFault.{above}
use Rattle.prop_data.specs.LinesAbove.{is_closed, tables_of_lines}
use Rattle.prop_data.specs.Tables.{Tables}
use Rattle.prop_data.specs.Tests.{fault_of_line}

abbrev pub at_line : ℕ → TableErrorKind → TableError
at_line n kind = record { line = n; kind = kind }

-- The first line that fails a test, with the first test that fails there: the lines above, the nearest first, the number of the
-- line that comes, and the lines to come.
abbrev pub first_fault : List Line → ℕ → List Line → Option TableError
first_fault ls n [] = if is_closed ls then None else Some (at_line n NoEnd)
first_fault ls n (l ∷ more) =
    option_or (option_map (at_line n) (fault_of_line (above ls) l)) (first_fault (l ∷ ls) (n + 1) more)

-- the lines laid on those above, so that the last comes first
abbrev pub laid_on : List Line → List Line → List Line
laid_on ls [] = ls
laid_on ls (l ∷ more) = laid_on (l ∷ ls) more

-- the lines of a text by their fields
abbrev pub lines_by_field : List (List ℕ) → List Line
lines_by_field ls = map (λ l. line_of (fields l)) ls

-- the fault of the lines of a table text, which are counted from 1
abbrev pub table_fault : List (List ℕ) → Option TableError
table_fault ls = first_fault [] 1 (lines_by_field ls)

-- the tables that the lines of a table text without a fault mean
abbrev pub tables_in : List (List ℕ) → Tables
tables_in ls = tables_of_lines (laid_on [] (lines_by_field ls))
