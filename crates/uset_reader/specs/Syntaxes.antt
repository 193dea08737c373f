-- What patterns are read by: a database and variables.
use Rattle.std.specs.Prelude.{ℕ, Bool, Option, Some}
use Rattle.cp_invlist.specs.InversionList.{contains}
use Rattle.prop_data.specs.Database.{tables_of}
use Rattle.prop_data.specs.declared.database.PropertyDatabase.{PropertyDatabase}
use Rattle.prop_data.specs.Tables.{Tables}
use Rattle.uset_grammar.specs.Text.{Text, ◌>>=◌}
use Rattle.uset_grammar.specs.Language.{Value, Language}
use Rattle.uset_reader.specs.declared.syntax.Syntax.{Syntax}
use Rattle.uset_variables.specs.Variables.{variables_of}
use Rattle.uset_resolve.specs.Resolution.{resolve, lacking}

-- The language of three sets, white space of patterns and the characters that begin and continue a name (UAX 31), with
-- variables and tables.
abbrev pub language_by : (white_space start continue : ℕ → Bool) → (Text → Option Value) → Tables → Language
language_by white_space start continue variable tables = record {
  white_space = white_space;
  start = start;
  continue = continue;
  variable = variable;
  resolve = resolve tables;
  lacking = lacking tables;
}

-- The language of a database with variables, where the three tables of the syntax are there: Pattern_White_Space (51),
-- XID_Start (68) and XID_Continue (67).
abbrev pub language_of : (Text → Option Value) → Tables → Option Language
language_of variable tables =
    tables.sets 51 >>= λ white_space. tables.sets 68 >>= λ start. tables.sets 67 >>= λ continue.
    Some (language_by white_space start continue variable tables)

-- the language of the syntax that the code keeps
abbrev pub language_seen : Syntax → Language
language_seen s = record {
  white_space = contains s.white_space.now;
  start = contains s.start.now;
  continue = contains s.continuing.now;
  variable = variables_of s.variables.now;
  resolve = resolve (tables_of s.database.now);
  lacking = lacking (tables_of s.database.now);
}

-- the database by which it resolves properties
abbrev pub database_seen : Syntax → PropertyDatabase
database_seen s = s.database.now
