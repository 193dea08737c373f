-- Laws of the language, over the definitions alone.
use Rattle.std.specs.Prelude.{Option}
use Rattle.prop_data.specs.Forbidden.{AreAllowed}
use Rattle.prop_data.specs.Tables.{Tables}
use Rattle.uset_grammar.specs.Text.{Text}
use Rattle.uset_grammar.specs.Language.{Value}
use Rattle.uset_grammar.specs.Answers.{Answer, IsAnswer}
use Rattle.uset_reader.specs.Syntaxes.{language_of}

-- Under tables that a database may hold, the tables of the syntax among them or not, and all variables every source has
-- one answer.
abbrev pub OneAnswer : Type 0
OneAnswer = (tables : Tables) → AreAllowed tables → (variable : Text → Option Value) (source : Text) →
    (a : Answer) × IsAnswer (language_of variable tables) source a
