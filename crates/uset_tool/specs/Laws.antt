-- The laws of answers and of patterns that numbers tell, over the definitions alone.
use Rattle.std.specs.Prelude.{◌≡◌, ℕ, nat_eq, Bool, List, ◌++◌, codes, Option, Some}
use Rattle.std.specs.List.{starts_with}
use Rattle.std.specs.Str.{chars}
use Rattle.prop_data.specs.Forbidden.{AreAllowed}
use Rattle.prop_data.specs.Tables.{Tables}
use Rattle.uset_grammar.specs.Text.{Text}
use Rattle.uset_grammar.specs.Tree.{Tree}
use Rattle.uset_grammar.specs.Language.{Language}
use Rattle.uset_grammar.specs.Grammar.{Reads}
use Rattle.uset_reader.specs.Syntaxes.{language_of}
use Rattle.uset_variables.specs.Variables.{no_variables}
use Rattle.uset_tool.specs.declared.status.Status.{Status}
use Rattle.uset_tool.specs.Answer.{Variables, LineAnswer}
use Rattle.uset_tool.specs.Generated.{pattern_of, SizesAnswer}
use Rattle.uset_tool.specs.Run.{Answers}
use Rattle.uset_tool.specs.Script.{ScriptLine}

-- any words and any input have one answer, and no other
abbrev pub OneAnswer : Type 0
OneAnswer = (words : List (List ℕ)) (input : List ℕ) →
    (text : List ℕ) × (status : Status) × Answers words input text status
    × ((other : List ℕ) (s : Status) → Answers words input other s → (other ≡ text) × (s ≡ status))

-- Under tables that a database may hold, those of the syntax among them, and no variables the pattern that a number tells is
-- read, whatever follows it.
abbrev pub GeneratedPatternsAreRead : Type 0
GeneratedPatternsAreRead =
    (n : ℕ) (tables : Tables) → AreAllowed tables → (l : Language) → language_of no_variables tables ≡ Some l →
    (rest : Text) → (tree : Tree) × Reads l (chars (pattern_of n) ++ rest) tree rest

-- whether the text begins with `err `
abbrev pub begins_with_err : List ℕ → Bool
begins_with_err text = starts_with nat_eq text (codes "err ")

-- The answer to a line of a script, and that to a pattern that is measured, is said to be an `err` line exactly where
-- it begins with `err `. By such lines the status tells 1 from 0.
pub record ErrLinesBeginWithErr : Type 0 where
  pub lines : (tables : Tables) (variables new : Variables) (line : ScriptLine) (text : List ℕ) (err : Bool) →
      LineAnswer tables variables line text err new → err ≡ begins_with_err text
  pub sizes : (l : Option Language) (source text : List ℕ) (err : Bool) →
      SizesAnswer l source text err → err ≡ begins_with_err text
