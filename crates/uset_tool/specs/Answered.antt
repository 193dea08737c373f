-- What a line is answered with and leaves bound, and what the answers to a script leave in the sink.
use Rattle.std.specs.Prelude.{◌≡◌, ℕ, Bool, List, ◌++◌, Option, Some, IfSome, Result, Ok, Err}
use Rattle.std.specs.String.{string_bytes}
use Rattle.prop_data.specs.declared.database.PropertyDatabase.{PropertyDatabase}
use Rattle.prop_data.specs.Database.{tables_of}
use Rattle.prop_data.specs.Tables.{Tables}
use Rattle.uset_variables.specs.declared.map.VariableMap.{VariableMap}
use Rattle.uset_variables.specs.Variables.{variables_of}
use Rattle.uset_tool.specs.declared.answer.Answer.{Answer}
use Rattle.uset_tool.specs.Script.{Definition, ScriptLine}
use Rattle.uset_tool.specs.declared.sink.WriteError.{WriteError}
use Rattle.uset_tool.specs.declared.sink.WriteError.TheVariants.{Failed, NoMemory}
use Rattle.uset_tool.specs.Answer.{Variables, DefinitionAnswer, BindingAnswer, LineAnswer, ScriptAnswer}
use Rattle.uset_tool.specs.Device.{Appends, IsProperFront, IsFront}

-- a definition is answered with this, and the new variables are those behind it
abbrev pub AnswersDefinition : PropertyDatabase → List ℕ → Definition → VariableMap → VariableMap → Answer → Type 0
AnswersDefinition database name d old new a =
    DefinitionAnswer (tables_of database) (variables_of old) name d (string_bytes a.text) a.is_err (variables_of new)

-- the same of a `let` line, and of any line
abbrev pub AnswersBinding : PropertyDatabase → List ℕ → Definition → VariableMap → VariableMap → Answer → Type 0
AnswersBinding database name d old new a =
    BindingAnswer (tables_of database) (variables_of old) name d (string_bytes a.text) a.is_err (variables_of new)

abbrev pub AnswersLine : PropertyDatabase → ScriptLine → VariableMap → VariableMap → Answer → Type 0
AnswersLine database line old new a =
    LineAnswer (tables_of database) (variables_of old) line (string_bytes a.text) a.is_err (variables_of new)

-- where the sink failed, not all of the answer was appended, and where memory was refused, a front of it
abbrev pub StopsWithin : WriteError → List ℕ → List ℕ → List ℕ → Type 0
StopsWithin Failed before now text = IsProperFront before now text
StopsWithin NoMemory before now text = IsFront before now text

-- The answers to the lines, and whether an `err` line is among them, which is known also where the sink tells nothing; or
-- how far they came.
abbrev pub AnswersScript : Tables → Variables → List (List ℕ) → Option (List ℕ) → Option (List ℕ) →
    Result Bool WriteError → Type 0
AnswersScript tables variables lines old new (Ok errs) =
    (text : List ℕ) × ScriptAnswer tables variables lines text errs × Appends old new text
AnswersScript tables variables lines old new (Err e) = IfSome old (λ before. (now : List ℕ) × (new ≡ Some now)
    × ((text : List ℕ) (errs : Bool) → ScriptAnswer tables variables lines text errs → StopsWithin e before now text))

-- Of what was pending and a text behind it a front was appended, and the rest is pending now.
pub record Gathers (old new : Option (List ℕ)) (before text after : List ℕ) : Type 0 where
  pub written : List ℕ
  pub parts : before ++ text ≡ written ++ after
  pub appended : Appends old new written

-- how much of a text was appended before it stopped
abbrev pub StopsGathering : Option (List ℕ) → Option (List ℕ) → List ℕ → WriteError → Type 0
StopsGathering old new text e = IfSome old (λ before. (now : List ℕ) × (new ≡ Some now) × StopsWithin e before now text)
