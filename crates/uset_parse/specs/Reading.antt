-- What is answered for a source.
use Rattle.std.specs.Prelude.{◌≡◌, ℕ, ◌+◌, ◌<◌, Bool, List, length, Option}
use Rattle.std.specs.Str.{chars}
use Rattle.cp_strset.specs.StringSet.{StringSet}
use Rattle.prop_data.specs.declared.database.PropertyDatabase.{PropertyDatabase}
use Rattle.prop_data.specs.Database.{tables_of}
use Rattle.uset_grammar.specs.Text.{Text}
use Rattle.uset_grammar.specs.Tree.{Tree, Member, has}
use Rattle.uset_grammar.specs.Language.{Language}
use Rattle.uset_grammar.specs.Place.{size}
use Rattle.uset_grammar.specs.Answers.{ReadsUnder, IsFault}
use Rattle.uset_gather.specs.Gathered.{in_set}
use Rattle.uset_variables.specs.declared.map.VariableMap.{VariableMap}
use Rattle.uset_variables.specs.Variables.{variables_of, no_variables}
use Rattle.uset_reader.specs.Syntaxes.{language_of}
use Rattle.uset_fault.specs.declared.error.ParseError.{ParseError}
use Rattle.uset_fault.specs.Errors.{Tells}
use Rattle.uset_parse.specs.declared.calls.WholeSource.{WholeSource}
use Rattle.uset_parse.specs.declared.calls.WholeSource.TheVariants.{Pattern, TextBehind}

-- the language of a database with what a map binds, and with no variable, where the tables of the syntax are there
abbrev pub language_with : VariableMap → PropertyDatabase → Option Language
language_with map database = language_of (variables_of map) (tables_of database)

abbrev pub language_without : PropertyDatabase → Option Language
language_without database = language_of no_variables (tables_of database)

-- The front of the source that is read denotes these members, and n is the number of bytes before what stands behind that
-- front.
pub record Denotes (l : Option Language) (source : List ℕ) (denoted : Member → Bool) (n : ℕ) : Type 0 where
  pub tree : Tree
  pub rest : Text
  pub reads : ReadsUnder (chars source) tree rest l
  pub members : (m : Member) → denoted m ≡ has tree m
  pub place : n + size rest ≡ length source

-- The set is what is denoted.
abbrev pub IsRead : Option Language → List ℕ → StringSet → ℕ → Type 0
IsRead l source set n = Denotes l source (in_set set) n

-- The first n bytes are read, and text stands behind them.
pub record HasTextBehind (l : Option Language) (source : List ℕ) (n : ℕ) : Type 0 where
  pub denoted : Member → Bool
  pub front : Denotes l source denoted n
  pub more : n < length source

-- The source as a whole denotes the set, or text stands behind what is read.
abbrev pub IsReadWhole : Option Language → List ℕ → WholeSource → Type 0
IsReadWhole l source (Pattern set) = IsRead l source set (length source)
IsReadWhole l source (TextBehind n) = HasTextBehind l source n

-- The error is the fault of the source, with its offset; or memory was refused.
abbrev pub IsRefused : Option Language → List ℕ → ParseError → Type 0
IsRefused l source error = Tells error (λ kind offset. IsFault l (chars source) kind offset)
