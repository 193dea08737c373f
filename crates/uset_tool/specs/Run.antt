-- What a run answers.
use Rattle.std.specs.Prelude.{◌≡◌, ℕ, ◌+◌, ◌<◌, ◌≤◌, ◌⊎◌, Bool, true, false, List, [], ◌++◌, drop, length, codes, Option, None, Some, IfSome, Ok, Err, if◌then◌else◌}
use Rattle.std.specs.Str.{is_utf8}
use Rattle.std.specs.Str.Lines.{lines}
use Rattle.text_lines.specs.Fields.{through, past}
use Rattle.prop_data.specs.declared.error.LoadError.{LoadError}
use Rattle.prop_data.specs.declared.error.LoadError.TheVariants.{Table, NoMemory as LoadRefused}
use Rattle.prop_data.specs.declared.error.TableError.{TableError}
use Rattle.prop_data.specs.Tables.{Tables as Members}
use Rattle.prop_data.specs.TableText.{table_fault, tables_in}
use Rattle.uset_tool.specs.declared.status.Status.{Status}
use Rattle.uset_tool.specs.declared.status.Status.TheVariants.{Done, SomeErr, Usage, Tables, ReadFault, WriteFault, NoMemory, NotText, TooLong}
use Rattle.uset_tool.specs.declared.sink.WriteError.TheVariants.{Failed, NoMemory as OutOfMemory}
use Rattle.uset_variables.specs.Variables.{no_variables}
use Rattle.uset_reader.specs.Syntaxes.{language_of}
use Rattle.uset_tool.specs.Answer.{ScriptAnswer}
use Rattle.uset_tool.specs.Counts.{counts_text}
use Rattle.uset_tool.specs.Answered.{AnswersScript}
use Rattle.uset_tool.specs.Generated.{pattern_of, SizesAnswer}
use Rattle.uset_tool.specs.Device.{limit, Appends, IsFront, IsProperFront, TookFront}
use Rattle.uset_tool.specs.Words.{Command, evaluate, count_tables, generate, command_of, is_known, table_fault_text, usage_text, not_text_text, too_long_text}

-- the lines of an input through its first line that is `end` alone: the table text
abbrev pub table_lines : List ℕ → List (List ℕ)
table_lines input = through (codes "end") (lines input)

-- the lines behind the table text: the script
abbrev pub script_lines : List ℕ → List (List ℕ)
script_lines input = past (codes "end") (lines input)

-- The answer to an input that is text, and its status: of the table text first, then of the lines of the script.
pub data Evaluates (input : List ℕ) : List ℕ → Status → Type 0 where
  faulty_tables : (fault : TableError) → table_fault (table_lines input) ≡ Some fault →
      Evaluates input (table_fault_text fault) Tables
  script : table_fault (table_lines input) ≡ None → (text : List ℕ) (errs : Bool) →
      ScriptAnswer (tables_in (table_lines input)) no_variables (script_lines input) text errs →
      Evaluates input text (if errs then SomeErr else Done)

-- The number of tables of each kind in an input that is a table text and nothing else.
pub data Counts (input : List ℕ) : List ℕ → Status → Type 0 where
  faulty_text : (fault : TableError) → table_fault (lines input) ≡ Some fault →
      Counts input (table_fault_text fault) Tables
  counted : table_fault (lines input) ≡ None → Counts input (counts_text (tables_in (lines input))) Done

-- The sizes of the set of the pattern that a number tells, under no variables and an input that is a table text and nothing
-- else.
pub data Generates (n : ℕ) (input : List ℕ) : List ℕ → Status → Type 0 where
  faulty_database : (fault : TableError) → table_fault (lines input) ≡ Some fault →
      Generates n input (table_fault_text fault) Tables
  generated : table_fault (lines input) ≡ None → (text : List ℕ) (err : Bool) →
      SizesAnswer (language_of no_variables (tables_in (lines input))) (pattern_of n) text err →
      Generates n input text (if err then SomeErr else Done)

-- what a command answers to an input that is text
abbrev pub Results : Command → List ℕ → List ℕ → Status → Type 0
Results evaluate input text status = Evaluates input text status
Results count_tables input text status = Counts input text status
Results (generate n) input text status = Generates n input text status

-- The answer to the words and the input, and its status: of the words first, then of the length, then of UTF-8.
pub data Answers (words : List (List ℕ)) (input : List ℕ) : List ℕ → Status → Type 0 where
  usage : is_known words ≡ false → Answers words input usage_text Usage
  too_long : is_known words ≡ true → limit < length input → Answers words input too_long_text TooLong
  not_text : is_known words ≡ true → length input ≤ limit → is_utf8 input ≡ false →
      Answers words input not_text_text NotText
  evaluates : {text : List ℕ} {status : Status} (command : Command) → command_of words ≡ Some command →
      length input ≤ limit → is_utf8 input ≡ true →
      Results command input text status → Answers words input text status

-- the answers of an input, each a text and a status
abbrev pub AnswersOf : Type 1
AnswersOf = List ℕ → Status → Type 0

-- a whole answer with this status was appended
abbrev pub IsWhole : AnswersOf → List ℕ → List ℕ → Status → Type 0
IsWhole A before now status = (text : List ℕ) × A text status × (now ≡ before ++ text)

-- What was appended to the sink: a whole answer; nothing, where the source failed; of every answer a front and not all of it,
-- where the sink failed; and of every answer a front, where memory was refused.
abbrev pub IsWritten : AnswersOf → List ℕ → List ℕ → Status → Type 0
IsWritten A before now Done = IsWhole A before now Done
IsWritten A before now SomeErr = IsWhole A before now SomeErr
IsWritten A before now Usage = IsWhole A before now Usage
IsWritten A before now Tables = IsWhole A before now Tables
IsWritten A before now NotText = IsWhole A before now NotText
IsWritten A before now TooLong = IsWhole A before now TooLong
IsWritten A before now ReadFault = now ≡ before
IsWritten A before now WriteFault = (text : List ℕ) (status : Status) → A text status → IsProperFront before now text
IsWritten A before now NoMemory = (text : List ℕ) (status : Status) → A text status → IsFront before now text

-- the same of a sink that tells what was written
abbrev pub Writes : AnswersOf → Option (List ℕ) → Option (List ℕ) → Status → Type 0
Writes A old new status = IfSome old (λ before. (now : List ℕ) × (new ≡ Some now) × IsWritten A before now status)

-- there is an answer with this status, also where the sink tells nothing, and the whole of it was appended
abbrev pub AppendsWhole : AnswersOf → Option (List ℕ) → Option (List ℕ) → Status → Type 0
AppendsWhole A old new status = (text : List ℕ) × A text status × Appends old new text

-- The same as `Writes`, and where an answer was appended whole, its status is known also where the sink tells nothing.
abbrev pub AppendsAnswer : AnswersOf → Option (List ℕ) → Option (List ℕ) → Status → Type 0
AppendsAnswer A old new Done = AppendsWhole A old new Done
AppendsAnswer A old new SomeErr = AppendsWhole A old new SomeErr
AppendsAnswer A old new Usage = AppendsWhole A old new Usage
AppendsAnswer A old new Tables = AppendsWhole A old new Tables
AppendsAnswer A old new NotText = AppendsWhole A old new NotText
AppendsAnswer A old new TooLong = AppendsWhole A old new TooLong
AppendsAnswer A old new ReadFault = Writes A old new ReadFault
AppendsAnswer A old new WriteFault = Writes A old new WriteFault
AppendsAnswer A old new NoMemory = Writes A old new NoMemory

-- a status of an answer is that of one of these
abbrev pub HasStatus : AnswersOf → Status → Type 0
HasStatus A Done = (text : List ℕ) × A text Done
HasStatus A SomeErr = (text : List ℕ) × A text SomeErr
HasStatus A Usage = (text : List ℕ) × A text Usage
HasStatus A Tables = (text : List ℕ) × A text Tables
HasStatus A NotText = (text : List ℕ) × A text NotText
HasStatus A TooLong = (text : List ℕ) × A text TooLong
HasStatus A ReadFault = Unit {0}
HasStatus A WriteFault = Unit {0}
HasStatus A NoMemory = Unit {0}

-- the statuses that an input which is text can have
abbrev pub is_of_text : Status → Bool
is_of_text Done = true
is_of_text SomeErr = true
is_of_text Tables = true
is_of_text WriteFault = true
is_of_text NoMemory = true
is_of_text Usage = false
is_of_text ReadFault = false
is_of_text NotText = false
is_of_text TooLong = false

-- The text was said, with the status that was wanted; or the sink failed, or refused memory.
pub data Says (old new : Option (List ℕ)) (text : List ℕ) (wanted : Status) : Status → Type 0 where
  said : Appends old new text → Says old new text wanted wanted
  failed : IfSome old (λ before. (now : List ℕ) × (new ≡ Some now) × IsProperFront before now text) →
      Says old new text wanted WriteFault
  refused : IfSome old (λ before. (now : List ℕ) × (new ≡ Some now) × IsProperFront before now text) →
      Says old new text wanted NoMemory

-- the fault was said, or nothing where memory was refused
abbrev pub SaysError : LoadError → Option (List ℕ) → Option (List ℕ) → Status → Type 0
SaysError (Table fault) old new result = Says old new (table_fault_text fault) Tables result
SaysError LoadRefused old new result = (new ≡ old) × (result ≡ NoMemory)

-- the counts were said, or nothing where memory was refused
abbrev pub SaysCounts : Members → Option (List ℕ) → Option (List ℕ) → Status → Type 0
SaysCounts tables old new result = Says old new (counts_text tables) Done result ⊎ ((new ≡ old) × (result ≡ NoMemory))

-- the sizes, or the fault, of the pattern that a number tells were said, or nothing where memory was refused
abbrev pub SaysSizes : Members → ℕ → Option (List ℕ) → Option (List ℕ) → Status → Type 0
SaysSizes tables n old new result =
    ((text : List ℕ) × (err : Bool) × SizesAnswer (language_of no_variables tables) (pattern_of n) text err ×
    Says old new text (if err then SomeErr else Done) result)
    ⊎ ((new ≡ old) × (result ≡ NoMemory))

-- the answers to the lines of a script with a status
abbrev pub ScriptWrites : Members → List (List ℕ) → Option (List ℕ) → Option (List ℕ) → Status → Type 0
ScriptWrites tables ls old new Done = AnswersScript tables no_variables ls old new (Ok false)
ScriptWrites tables ls old new SomeErr = AnswersScript tables no_variables ls old new (Ok true)
ScriptWrites tables ls old new WriteFault = AnswersScript tables no_variables ls old new (Err Failed)
ScriptWrites tables ls old new NoMemory = AnswersScript tables no_variables ls old new (Err OutOfMemory)
ScriptWrites tables ls old new Usage = ⊥
ScriptWrites tables ls old new Tables = ⊥
ScriptWrites tables ls old new ReadFault = ⊥
ScriptWrites tables ls old new NotText = ⊥
ScriptWrites tables ls old new TooLong = ⊥

-- What a source has left that had the input left: nothing where the whole input was answered, and never was more taken than
-- one byte past the limit.
abbrev pub IsLeft : List ℕ → Option (List ℕ) → Status → Type 0
IsLeft input left Done = left ≡ Some []
IsLeft input left SomeErr = left ≡ Some []
IsLeft input left Tables = left ≡ Some []
IsLeft input left NotText = left ≡ Some []
IsLeft input left Usage = left ≡ Some input
IsLeft input left TooLong = (limit < length input) × (left ≡ Some (drop (limit + 1) input))
IsLeft input left ReadFault = TookFront input left limit
IsLeft input left WriteFault = TookFront input left (limit + 1)
IsLeft input left NoMemory = TookFront input left (limit + 1)

-- there is an answer, and it has this status, or memory was refused
abbrev pub IsSettled : AnswersOf → Status → Type 0
IsSettled A result = (text : List ℕ) × (status : Status) × A text status × ((result ≡ status) ⊎ (result ≡ NoMemory))

-- the lines of an input that are its table text
abbrev pub text_lines : Command → List ℕ → List (List ℕ)
text_lines evaluate input = table_lines input
text_lines count_tables input = lines input
text_lines (generate n) input = lines input

-- where the words ask for the pattern that a number tells, one of the three tables of the syntax is absent
abbrev pub LacksSyntax : List (List ℕ) → List ℕ → Type 0
LacksSyntax words input =
    (n : ℕ) → command_of words ≡ Some (generate n) → language_of no_variables (tables_in (lines input)) ≡ None

-- the words are known, and the input is within the limit, is text, and has a table text without a fault
pub record IsAccepted (words : List (List ℕ)) (input : List ℕ) : Type 0 where
  pub command : Command
  pub known : command_of words ≡ Some command
  pub within : length input ≤ limit
  pub text : is_utf8 input ≡ true
  pub tables : table_fault (text_lines command input) ≡ None

-- all lines were answered, or memory was refused
abbrev pub IsAnswered : Status → Type 0
IsAnswered result = (result ≡ Done) ⊎ ((result ≡ SomeErr) ⊎ (result ≡ NoMemory))

-- the status of a text that was to be said: that which was wanted, or that it wasn't written whole
abbrev pub EndsAs : Status → Status → Type 0
EndsAs wanted status = (status ≡ wanted) ⊎ ((status ≡ WriteFault) ⊎ (status ≡ NoMemory))
