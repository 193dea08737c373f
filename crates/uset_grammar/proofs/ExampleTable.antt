-- Worked sources in tables, each beside its answer under the sample language.
use Rattle.std.proofs.Common.{◌≡◌, ℕ, Bool, true, false, not, ◌&&◌, List, [], ◌∷◌, Option, Some, None, map, codes}
use Rattle.std.specs.List.{list_all}
use Prim.Native.Char.{Char, code}
use Prim.Native.String.{String}
use Rattle.uset_grammar.specs.Text.{Text}
use Rattle.uset_grammar.specs.Outcome.{Kind, eof}
use Rattle.uset_grammar.specs.Tree.{Tree, Member, string, Steps, bracket, add, add_text, has}
use Rattle.uset_grammar.specs.Answers.{Answer, read, refused, IsAnswer}
use Rattle.uset_grammar.specs.Shown.{shown}
use Rattle.uset_grammar.proofs.SampleLanguage.{sample, lawful}
use Rattle.uset_grammar.proofs.ComputedAnswer.{computed, computed_is_answer}

-- A source and its answer.
pub record Row : Type 0 where
  pub source : Text
  pub answer : Answer

-- the source is read with this tree and rest
abbrev pub reads : String → Tree → String → Row
reads source tree rest = record { source = codes source; answer = read tree (codes rest) }

-- a fault of this kind at this byte
abbrev pub fails : String → Kind → ℕ → Row
fails source kind offset = record { source = codes source; answer = refused kind (Some offset) }

-- more is due at the end
abbrev pub ends : String → Row
ends source = record { source = codes source; answer = refused eof None }

-- brackets without a leading hyphen
abbrev pub set : Steps → Tree
set steps = bracket false false steps

abbrev pub all_but : Steps → Tree
all_but steps = bracket true false steps

abbrev pub one : Char → Steps → Steps
one c steps = add (code c) (code c) steps

abbrev pub range : Char → Char → Steps → Steps
range first last steps = add (code first) (code last) steps

abbrev pub word : String → Steps → Steps
word s steps = add_text (codes s) steps

-- what is computed for the sources of a table
abbrev pub computed_all : List Row → List (Option Answer)
computed_all rows = map (λ row. computed sample lawful row.source) rows

abbrev pub given_all : List Row → List (Option Answer)
given_all rows = map (λ row. Some row.answer) rows

-- each answer of the table is the one of its source
abbrev pub AreAnswers : List Row → Type 0
AreAnswers [] = Unit {0}
AreAnswers (row ∷ rows) = IsAnswer (Some sample) row.source row.answer × AreAnswers rows

pub are_answers : (rows : List Row) → computed_all rows ≡ given_all rows → AreAnswers rows
are_answers [] h = tt
are_answers (row ∷ rows) h =
    let g : computed sample lawful row.source ∷ computed_all rows ≡ Some row.answer ∷ given_all rows = h in
    let here : computed sample lawful row.source ≡ Some row.answer = cc in
    let there : computed_all rows ≡ given_all rows = cc in
    (computed_is_answer sample lawful row.source row.answer here, are_answers rows there)

-- A source, some members of its set, and some that it lacks.
pub record Denoted : Type 0 where
  pub source : Text
  pub members : List Member
  pub others : List Member

abbrev pub denotes : String → List Member → List Member → Denoted
denotes source members others = record { source = codes source; members = members; others = others }

-- a string of ASCII characters as a member
abbrev pub text : String → Member
text s = string (codes s)

abbrev pub has_them : List Member → List Member → Option Answer → Bool
has_them members others None = false
has_them members others (Some (refused kind offset)) = false
has_them members others (Some (read tree rest)) = list_all (has tree) members && list_all (λ m. not (has tree m)) others

abbrev pub are_members : Denoted → Bool
are_members row = has_them row.members row.others (computed sample lawful row.source)

-- A source that is refused, and the text that shows it.
pub record Message : Type 0 where
  pub source : Text
  pub message : Text

abbrev pub shows : String → String → Message
shows source message = record { source = codes source; message = codes message }

abbrev pub shown_answer : Text → Option Answer → Text
shown_answer source None = []
shown_answer source (Some (read tree rest)) = []
shown_answer source (Some (refused kind offset)) = shown kind offset source

abbrev pub shown_all : List Message → List Text
shown_all rows = map (λ row. shown_answer row.source (computed sample lawful row.source)) rows

abbrev pub messages : List Message → List Text
messages rows = map (λ row. row.message) rows
