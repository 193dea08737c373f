-- What the reader answers for a source.
use Rattle.std.specs.Prelude.{◌≡◌, ℕ, List, Option, Some}
use Rattle.std.specs.Str.{chars}
use Rattle.cp_strset.specs.StringSet.{StringSet}
use Rattle.uset_grammar.specs.Text.{Text}
use Rattle.uset_grammar.specs.Tree.{Tree, Member, has}
use Rattle.uset_grammar.specs.Language.{Language, set as value_set}
use Rattle.uset_grammar.specs.Grammar.{Reads}
use Rattle.uset_grammar.specs.Fault.{Fault}
use Rattle.uset_grammar.specs.Place.{offset_of}
use Rattle.uset_gather.specs.Gathered.{in_set}
use Rattle.uset_steps.specs.declared.closed.Closed.{Closed as ClosedSet}
use Rattle.uset_steps.specs.Terms.{closed_in}
use Rattle.uset_read.specs.declared.cursor.Cursor.{Cursor}
use Rattle.uset_read.specs.Cursors.{source_of, left_of}
use Rattle.uset_reader.specs.Named.{sets_of}
use Rattle.uset_fault.specs.declared.error.ParseError.{ParseError}
use Rattle.uset_fault.specs.Errors.{Tells}

-- the source is read up to the cursor, with this set; names in a term stand for the sets that the language gives them
pub record IsReading (l : Language) (source : List ℕ) (set : ClosedSet) (end : Cursor) : Type 0 where
  pub tree : Tree
  pub read : Reads l (chars source) tree (chars (left_of end))
  pub members : (m : Member) → closed_in (sets_of l) set m ≡ has tree m
  pub same : source_of end ≡ source

-- in each language in which the variable of this name is bound to the members of the set, it is that set
abbrev pub IsSetOfVariable : List ℕ → StringSet → ClosedSet → Type 0
IsSetOfVariable name value set = (l : Language) → l.variable (chars name) ≡ Some (value_set (in_set value)) → (m : Member) →
    closed_in (sets_of l) set m ≡ in_set value m

-- the error is the fault of the source, with its place in bytes; or memory was refused
abbrev pub IsRefusal : Language → List ℕ → ParseError → Type 0
IsRefusal l source error =
    Tells error (λ kind offset. (place : Option Text) × Fault l (chars source) kind place × (offset ≡ offset_of kind place))
