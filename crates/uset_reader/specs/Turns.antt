-- What one turn of the reader does, as the grammar's turn does it.
use Rattle.std.specs.Prelude.{◌≡◌, ◌<◌, ℕ, false, length, List, [], ◌∷◌, ◌++◌, reverse, Option, Some, None, Result, Ok, Err}
use Rattle.std.specs.Str.{chars}
use Rattle.uset_grammar.specs.Text.{Text, IsBehind}
use Rattle.uset_grammar.specs.Tree.{Tree, Member, has}
use Rattle.uset_grammar.specs.Item.{Item}
use Rattle.uset_grammar.specs.Language.{Language, item_of}
use Rattle.uset_grammar.specs.Grammar.{Sort, of_variable_name}
use Rattle.uset_grammar.specs.Reached.{OpenBracket, is_short}
use Rattle.uset_grammar.specs.Front.{front, begins_unit}
use Rattle.uset_grammar.specs.Arranging.{fit, arrange}
use Rattle.uset_grammar.specs.Place.{offset_of}
use Rattle.uset_grammar.specs.Turn.{Verdict, accepted, rejected, Turn, goes, stops, UnitReader, at, two, refusal, judged, named_turn, unit_turn, closed, turn}
use Rattle.uset_steps.specs.Terms.{closed_in}
use Rattle.uset_steps.specs.declared.gathering.Gathering.{Gathering}
use Rattle.uset_variables.specs.declared.value.VariableValue.{VariableValue}
use Rattle.uset_variables.specs.Values.{value_seen}
use Rattle.uset_reader.specs.declared.bracket.OpenBracket.{OpenBracket as CodeBracket}
use Rattle.uset_fault.specs.declared.error.ParseError.{ParseError}
use Rattle.uset_reader.specs.declared.turn.Progress.{Progress}
use Rattle.uset_reader.specs.declared.turn.Progress.TheVariants.{GoesOn, Done}
use Rattle.uset_reader.specs.declared.turn.Sort.{Sort as CodeSort}
use Rattle.uset_reader.specs.declared.turn.Sort.TheVariants.{Written, Variable}
use Rattle.uset_read.specs.declared.cursor.Cursor.{Cursor}
use Rattle.uset_read.specs.Cursors.{source_of, left_of}
use Rattle.uset_reader.specs.declared.bracket.Opening.{Opening as CodeOpening}
use Rattle.uset_reader.specs.declared.item.Item.{Item as CodeItem}
use Rattle.uset_reader.specs.Named.{sets_of}
use Rattle.uset_reader.specs.Brackets.{Stands, IsItem, begun}
use Rattle.uset_fault.specs.Errors.{Tells}

-- the brackets of the code stand for those of the grammar, one for one
abbrev pub AllStand : Language → List CodeBracket → List OpenBracket → Type 0
AllStand l [] [] = Unit {0}
AllStand l (b ∷ bs) (o ∷ os) = Stands l b o × AllStand l bs os
AllStand l [] (o ∷ os) = ⊥
AllStand l (b ∷ bs) [] = ⊥

-- the outer brackets, of which the code has the outermost first and the grammar the innermost
abbrev pub Around : Language → List CodeBracket → List OpenBracket → Type 0
Around l outer os = AllStand l (reverse outer) os

-- The turn of the grammar goes on with brackets for which these stand, and with this rest; or it has read the source, with
-- this set; or it stops at this fault.
abbrev pub TurnedTo : Language → Turn → List CodeBracket → CodeBracket → Result Progress ParseError → Type 0
TurnedTo l t outer b (Ok (GoesOn rest)) =
    (o : OpenBracket) × (os : List OpenBracket) × (t ≡ goes (o ∷ os) (chars rest.now)) × Stands l b o ×
    Around l outer os
TurnedTo l t outer b (Ok (Done set rest)) =
    (tree : Tree) × (t ≡ stops (accepted tree (chars rest.now))) ×
    ((m : Member) → closed_in (sets_of l) set.value m ≡ has tree m)
TurnedTo l t outer b (Err error) =
    Tells error (λ kind offset. (place : Option Text) × (t ≡ stops (rejected kind place)) × (offset ≡ offset_of kind place))

-- how the item is written
abbrev pub SortIs : CodeSort → Sort → Type 0
SortIs Variable s = s ≡ of_variable_name
SortIs Written s = (s ≡ of_variable_name) → ⊥

-- the text in front of which the reader stands is a rest of the source
pub record Before (source text : List ℕ) : Type 0 where
  pub before : Text
  pub is : chars source ≡ before ++ chars text

-- for the brackets of the grammar that the code's stand for
abbrev pub ForAll : Language → List CodeBracket → CodeBracket → (OpenBracket → List OpenBracket → Type 0) → Type 0
ForAll l outer b P = (o : OpenBracket) (os : List OpenBracket) → Stands l b o → Around l outer os → P o os

-- a turn of the reader is one of the grammar
abbrev pub Turns : Language → List ℕ → List ℕ → List CodeBracket → CodeBracket → List CodeBracket → CodeBracket →
    Result Progress ParseError → Type 0
Turns l source left outer b new_outer new result =
    (units : UnitReader l) → Before source left →
    ForAll l outer b (λ o os. TurnedTo l (turn l units (chars source) (o ∷ os) (chars left)) new_outer new result)

-- the same where the cursor stands
abbrev pub TurnsAt : Language → Cursor → List CodeBracket → CodeBracket → List CodeBracket → CodeBracket →
    Result Progress ParseError → Type 0
TurnsAt l cursor outer b new_outer new result = Turns l (source_of cursor) (left_of cursor) outer b new_outer new result

-- What comes of the parts of a turn, each as the part of the grammar's turn does it.

-- the verdict of a fault
abbrev pub Rejects : Verdict → ParseError → Type 0
Rejects v error =
    Tells error (λ kind offset. (place : Option Text) × (v ≡ rejected kind place) × (offset ≡ offset_of kind place))

-- an item doesn't fit, and ends no reversed range
abbrev pub IsUnfit : Cursor → CodeSort → List ℕ → List ℕ → ParseError → Type 0
IsUnfit cursor sort text rest error =
    (l : Language) (units : UnitReader l) (s : Sort) → SortIs sort s → Before (source_of cursor) text →
    IsBehind (chars text) (chars rest) →
    Rejects (refusal l units (chars (source_of cursor)) s (chars text) (chars rest) None) error

abbrev pub TakesAs : List ℕ → CodeBracket → CodeItem → CodeSort → List ℕ → List ℕ → CodeBracket →
    Result Progress ParseError → Type 0
TakesAs source b item sort text rest new result =
    (l : Language) (units : UnitReader l) (s : Sort) (i : Item) (outer : List CodeBracket) → SortIs sort s →
    IsItem l b.gathered item i →
    Before source text → IsBehind (chars text) (chars rest) →
    ForAll l outer b (λ o os.
    TurnedTo l (judged l units (chars source) o os (chars text) s i (chars rest) (fit (o.items ++ i ∷ []))) outer new result)

-- the item is the one that a variable of this name stands for, where it is bound to this value
abbrev pub IsVariable : List ℕ → VariableValue → CodeItem → Type 0
IsVariable name value item =
    (l : Language) (g : Gathering) → l.variable (chars name) ≡ Some (value_seen value) →
    IsItem l g item (item_of (value_seen value))

abbrev pub TakesVariable : Language → List ℕ → CodeBracket → List ℕ → List ℕ → List ℕ → CodeBracket →
    Result Progress ParseError → Type 0
TakesVariable l source b name text rest new result =
    (units : UnitReader l) (outer : List CodeBracket) → Before source text → IsBehind (chars text) (chars rest) →
    ForAll l outer b (λ o os.
    TurnedTo l (named_turn l units (chars source) o os (chars text) (chars rest) (l.variable (chars name))) outer new result)

abbrev pub TakesUnit : Language → List ℕ → CodeBracket → List ℕ → CodeBracket → Result Progress ParseError → Type 0
TakesUnit l source b text new result =
    (units : UnitReader l) (outer : List CodeBracket) → Before source text → front l (chars text) ≡ begins_unit →
    is_short (chars text) ≡ false →
    ForAll l outer b (λ o os.
    TurnedTo l (unit_turn l units (chars source) o os (chars text) (units.unit_at (fit (o.items ++ two ∷ [])) (chars text))) outer new result)

abbrev pub Opens : List ℕ → List CodeBracket → CodeBracket → CodeOpening → List ℕ → List ℕ → List CodeBracket →
    CodeBracket → Result Progress ParseError → Type 0
Opens source outer b opening text inner new_outer new result =
    (l : Language) (units : UnitReader l) → Before source text →
    ForAll l outer b (λ o os.
    TurnedTo l (goes (begun (at l units (chars source) (chars text)) opening ∷ o ∷ os) (chars inner)) new_outer new result)

abbrev pub ClosesAs : List ℕ → List CodeBracket → CodeBracket → List ℕ → List ℕ → List CodeBracket → CodeBracket →
    Result Progress ParseError → Type 0
ClosesAs source outer b text rest new_outer new result =
    (l : Language) (units : UnitReader l) → Before source text →
    ForAll l outer b (λ o os.
    TurnedTo l (closed l units (chars source) o os (chars text) (chars rest) (arrange o.items)) new_outer new result)

-- the rest is shorter, whether the reader goes on or is done
abbrev pub IsShorter : Progress → List ℕ → Type 0
IsShorter (GoesOn rest) left = length rest.now < length left
IsShorter (Done set rest) left = length rest.now < length left
