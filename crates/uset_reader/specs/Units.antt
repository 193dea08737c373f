-- What is read where a unit begins, as an item of the code.
use Rattle.std.specs.Prelude.{◌≡◌, ◌≤◌, ℕ, Bool, true, false, All, List, [], ◌∷◌}
use Prim.Native.Char.{code}
use Rattle.std.specs.Str.{chars}
use Rattle.uset_grammar.specs.Text.{Text}
use Rattle.uset_grammar.specs.Outcome.{got}
use Rattle.uset_grammar.specs.Property.{Query, PropertyBegins, PropertyOutcome}
use Rattle.uset_grammar.specs.Unit.{Meaning, begins_property, UnitBegins, UnitOutcome}
use Rattle.uset_grammar.specs.Item.{Item, chars as item_chars}
use Rattle.uset_grammar.specs.Language.{Language, resolves, lacks, property_tree, stands_for}
use Rattle.uset_steps.specs.declared.named_set.Named.{Named}
use Rattle.uset_read.specs.declared.stop.Stop.{Stop}
use Rattle.uset_read.specs.declared.escape.Spelled.{Spelled}
use Rattle.uset_read.specs.declared.escape.Spelled.TheVariants.{Itself, Numbers}
use Rattle.uset_read.specs.Spelled.{spelled_codes}
use Rattle.uset_read.specs.UnitRead.{StopsAt}
use Rattle.uset_reader.specs.declared.item.Item.{Item as CodeItem}
use Rattle.uset_reader.specs.declared.unit.UnitKind.{UnitKind}
use Rattle.uset_reader.specs.declared.unit.UnitKind.TheVariants.{String as AString, Escape as AnEscape, Property as AProperty}
use Rattle.uset_steps.specs.declared.gathering.Gathering.{Gathering}
use Rattle.uset_steps.specs.Gathering.{Fits as NamesFit}
use Rattle.uset_read.specs.declared.property.Form.{Form}
use Rattle.uset_read.specs.declared.property.Query.{Query as CodeQuery}
use Rattle.uset_read.specs.Queries.{PropertyIs}
use Rattle.uset_reader.specs.declared.syntax.Syntax.{Syntax}
use Rattle.uset_reader.specs.Syntaxes.{language_seen}
use Rattle.uset_reader.specs.Named.{sets_of}
use Rattle.uset_reader.specs.declared.item.Operand.{Operand}
use Rattle.uset_reader.specs.Items.{IsOperand, IsNamedOf}
use Rattle.uset_reader.specs.Brackets.{IsItem}

-- the property at the front of the bytes has this set, with a name for it
pub record IsRead (l : Language) (text : List ℕ) (named : Named) (rest : List ℕ) : Type 0 where
  pub query : Query
  pub outcome : PropertyOutcome l.white_space (resolves l) (lacks l) (chars text) (got query (chars rest))
  pub members : IsNamedOf l named (property_tree l query)

abbrev pub OperandIs : Language → List ℕ → Named → List ℕ → Type 0
OperandIs l text named rest = PropertyBegins (chars text) → IsRead l text named rest

-- The property there has this set in a bracket, which may keep it at a place already.
pub record IsReadOperand (l : Language) (g : Gathering) (text : List ℕ) (operand : Operand) (rest : List ℕ) : Type 0 where
  pub query : Query
  pub outcome : PropertyOutcome l.white_space (resolves l) (lacks l) (chars text) (got query (chars rest))
  pub members : IsOperand l g operand (property_tree l query)

abbrev pub OperandIn : Language → Gathering → List ℕ → Operand → List ℕ → Type 0
OperandIn l g text operand rest = PropertyBegins (chars text) → IsReadOperand l g text operand rest

-- the same, where the bracket's names stand for the sets that it keeps
abbrev pub OperandInFitting : Language → Gathering → List ℕ → Operand → List ℕ → Type 0
OperandInFitting l g text operand rest = NamesFit (sets_of l) g → OperandIn l g text operand rest

-- the property there stops so
abbrev pub OperandStops : Language → List ℕ → Stop → Type 0
OperandStops l text stop =
    PropertyBegins (chars text) →
    StopsAt (PropertyOutcome l.white_space (resolves l) (lacks l) (chars text)) (chars text) stop

-- the same in a bracket, whose names stand for the sets that it keeps
abbrev pub OperandStopsIn : Language → Gathering → List ℕ → Stop → Type 0
OperandStopsIn l g text stop = NamesFit (sets_of l) g → OperandStops l text stop

-- every property that asks this in front of its mark is this one, up to this rest
abbrev pub NamedBehind : Syntax → Form → CodeQuery → List ℕ → Named → List ℕ → Type 0
NamedBehind s form query mark named rest =
    (text : List ℕ) → PropertyIs s.white_space.now text form query mark → OperandIs (language_seen s) text named rest

-- every property that asks this in front of its mark stops so
abbrev pub StopsBehind : Syntax → Form → CodeQuery → List ℕ → Stop → Type 0
StopsBehind s form query mark stop =
    (text : List ℕ) → PropertyIs s.white_space.now text form query mark → OperandStops (language_seen s) text stop

-- the unit at the front of the bytes is this item
pub record IsReadUnit (l : Language) (g : Gathering) (several : Bool) (text : List ℕ) (item : CodeItem) (rest : List ℕ) : Type 0 where
  pub unit : Meaning
  pub outcome : UnitOutcome l.white_space several (resolves l) (lacks l) (chars text) (got unit (chars rest))
  pub item_is : IsItem l g item (stands_for l unit)

abbrev pub UnitIs : Language → Gathering → Bool → List ℕ → CodeItem → List ℕ → Type 0
UnitIs l g several text item rest = UnitBegins (chars text) → IsReadUnit l g several text item rest

-- the same, where the bracket's names stand for the sets that it keeps
abbrev pub UnitInFitting : Language → Gathering → Bool → List ℕ → CodeItem → List ℕ → Type 0
UnitInFitting l g several text item rest = NamesFit (sets_of l) g → UnitIs l g several text item rest

abbrev pub UnitStops : Language → Bool → List ℕ → Stop → Type 0
UnitStops l several text stop =
    UnitBegins (chars text) →
    StopsAt (UnitOutcome l.white_space several (resolves l) (lacks l) (chars text)) (chars text) stop

-- the same in a bracket, whose names stand for the sets that it keeps
abbrev pub UnitStopsIn : Language → Gathering → Bool → List ℕ → Stop → Type 0
UnitStopsIn l g several text stop = NamesFit (sets_of l) g → UnitStops l several text stop

-- the first character passes the test
abbrev pub begins_with : (ℕ → Bool) → Text → Bool
begins_with test [] = false
begins_with test (c ∷ t) = test c

-- a string begins
pub record IsString (t : Text) : Type 0 where
  pub inner : Text
  pub parts : t ≡ code "{" ∷ inner

-- an escape begins, and no property
pub record IsEscape (t : Text) : Type 0 where
  pub inner : Text
  pub parts : t ≡ code "\\" ∷ inner
  pub no_property : begins_with begins_property inner ≡ false

-- neither begins
pub record IsProperty (t : Text) : Type 0 where
  pub no_string : (inner : Text) → t ≡ code "{" ∷ inner → ⊥
  pub no_escape : (d : ℕ) (inner : Text) → t ≡ code "\\" ∷ d ∷ inner → begins_property d ≡ true

abbrev pub IsOfKind : UnitKind → Text → Type 0
IsOfKind AString t = IsString t
IsOfKind AnEscape t = IsEscape t
IsOfKind AProperty t = IsProperty t

-- an escape's numbers are code points
abbrev pub AreCodePoints : Spelled → Type 0
AreCodePoints (Itself c) = Unit {0}
AreCodePoints (Numbers first more) = All (λ n. n ≤ 0x10FFFF) (first ∷ more.items)

-- what it spells, as an item
abbrev pub chars_of : Spelled → Item
chars_of spelled = item_chars (spelled_codes spelled)
