-- Laws of the grammar, over the definitions alone.
use Rattle.std.specs.Prelude.{◌≡◌, ◌↔◌, ◌<◌, ℕ, Bool, true, false, List, [], ◌∷◌, ◌++◌, length, map, Option}
use mathlib.Core.Logic.{◌⊎◌}
use Prim.Native.Char.{code}
use Rattle.std.specs.Str.{all_scalars}
use Rattle.uset_grammar.specs.Text.{Text, while_in, IsBehind}
use Rattle.uset_grammar.specs.Outcome.{Outcome, meaning}
use Rattle.uset_grammar.specs.Escape.{Spelled, Apart}
use Rattle.uset_grammar.specs.EscapeSlips.{Around, in_bracket, EscapeOutcome}
use Rattle.uset_grammar.specs.BracedString.{StringOutcome}
use Rattle.uset_grammar.specs.Property.{Query, PropertyBegins, PropertyOutcome}
use Rattle.uset_grammar.specs.Unit.{Meaning, an_escape, a_string, a_property, begins_property, UnitBegins, UnitRead, UnitOutcome}
use Rattle.uset_grammar.specs.Tree.{Tree, Steps, has}
use Rattle.uset_grammar.specs.Item.{Item}
use Rattle.uset_grammar.specs.Body.{Body, Fits}
use Rattle.uset_grammar.specs.FitsByLists.{item, close, ListedFits}
use Rattle.uset_grammar.specs.Arranging.{Awaits, element, on, next, after, run, went, fit}
use Rattle.uset_grammar.specs.Language.{Language, Lawful, resolves, lacks}
use Rattle.uset_grammar.specs.Front.{single, of_name, front, of_variable, first}
use Rattle.uset_grammar.specs.Grammar.{Reads}
use Rattle.uset_grammar.specs.Reached.{OpenBracket, Moves, Reached}
use Rattle.uset_grammar.specs.Turn.{UnitReader, at, last_at, turn, Means, Accepts}
use Rattle.uset_grammar.specs.Answers.{Answer, IsAnswer, AllLawful}
use Rattle.uset_grammar.specs.Finite.{IsFinite, IsFiniteLanguage}
use Rattle.uset_grammar.specs.Rests.{may_follow}
use Rattle.uset_grammar.specs.Parts.{TellsOutcome}
use Rattle.uset_grammar.specs.EscapeParts.{letters_in}
use Rattle.uset_grammar.specs.StringParts.{pieces_in}
use Rattle.uset_grammar.specs.PropertyParts.{property_in}

-- Every source has one answer, under every syntax, whether its tables are there or not, all variables and all
-- properties.
abbrev pub OneAnswer : Type 0
OneAnswer = (l : Option Language) → AllLawful l → (source : Text) → (a : Answer) × IsAnswer l source a

-- Every text that begins as an escape has one outcome, in a string and in a bracket.
abbrev pub OneEscape : Type 0
OneEscape = (white_space : ℕ → Bool) → Apart white_space → (a : Around) (t : Text) →
    (o : Outcome Spelled) × EscapeOutcome white_space a (code "\\" ∷ t) o

-- Every text that begins as a string has one outcome.
abbrev pub OneString : Type 0
OneString = (white_space : ℕ → Bool) → Apart white_space → (t : Text) →
    (o : Outcome (List Spelled)) × StringOutcome white_space (code "{" ∷ t) o

-- Every text that begins as a property has one outcome.
abbrev pub OneProperty : Type 0
OneProperty = (white_space : ℕ → Bool) → white_space (code "a") ≡ false →
    (resolves lacks : Query → Bool) (q t : Text) →
    ((q ≡ code "[" ∷ code ":" ∷ t) ⊎ (q ≡ code "\\" ∷ t)) →
    (o : Outcome Query) × PropertyOutcome white_space resolves lacks q o

-- Every text that begins as a unit in a bracket has one outcome, whether an escape of several numbers fits or not.
abbrev pub OneUnit : Type 0
OneUnit = (white_space : ℕ → Bool) → Apart white_space →
    (both : Bool) (resolves lacks : Query → Bool) (q : Text) → UnitBegins q →
    (o : Outcome Meaning) × UnitOutcome white_space both resolves lacks q o

-- Items fit exactly where one of the three lists is arranged.
abbrev pub ThreeListsTell : Type 0
ThreeListsTell = (is : List Item) → Fits is ↔ ListedFits (map item is)

-- A `]` fits behind items exactly where these are arranged.
abbrev pub CloseFitsBehindBody : Type 0
CloseFitsBehindBody = (is : List Item) → ((steps : Steps) × Body is steps) ↔ ListedFits (map item is ++ close ∷ [])

-- What is awaited behind items tells whether one more fits, and what is awaited behind that.
abbrev pub AwaitedTells : Type 0
AwaitedTells = (is : List Item) (s : Awaits) (f : Steps → Steps) → run element is ≡ on s f → (i : Item) →
    (fit (is ++ i ∷ []) ≡ went (next s i)) × (run element (is ++ i ∷ []) ≡ after f (next s i))

-- The outcome of an escape, a string or a property is that of the unit that begins there.
pub record UnitsOfKinds (white_space : ℕ → Bool) (both : Bool) (resolves lacks : Query → Bool) : Type 0 where
  pub escapes : (d : ℕ) (t : Text) (o : Outcome Spelled) → begins_property d ≡ false →
      EscapeOutcome white_space (in_bracket both) (code "\\" ∷ d ∷ t) o →
      UnitOutcome white_space both resolves lacks (code "\\" ∷ d ∷ t) (meaning an_escape o)
  pub strings : (t : Text) (o : Outcome (List Spelled)) → StringOutcome white_space (code "{" ∷ t) o →
      UnitOutcome white_space both resolves lacks (code "{" ∷ t) (meaning a_string o)
  pub posix_properties : (t : Text) (o : Outcome Query) →
      PropertyOutcome white_space resolves lacks (code "[" ∷ t) o →
      UnitOutcome white_space both resolves lacks (code "[" ∷ t) (meaning a_property o)
  pub perl_properties : (d : ℕ) (t : Text) (o : Outcome Query) → begins_property d ≡ true →
      PropertyOutcome white_space resolves lacks (code "\\" ∷ d ∷ t) o →
      UnitOutcome white_space both resolves lacks (code "\\" ∷ d ∷ t) (meaning a_property o)

abbrev pub KindsTell : Type 0
KindsTell = (white_space : ℕ → Bool) → Apart white_space →
    (both : Bool) (resolves lacks : Query → Bool) → UnitsOfKinds white_space both resolves lacks

-- An escape that is read part by part has its outcome.
abbrev pub EscapesByParts : Type 0
EscapesByParts = (white_space : ℕ → Bool) → Apart white_space → (a : Around) (q t : Text) → q ≡ code "\\" ∷ t →
    TellsOutcome (EscapeOutcome white_space a q) q (letters_in white_space a q t)

-- A string that is read piece by piece, with more turns allowed than characters stand behind its brace, has its outcome.
abbrev pub StringsByParts : Type 0
StringsByParts = (white_space : ℕ → Bool) → Apart white_space → (most : ℕ) (q t : Text) → q ≡ code "{" ∷ t →
    length t < most → TellsOutcome (StringOutcome white_space q) q (pieces_in white_space most [] t)

-- A property that is read part by part has its outcome.
abbrev pub PropertiesByParts : Type 0
PropertiesByParts = (white_space : ℕ → Bool) → white_space (code "a") ≡ false →
    (resolves lacks : Query → Bool) (q : Text) → PropertyBegins q →
    TellsOutcome (PropertyOutcome white_space resolves lacks q) q (property_in white_space resolves lacks q)

-- The characters in front that pass a test, and the rest, are the text.
abbrev pub CutByTest : Type 0
CutByTest = (test : ℕ → Bool) (t : Text) → t ≡ (while_in test t).0 ++ (while_in test t).1

-- The units of a lawful language are read.
abbrev pub UnitsAreRead : Type 0
UnitsAreRead = (l : Language) → Lawful l → UnitReader l

-- Each turn of a reader at a rest of the source, whatever brackets are open, is a move, a fault or a reading.
abbrev pub TurnsMean : Type 0
TurnsMean = (l : Language) (units : UnitReader l) (source : Text) (bs : List OpenBracket) (before t : Text) →
    source ≡ before ++ t → Means l units source bs t (turn l units source bs t)

-- What is read at a place that is reached is what the source denotes.
abbrev pub ReadAtLast : Type 0
ReadAtLast = (l : Language) (units : UnitReader l) (source : Text) (bs : List OpenBracket) (t : Text) (tree : Tree)
    (rest : Text) →
    Reached l source bs t → Accepts l units source bs t tree rest → Reads l source tree rest

-- A move goes on to a rest of the source.
abbrev pub MovesOn : Type 0
MovesOn = (l : Language) (source : Text) (bs cs : List OpenBracket) (before t u : Text) → source ≡ before ++ t →
    Moves l source bs t cs u → (front : Text) × (source ≡ front ++ u)

-- The text before a rest, and before the last character in front of it.
abbrev pub PlacesAre : Type 0
PlacesAre = (l : Language) (units : UnitReader l) (source before rest : Text) →
    (source ≡ before ++ rest → at l units source rest ≡ before)
    × ((last : ℕ) → source ≡ before ++ last ∷ rest → last_at l units source rest ≡ before)

-- A name, an item of one character and a unit take at least one character.
pub record RestsAreBehind (l : Language) : Type 0 where
  pub names : (q n r : Text) → front l q ≡ of_name n r → IsBehind q r
  pub first_names : (t n r : Text) → first l t ≡ of_variable n r → IsBehind t r
  pub singles : (q r : Text) (i : Item) → front l q ≡ single i r → IsBehind q r
  pub units : (both : Bool) (q r : Text) (m : Meaning) → UnitRead l.white_space both (resolves l) (lacks l) q m r →
      IsBehind q r

abbrev pub AllRestsAreBehind : Type 0
AllRestsAreBehind = (l : Language) → RestsAreBehind l

-- What is read of a text of characters is finite, where the variables and the properties are.
abbrev pub FiniteSets : Type 0
FiniteSets = (l : Language) → IsFiniteLanguage l → (source : Text) (tree : Tree) (rest : Text) →
    all_scalars source ≡ true → Reads l source tree rest → IsFinite (has tree)

-- The rest is what stands behind that which is read.
abbrev pub RestsAreLast : Type 0
RestsAreLast = (l : Language) (source : Text) (tree : Tree) (rest : Text) → Reads l source tree rest →
    (front : Text) × (source ≡ front ++ rest)

-- What is read in front of a rest is read in front of any other that may follow it.
abbrev pub FreeRest : Type 0
FreeRest = (l : Language) (pattern rest other : Text) (tree : Tree) → Reads l (pattern ++ rest) tree rest →
    may_follow l pattern other ≡ true → Reads l (pattern ++ other) tree other
