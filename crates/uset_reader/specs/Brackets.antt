-- The open brackets of the code as those of the grammar, and what becomes of an item.
use Rattle.std.specs.Prelude.{◌≡◌, ℕ, Bool, true, false, [], ◌∷◌, ◌++◌, Option, Some, None}
use Rattle.uset_grammar.specs.Text.{Text}
use Rattle.uset_grammar.specs.Tree.{Member, has, Steps, gathers, leading_hyphen}
use Rattle.uset_grammar.specs.Item.{Item, Opening, tree_of}
use Rattle.uset_grammar.specs.Arranging.{Awaits, element, stuck, on, next, went, run, fit, arrange}
use Rattle.uset_grammar.specs.Reached.{OpenBracket, with_item}
use Rattle.uset_grammar.specs.Place.{size}
use Rattle.uset_grammar.specs.Turn.{greatest, reversed_code}
use Rattle.uset_grammar.specs.Language.{Language}
use Rattle.uset_steps.specs.declared.closed.Closed.{Closed as ClosedSet}
use Rattle.uset_steps.specs.Terms.{closed_in}
use Rattle.uset_reader.specs.declared.bracket.Opening.{Opening as CodeOpening}
use Rattle.uset_reader.specs.declared.bracket.OpenBracket.{OpenBracket as CodeBracket}
use Rattle.uset_reader.specs.declared.bracket.Taken.{Taken}
use Rattle.uset_reader.specs.declared.bracket.Taken.TheVariants.{Fits, Reversed, Unfit}
use Rattle.uset_reader.specs.declared.item.Item.{Item as CodeItem}
use Rattle.uset_steps.specs.declared.gathering.Gathering.{Gathering}
use Rattle.uset_steps.specs.declared.step.Operation.{Operation}
use Rattle.uset_steps.specs.declared.gathering.Place.{Place}
use Rattle.uset_steps.specs.Names.{Name, Sets}
use Rattle.uset_steps.specs.Gathering.{gathering_in, IsPlaceOf, Fits as NamesFit}
use Rattle.uset_reader.specs.Named.{sets_of}
use Rattle.uset_reader.specs.Items.{number_of, Meant, item_seen, Means, awaits_seen, own_steps}

abbrev pub opening_seen : CodeOpening → Opening
opening_seen o = record { negated = o.negated; leading = o.leading }

-- the set is what the steps make of another, whatever steps follow, where the names stand for these sets
abbrev pub Follows : Sets → Gathering → (Steps → Steps) → Gathering → Type 0
Follows sets old steps new = (rest : Steps) (m : Member) →
    gathers (steps rest) m (gathering_in sets old m) ≡ gathers rest m (gathering_in sets new m)

-- the same, and it fits this meaning of the names
pub record BecomesWith (sets : Sets) (old : Gathering) (steps : Steps → Steps) (new : Gathering) : Type 0 where
  pub follows : Follows sets old steps new
  pub fits : NamesFit sets new

-- the same for each meaning of the names that the other fits, and the same sets are kept at their places
pub record Becomes (old : Gathering) (steps : Steps → Steps) (new : Gathering) : Type 0 where
  pub fitting : (sets : Sets) → NamesFit sets old → BecomesWith sets old steps new
  pub places : (name : Name) (place : Place) → IsPlaceOf old name place → IsPlaceOf new name place

-- the set is what an item's own steps make of another, or an operation with an operand
abbrev pub GathersItem : Operation → CodeItem → Gathering → Gathering → Type 0
GathersItem operation item old new =
    (l : Language) (meant : Meant) → NamesFit (sets_of l) old → Means l old item meant →
    BecomesWith (sets_of l) old (own_steps operation (item_seen meant item)) new

-- What the code keeps of an open bracket: what it begins with and where, what is awaited behind its items, and what
-- they gather, with sets that their names stand for.
pub record Stands (l : Language) (b : CodeBracket) (o : OpenBracket) : Type 0 where
  pub header : o.header ≡ opening_seen b.opening
  pub before : b.before ≡ size o.before
  pub steps : Steps → Steps
  pub awaited : run element o.items ≡ on (awaits_seen b.awaits) steps
  pub gathered : (rest : Steps) (m : Member) →
      gathers (steps rest) m (leading_hyphen o.header.leading m) ≡
      gathers rest m (gathering_in (sets_of l) b.gathered m)
  pub fits : NamesFit (sets_of l) b.gathered

-- what was gathered alone has changed
pub record KeepsFrame (old new : CodeBracket) : Type 0 where
  pub opening : new.opening ≡ old.opening
  pub before : new.before ≡ old.before
  pub awaits : new.awaits ≡ old.awaits

-- how an item is refused behind what is awaited: it ends a reversed range where the greatest code point would fit
abbrev pub Refuses : Awaits → Item → Taken → Type 0
Refuses s i Fits = ⊥
Refuses s i (Reversed c) = next s i ≡ stuck → reversed_code i (went (next s greatest)) ≡ Some (number_of c)
Refuses s i Unfit = next s i ≡ stuck → reversed_code i (went (next s greatest)) ≡ None

-- a bracket of which nothing was read but what it begins with
abbrev pub begun : Text → CodeOpening → OpenBracket
begun before opening = record { before = before; header = opening_seen opening; items = [] }

-- an item of the grammar that the item of the code is
pub record IsItem (l : Language) (g : Gathering) (item : CodeItem) (i : Item) : Type 0 where
  pub meant : Meant
  pub same : Means l g item meant
  pub is : i ≡ item_seen meant item

-- the item fits, and was taken
pub record Took (l : Language) (old new : CodeBracket) (o : OpenBracket) (i : Item) : Type 0 where
  pub fits : fit (o.items ++ i ∷ []) ≡ true
  pub stands : Stands l new (with_item o i)

-- the item doesn't fit, and ends a reversed range with this code or none
pub record Refused (o : OpenBracket) (i : Item) (code : Option ℕ) : Type 0 where
  pub unfit : fit (o.items ++ i ∷ []) ≡ false
  pub reversed : reversed_code i (fit (o.items ++ greatest ∷ [])) ≡ code

abbrev pub Became : Language → CodeBracket → Taken → CodeBracket → OpenBracket → Item → Type 0
Became l old Fits new o i = Took l old new o i
Became l old (Reversed c) new o i = Refused o i (Some (number_of c))
Became l old Unfit new o i = Refused o i None

-- what became of the item, for every bracket that the code's stands for
abbrev pub Takes : CodeBracket → CodeItem → Taken → CodeBracket → Type 0
Takes old item taken new =
    (l : Language) (o : OpenBracket) (i : Item) → Stands l old o → IsItem l old.gathered item i →
    Became l old taken new o i

-- a bracket without items that begins so
abbrev pub IsBegun : CodeOpening → ℕ → CodeBracket → Type 0
IsBegun opening place b = (l : Language) (before : Text) → place ≡ size before → Stands l b (begun before opening)

-- what is gathered once a `]` was read, by the steps of what is left standing for itself
pub record EndsWith (sets : Sets) (old : Gathering) (last : Steps) (new : Gathering) : Type 0 where
  pub has : (m : Member) → gathers last m (gathering_in sets old m) ≡ gathering_in sets new m
  pub fits : NamesFit sets new

-- whether a `]` fits, and what is gathered then
abbrev pub EndedAs : Option Steps → Gathering → Gathering → Bool → Type 0
EndedAs None old new ends = ends ≡ false
EndedAs (Some last) old new ends =
    (ends ≡ true) × ((sets : Sets) → NamesFit sets old → EndsWith sets old last new)

-- the set is that of the bracket, whose items are arranged to these steps
pub record Closed (l : Language) (o : OpenBracket) (set : ClosedSet) : Type 0 where
  pub steps : Steps
  pub arranged : arrange o.items ≡ Some steps
  pub members : (m : Member) → closed_in (sets_of l) set m ≡ has (tree_of o.header steps) m

abbrev pub ClosedAs : Language → Option ClosedSet → OpenBracket → Type 0
ClosedAs l None o = arrange o.items ≡ None
ClosedAs l (Some set) o = Closed l o set

-- how a bracket closes, for every one that the code's stands for
abbrev pub Closes : CodeBracket → Option ClosedSet → Type 0
Closes b set = (l : Language) (o : OpenBracket) → Stands l b o → ClosedAs l set o
