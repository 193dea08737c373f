-- The items of the code as those of the grammar, and how it arranges them.
use Rattle.std.specs.Prelude.{◌≡◌, ◌≤◌, ℕ, All, [], ◌∷◌, Option, Some, None}
use Rattle.std.specs.Str.{chars as characters}
use Rattle.std.specs.String.{string_bytes}
use Rattle.cp_invlist.specs.declared.ranges.CodePointRange.{CodePointRange}
use Rattle.cp_strset.specs.StringList.{sole_of}
use Rattle.uset_grammar.specs.Text.{Text}
use Rattle.uset_grammar.specs.Tree.{Tree, has, Member, is_text, Steps, add, add_text, join, remove, keep}
use Rattle.uset_grammar.specs.Item.{Item, chars, text, nested, minus, ampersand, dollar}
use Rattle.uset_grammar.specs.Body.{add_each}
use Rattle.uset_grammar.specs.Arranging.{Awaits, element, after_single, range_end, hyphen_end, anchor_end, after_set, remove_or_end, keep_set, Next, stuck, on}
use Rattle.uset_grammar.specs.Language.{Language}
use Rattle.uset_steps.specs.Terms.{closed_in}
use Rattle.uset_steps.specs.declared.named_set.Named.{Named as NamedOperand}
use Rattle.uset_steps.specs.declared.named_set.NamedSet.{NamedSet}
use Rattle.uset_steps.specs.declared.step.Operation.{Operation}
use Rattle.uset_steps.specs.declared.step.Operation.TheVariants.{Join, Remove, Retain}
use Rattle.uset_steps.specs.declared.gathering.Gathering.{Gathering}
use Rattle.uset_steps.specs.Names.{Name, named_in, StandsFor, IsSetOf}
use Rattle.uset_steps.specs.Gathering.{IsPlaceOf}
use Rattle.uset_reader.specs.declared.code_point.CodePoint.{CodePoint}
use Rattle.uset_reader.specs.declared.item.Operand.{Operand}
use Rattle.uset_reader.specs.declared.item.Operand.TheVariants.{Inner, Named, Again}
use Rattle.uset_reader.specs.declared.item.Item.{Item as CodeItem}
use Rattle.uset_reader.specs.declared.item.Item.TheVariants.{Minus, Ampersand, Dollar, Single, Several, Text as Spelled, NamedText, Set}
use Rattle.uset_reader.specs.declared.arrange.Awaits.{Awaits as CodeAwaits}
use Rattle.uset_reader.specs.declared.arrange.Awaits.TheVariants.{Element, AfterSingle, RangeEnd, End, AnchorEnd, AfterSet, RemoveOrEnd, Keep}
use Rattle.uset_reader.specs.declared.arrange.Arranged.{Arranged}
use Rattle.uset_reader.specs.Named.{sets_of}

-- the number of a code point
abbrev pub number_of : CodePoint → ℕ
number_of c = c.number

-- what an item is in the grammar that is known by its members: a set or a string
pub record Meant : Type 0 where
  pub tree : Tree
  pub text : Text

-- an item as the grammar has it, where a set or a string with a name is this
abbrev pub item_seen : Meant → CodeItem → Item
item_seen meant Minus = minus
item_seen meant Ampersand = ampersand
item_seen meant Dollar = dollar
item_seen meant (Single c) = chars (number_of c ∷ [])
item_seen meant (Several codes) = chars (codes.first ∷ codes.more.items)
item_seen meant (Spelled t) = text (characters (string_bytes t))
item_seen meant (NamedText named) = text meant.text
item_seen meant (Set operand) = nested meant.tree

-- the tree has the members of the set
abbrev pub IsNamed : NamedSet → Tree → Type 0
IsNamed set tree = (m : Member) → has tree m ≡ named_in set m

-- the same, and it is the tree that the name stands for
abbrev pub IsNamedOf : Language → NamedOperand → Tree → Type 0
IsNamedOf l named tree = IsNamed named.set tree × IsSetOf (sets_of l) named

-- The tree has the members of the operand, which a name stands for where it has one. Where the operand tells a place, it is that of
-- the name in what was gathered.
abbrev pub IsOperand : Language → Gathering → Operand → Tree → Type 0
IsOperand l g (Inner set) tree = (m : Member) → has tree m ≡ closed_in (sets_of l) set m
IsOperand l g (Named named) tree = IsNamedOf l named.value tree
IsOperand l g (Again place) tree = (name : Name) × IsPlaceOf g name place × StandsFor (sets_of l) name (has tree)

-- the set has the string alone, and is the one that the name stands for
abbrev pub IsNamedText : Language → NamedOperand → Text → Type 0
IsNamedText l named t = ((m : Member) → named_in named.set m ≡ is_text t m) × IsSetOf (sets_of l) named

-- where the item is a set, the tree has its members, and where it is a string with a name, it is that text
abbrev pub Means : Language → Gathering → CodeItem → Meant → Type 0
Means l g (Set operand) meant = IsOperand l g operand meant.tree
Means l g (NamedText named) meant = IsNamedText l named.value meant.text
Means l g Minus meant = Unit {0}
Means l g Ampersand meant = Unit {0}
Means l g Dollar meant = Unit {0}
Means l g (Single c) meant = Unit {0}
Means l g (Several codes) meant = Unit {0}
Means l g (Spelled t) meant = Unit {0}

-- a string isn't one character, and codes are code points
abbrev pub IsProper : CodeItem → Type 0
IsProper (Spelled t) = sole_of (characters (string_bytes t)) ≡ None
IsProper (Several codes) = All (λ n. n ≤ 0x10FFFF) (codes.first ∷ codes.more.items)
IsProper (NamedText named) = Unit {0}
IsProper (Set operand) = Unit {0}
IsProper Minus = Unit {0}
IsProper Ampersand = Unit {0}
IsProper Dollar = Unit {0}
IsProper (Single c) = Unit {0}

-- what is awaited, as the grammar has it
abbrev pub awaits_seen : CodeAwaits → Awaits
awaits_seen Element = element
awaits_seen (AfterSingle c) = after_single (number_of c)
awaits_seen (RangeEnd c) = range_end (number_of c)
awaits_seen End = hyphen_end
awaits_seen AnchorEnd = anchor_end
awaits_seen AfterSet = after_set
awaits_seen RemoveOrEnd = remove_or_end
awaits_seen Keep = keep_set

-- the steps of an operation
abbrev pub operated : Operation → Tree → Steps → Steps
operated Join tree steps = join tree steps
operated Remove tree steps = remove tree steps
operated Retain tree steps = keep tree steps

-- the steps of an item by itself; a single character adds nothing before it is known to begin no range
abbrev pub own_steps : Operation → Item → Steps → Steps
own_steps operation (chars []) steps = steps
own_steps operation (chars (c ∷ [])) steps = steps
own_steps operation (chars (c ∷ d ∷ cs)) steps = add_each (c ∷ d ∷ cs) steps
own_steps operation (text t) steps = add_text t steps
own_steps operation (nested tree) steps = operated operation tree steps
own_steps operation minus steps = steps
own_steps operation ampersand steps = steps
own_steps operation dollar steps = steps

abbrev pub range_steps : Option CodePointRange → Steps → Steps
range_steps None steps = steps
range_steps (Some range) steps = add range.start range.end steps

-- what becomes of an item in steps
abbrev pub arranged_steps : Arranged → Item → Steps → Steps
arranged_steps a i steps = range_steps a.adds (own_steps a.operation i steps)

-- the item is refused, or arranged so
abbrev pub Arranges : Next → Item → Option Arranged → Type 0
Arranges stuck i None = Unit {0}
Arranges (on s f) i (Some a) = (s ≡ awaits_seen a.awaits) × ((steps : Steps) → f steps ≡ arranged_steps a i steps)
Arranges stuck i (Some a) = ⊥
Arranges (on s f) i None = ⊥
