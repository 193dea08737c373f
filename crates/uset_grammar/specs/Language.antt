-- What a pattern is read by: the three tables of the syntax (UAX 31), the variables (UTS 35, Unicode Sets), and what
-- the properties resolve to (UAX 44, 5.9).
use Rattle.std.specs.Prelude.{ℕ, Bool, true, false, [], ◌∷◌, Option, Some, None, is_some}
use Rattle.cp_invlist.specs.InversionList.{differ}
use Rattle.uset_grammar.specs.Text.{Text}
use Rattle.uset_grammar.specs.Escape.{Apart, codes_of}
use Rattle.uset_grammar.specs.BracedString.{text_of}
use Rattle.uset_grammar.specs.Property.{Query}
use Rattle.uset_grammar.specs.Unit.{Meaning, an_escape, a_string, a_property}
use Rattle.uset_grammar.specs.Tree.{Tree, Member, given, property}
use Rattle.uset_grammar.specs.Item.{Item, chars, text, nested, text_item}

-- What a variable is bound to: a character, a string of other than one character, or a set, by its members.
pub data Value : Type 0 where
  character : ℕ → Value
  string : Text → Value
  set : (Member → Bool) → Value

abbrev pub item_of : Value → Item
item_of (character c) = chars (c ∷ [])
item_of (string t) = text t
item_of (set members) = nested (given members)

abbrev pub is_set : Value → Bool
is_set (character c) = false
is_set (string t) = false
is_set (set members) = true

-- What a key and a value resolve to: whether the value is a word for falsehood, which negates, and the code points of
-- the source.
pub record Resolved : Type 0 where
  pub falsy : Bool
  pub source : ℕ → Bool

pub record Language : Type 0 where
  -- white space of patterns
  pub white_space : ℕ → Bool
  -- the characters that begin a name, and those that continue it
  pub start : ℕ → Bool
  pub continue : ℕ → Bool
  -- what a name is bound to
  pub variable : Text → Option Value
  -- what a key with a value or none resolves to
  pub resolve : Text → Option Text → Option Resolved
  -- whether a table is absent that the key and the value ask
  pub lacking : Text → Option Text → Bool

-- whether a property resolves
abbrev pub resolves : Language → Query → Bool
resolves l q = is_some (l.resolve q.key q.value)

-- whether a table is absent that it asks
abbrev pub lacks : Language → Query → Bool
lacks l q = l.lacking q.key q.value

-- a property by what it resolves to; one that resolves to nothing isn't read, and has no members here
abbrev pub found : Bool → Option Resolved → Tree
found negated None = property negated (λ c. false)
found negated (Some r) = property (differ negated r.falsy) r.source

-- the tree of a property
abbrev pub property_tree : Language → Query → Tree
property_tree l q = found q.negated (l.resolve q.key q.value)

-- the item of a unit
abbrev pub stands_for : Language → Meaning → Item
stands_for l (an_escape v) = chars (codes_of v)
stands_for l (a_string ss) = text_item (text_of ss)
stands_for l (a_property q) = nested (property_tree l q)

-- White space is no hexadecimal digit, no closing brace and no backslash: below U+0021 alone it is ASCII (UAX 31, R3a).
abbrev pub Lawful : Language → Type 0
Lawful l = Apart l.white_space
