-- The items of a bracket (UTS 35, Unicode Sets), without the `]` that closes it.
use Rattle.std.specs.Prelude.{ℕ, Bool, true, false, List, [], ◌∷◌}
use Rattle.uset_grammar.specs.Text.{Text}
use Rattle.uset_grammar.specs.Tree.{Tree, Steps, bracket}

pub data Item : Type 0 where
  -- the code points that it stands for; one alone is a single character
  chars : List ℕ → Item
  -- a string
  text : Text → Item
  -- a set inside
  nested : Tree → Item
  minus : Item
  ampersand : Item
  dollar : Item

-- a text as an item: its one character where it has exactly one, else a string
abbrev pub text_item : Text → Item
text_item [] = text []
text_item (c ∷ []) = chars (c ∷ [])
text_item (c ∷ d ∷ t) = text (c ∷ d ∷ t)

-- two code points or more
abbrev pub is_several : Item → Bool
is_several (chars []) = false
is_several (chars (c ∷ [])) = false
is_several (chars (c ∷ d ∷ cs)) = true
is_several (text t) = false
is_several (nested t) = false
is_several minus = false
is_several ampersand = false
is_several dollar = false

-- What a bracket begins with: whether it is negated, and whether a hyphen is its first member.
pub record Opening : Type 0 where
  pub negated : Bool
  pub leading : Bool

-- the tree of a bracket, by what it begins with and its steps
abbrev pub tree_of : Opening → Steps → Tree
tree_of o steps = bracket o.negated o.leading steps
