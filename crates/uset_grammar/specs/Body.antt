-- How the items of a bracket are arranged (UTS 35, Unicode Sets), and which items begin a bracket's.
use Rattle.std.specs.Prelude.{ℕ, ◌≤◌, List, [], ◌∷◌, ◌++◌}
use Prim.Native.Char.{code}
use Rattle.uset_grammar.specs.Text.{Text}
use Rattle.uset_grammar.specs.Tree.{Tree, Steps, done, add, add_text, join, remove, keep}
use Rattle.uset_grammar.specs.Item.{Item, chars, text, nested, minus, ampersand, dollar}

-- adds each of the code points
abbrev pub add_each : List ℕ → Steps → Steps
add_each [] steps = steps
add_each (c ∷ cs) steps = add c c (add_each cs steps)

mutual
  -- The rules that arrange the items up to the `]`, which isn't among them.
  pub data Body : List Item → Steps → Type 0 where
    -- nothing is left
    empty : Body [] done
    -- a hyphen at the end stands for itself
    hyphen : Body (minus ∷ []) (add (code "-") (code "-") done)
    -- a dollar at the end stands for U+FFFF
    anchor : Body (dollar ∷ []) (add 0xFFFF 0xFFFF done)
    -- two single characters with a hyphen between them are a range, the first not above the second
    range : {a b : ℕ} {is : List Item} {steps : Steps} → a ≤ b → Body is steps →
        Body (chars (a ∷ []) ∷ minus ∷ chars (b ∷ []) ∷ is) (add a b steps)
    -- characters stand for themselves
    members : {cs : List ℕ} {is : List Item} {steps : Steps} → Body is steps → Body (chars cs ∷ is) (add_each cs steps)
    -- a string is a member
    texts : {t : Text} {is : List Item} {steps : Steps} → Body is steps → Body (text t ∷ is) (add_text t steps)
    -- a set is joined to all that was gathered
    joins : {tree : Tree} {is : List Item} {steps : Steps} → Tail is steps → Body (nested tree ∷ is) (join tree steps)

  -- What follows a set.
  pub data Tail : List Item → Steps → Type 0 where
    -- a set behind a hyphen is taken away from all that was gathered
    removes : {tree : Tree} {is : List Item} {steps : Steps} → Tail is steps →
        Tail (minus ∷ nested tree ∷ is) (remove tree steps)
    -- of all that was gathered only the members of a set behind an ampersand are kept
    keeps : {tree : Tree} {is : List Item} {steps : Steps} → Tail is steps →
        Tail (ampersand ∷ nested tree ∷ is) (keep tree steps)
    goes_on : {is : List Item} {steps : Steps} → Body is steps → Tail is steps

-- The items fit: with further ones they are arranged. A `]`, or a set and a `]`, suffice to tell.
pub data Fits (is : List Item) : Type 0 where
  closed : {steps : Steps} → Body is steps → Fits is
  closed_behind_set : (tree : Tree) {steps : Steps} → Body (is ++ nested tree ∷ []) steps → Fits is
