-- The same rules with the `]` as an item: a bracket's items are a list that ends with its only `]`, and a list fits
-- where one of three is arranged: the list, the list and a `]`, or the list, a set and a `]`.
use Rattle.std.specs.Prelude.{ℕ, ◌≤◌, List, [], ◌∷◌, ◌++◌}
use Prim.Native.Char.{code}
use Rattle.uset_grammar.specs.Text.{Text}
use Rattle.uset_grammar.specs.Tree.{Tree, Steps, done, add, add_text, join, remove, keep}
use Rattle.uset_grammar.specs.Item.{Item, chars, text, nested, minus, ampersand, dollar}
use Rattle.uset_grammar.specs.Body.{add_each}

pub data Listed : Type 0 where
  item : Item → Listed
  close : Listed

mutual
  -- The rules that arrange the items through the `]`.
  pub data ListedBody : List Listed → Steps → Type 0 where
    empty : ListedBody (close ∷ []) done
    hyphen : ListedBody (item minus ∷ close ∷ []) (add (code "-") (code "-") done)
    anchor : ListedBody (item dollar ∷ close ∷ []) (add 0xFFFF 0xFFFF done)
    range : {a b : ℕ} {ls : List Listed} {steps : Steps} → a ≤ b → ListedBody ls steps →
        ListedBody (item (chars (a ∷ [])) ∷ item minus ∷ item (chars (b ∷ [])) ∷ ls) (add a b steps)
    members : {cs : List ℕ} {ls : List Listed} {steps : Steps} → ListedBody ls steps →
        ListedBody (item (chars cs) ∷ ls) (add_each cs steps)
    texts : {t : Text} {ls : List Listed} {steps : Steps} → ListedBody ls steps →
        ListedBody (item (text t) ∷ ls) (add_text t steps)
    joins : {tree : Tree} {ls : List Listed} {steps : Steps} → ListedTail ls steps →
        ListedBody (item (nested tree) ∷ ls) (join tree steps)

  -- What follows a set.
  pub data ListedTail : List Listed → Steps → Type 0 where
    removes : {tree : Tree} {ls : List Listed} {steps : Steps} → ListedTail ls steps →
        ListedTail (item minus ∷ item (nested tree) ∷ ls) (remove tree steps)
    keeps : {tree : Tree} {ls : List Listed} {steps : Steps} → ListedTail ls steps →
        ListedTail (item ampersand ∷ item (nested tree) ∷ ls) (keep tree steps)
    goes_on : {ls : List Listed} {steps : Steps} → ListedBody ls steps → ListedTail ls steps

pub data ListedFits (ls : List Listed) : Type 0 where
  as_it_is : {steps : Steps} → ListedBody ls steps → ListedFits ls
  with_close : {steps : Steps} → ListedBody (ls ++ close ∷ []) steps → ListedFits ls
  with_set : (tree : Tree) {steps : Steps} → ListedBody (ls ++ item (nested tree) ∷ close ∷ []) steps → ListedFits ls
