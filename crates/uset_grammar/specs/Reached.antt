-- The brackets that are open at a place of a source, the items that they hold there, and the places that are reached.
use Rattle.std.specs.Prelude.{◌≡◌, ℕ, Bool, true, false, not, List, [], ◌∷◌, ◌++◌}
use Rattle.uset_grammar.specs.Text.{Text, ◌∈◌}
use Rattle.uset_grammar.specs.Tree.{Steps}
use Rattle.uset_grammar.specs.Item.{Item, nested, Opening, tree_of}
use Rattle.uset_grammar.specs.Body.{Body, Fits}
use Rattle.uset_grammar.specs.Language.{Language}
use Rattle.uset_grammar.specs.Front.{ahead, closing, opening, front, of_bracket, first}
use Rattle.uset_grammar.specs.Grammar.{Sort, of_unit, ItemAt}

-- An open bracket: the text before it, what it begins with, and the items that were read.
pub record OpenBracket : Type 0 where
  pub before : Text
  pub header : Opening
  pub items : List Item

-- with one more item
abbrev pub with_item : OpenBracket → Item → OpenBracket
with_item b i = record b { items = b.items ++ i ∷ [] }

-- nothing, or one last character other than `]`: an item needs a character behind it
abbrev pub is_short : Text → Bool
is_short [] = true
is_short (c ∷ []) = not (c ∈ "]")
is_short (c ∷ d ∷ t) = false

-- a property with nothing behind it
abbrev pub is_last_property : Sort → Item → Text → Bool
is_last_property of_unit (nested t) [] = true
is_last_property s i r = false

module _ (l : Language) (source : Text) where
  -- the text before this rest of the source
  abbrev pub At : Text → Text → Type 0
  At rest before = source ≡ before ++ rest

  -- One step from the open brackets, the innermost first, and the rest to what they are then.
  pub data Moves : List OpenBracket → Text → List OpenBracket → Text → Type 0 where
    -- a bracket opens at the first character
    opens_first : {t inner before : Text} {o : Opening} → first l t ≡ of_bracket o inner → At t before →
        Moves [] t (record { before = before; header = o; items = [] } ∷ []) inner
    -- a bracket opens inside, whether a set fits there or not
    opens : {t inner before : Text} {o : Opening} {b : OpenBracket} {bs : List OpenBracket} →
        is_short (ahead l t) ≡ false → front l (ahead l t) ≡ opening o inner → At (ahead l t) before →
        Moves (b ∷ bs) t (record { before = before; header = o; items = [] } ∷ b ∷ bs) inner
    -- an item that fits is taken
    takes : {t next : Text} {s : Sort} {i : Item} {b : OpenBracket} {bs : List OpenBracket} →
        is_short (ahead l t) ≡ false → ItemAt l (ahead l t) s i next → Fits (b.items ++ i ∷ []) →
        is_last_property s i next ≡ false → Moves (b ∷ bs) t (with_item b i ∷ bs) next
    -- a bracket inside closes, something stands behind it, and its set fits outside
    closes : {t next : Text} {c : ℕ} {b outer : OpenBracket} {bs : List OpenBracket} {steps : Steps} →
        front l (ahead l t) ≡ closing (c ∷ next) → Body b.items steps →
        Fits (outer.items ++ nested (tree_of b.header steps) ∷ []) →
        Moves (b ∷ outer ∷ bs) t (with_item outer (nested (tree_of b.header steps)) ∷ bs) (c ∷ next)

  -- The brackets that are open and the rest, reached from the whole source.
  pub data Reached : List OpenBracket → Text → Type 0 where
    whole : Reached [] source
    further : {bs cs : List OpenBracket} {t u : Text} → Reached bs t → Moves bs t cs u → Reached cs u
