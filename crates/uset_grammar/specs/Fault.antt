-- What is wrong with a source, and where: each fault stands at a place that is reached.
use Rattle.std.specs.Prelude.{◌≡◌, ◌↔◌, ℕ, Bool, true, false, List, [], ◌∷◌, ◌++◌, Option, Some, None, if◌then◌else◌}
use Prim.Native.Char.{code}
use Rattle.uset_grammar.specs.Text.{Text, Ends}
use Rattle.uset_grammar.specs.Outcome.{Kind, unexpected, unknown_variable, unexpected_variable, eof, Faulty, Sound}
use Rattle.uset_grammar.specs.Escape.{is_surrogate}
use Rattle.uset_grammar.specs.Property.{PropertyShape, PropertySlips}
use Rattle.uset_grammar.specs.Unit.{UnitShape, UnitSlips}
use Rattle.uset_grammar.specs.Tree.{Steps}
use Rattle.uset_grammar.specs.Item.{Item, chars, nested, is_several, tree_of}
use Rattle.uset_grammar.specs.Body.{Body, Fits}
use Rattle.uset_grammar.specs.Language.{Value, is_set, Language, resolves, lacks}
use Rattle.uset_grammar.specs.Front.{ahead, closing, of_name, begins_unit, caret, front, too_short, stray, bare, of_variable, of_property, first}
use Rattle.uset_grammar.specs.Grammar.{Sort, of_variable_name, ItemAt}
use Rattle.uset_grammar.specs.Reached.{OpenBracket, is_short, is_last_property, At, Reached}

-- the code point as a character: U+FFFD for a surrogate
abbrev pub as_character : ℕ → ℕ
as_character c = if is_surrogate c then 0xFFFD else c

-- A single character where the greatest one would fit: where it doesn't fit itself, it ends a range that is reversed.
pub record Reversed (items : List Item) (i : Item) : Type 0 where
  pub code : ℕ
  pub is : i ≡ chars (code ∷ [])
  pub fits_greatest : Fits (items ++ chars (0x10FFFF ∷ []) ∷ [])

-- whether an escape of two numbers fits behind the items
abbrev pub AreTwoFit : Bool → List Item → Type 0
AreTwoFit both items = (both ≡ true) ↔ Fits (items ++ chars (0 ∷ 0 ∷ []) ∷ [])

module _ (l : Language) where
  -- a property that begins the text fails so, or the text ends in it
  abbrev pub PropertyFaulty : Text → Kind → Text → Type 0
  PropertyFaulty t k w = Faulty (PropertyShape l.white_space) (PropertySlips l.white_space (resolves l) (lacks l)) t k w

  abbrev pub PropertySound : Text → Type 0
  PropertySound t = Sound (PropertyShape l.white_space) (PropertySlips l.white_space (resolves l) (lacks l)) t

  -- a unit that begins the text in a bracket fails so, or the text ends in it
  abbrev pub UnitFaulty : Bool → Text → Kind → Text → Type 0
  UnitFaulty both q k w = Faulty (UnitShape l.white_space) (UnitSlips l.white_space both (resolves l) (lacks l)) q k w

  abbrev pub UnitSound : Bool → Text → Type 0
  UnitSound both q = Sound (UnitShape l.white_space) (UnitSlips l.white_space both (resolves l) (lacks l)) q

module _ (l : Language) (source : Text) where
  -- A fault with these brackets open and this rest: its kind, and the text before its place.
  pub data FaultAt : List OpenBracket → Text → Kind → Option Text → Type 0 where
    -- AT THE FIRST CHARACTER
    -- nothing, or a `$` alone
    empty : {t : Text} → first l t ≡ too_short → FaultAt [] t eof None
    -- a character that begins no set
    no_set : {t p : Text} {c : ℕ} → first l t ≡ stray c → At l source t p → FaultAt [] t (unexpected c) (Some p)
    -- a `$` with no name behind it
    no_name : {t p : Text} → first l t ≡ bare → At l source t p → FaultAt [] t (unexpected (code "$")) (Some p)
    -- a name that is bound to nothing, or to no set: at its last character
    unbound_first : {t n r p : Text} → first l t ≡ of_variable n r → l.variable n ≡ None → Ends source p r →
        FaultAt [] t unknown_variable (Some p)
    no_set_variable : {t n r p : Text} {v : Value} → first l t ≡ of_variable n r → l.variable n ≡ Some v →
        is_set v ≡ false → Ends source p r → FaultAt [] t unexpected_variable (Some p)
    -- inside a property
    property_fails : {t w : Text} (p : Text) {k : Kind} → first l t ≡ of_property → PropertyFaulty l t k w →
        At l source t p → FaultAt [] t k (Some (p ++ w))
    property_ends : {t : Text} → first l t ≡ of_property → PropertySound l t → FaultAt [] t eof None
    -- IN A BRACKET, behind white space
    -- nothing, or one last character other than `]`
    short : {t : Text} {b : OpenBracket} {bs : List OpenBracket} → is_short (ahead l t) ≡ true →
        FaultAt (b ∷ bs) t eof None
    -- a `^`
    a_caret : {t p : Text} {b : OpenBracket} {bs : List OpenBracket} → is_short (ahead l t) ≡ false →
        front l (ahead l t) ≡ caret → At l source (ahead l t) p → FaultAt (b ∷ bs) t (unexpected (code "^")) (Some p)
    -- a name that is bound to nothing: at its last character
    unbound : {t n r p : Text} {b : OpenBracket} {bs : List OpenBracket} → front l (ahead l t) ≡ of_name n r →
        l.variable n ≡ None → Ends source p r → FaultAt (b ∷ bs) t unknown_variable (Some p)
    -- a variable that doesn't fit: at the last character of its name
    unfit_variable : {t r p : Text} {i : Item} {b : OpenBracket} {bs : List OpenBracket} →
        ItemAt l (ahead l t) of_variable_name i r → (Fits (b.items ++ i ∷ []) → ⊥) → (Reversed b.items i → ⊥) →
        Ends source p r → FaultAt (b ∷ bs) t unexpected_variable (Some p)
    -- the end of a reversed range, also where it is a variable: at the last character of the item
    reversed : {t r p : Text} {s : Sort} {i : Item} {b : OpenBracket} {bs : List OpenBracket} →
        is_short (ahead l t) ≡ false → ItemAt l (ahead l t) s i r → (Fits (b.items ++ i ∷ []) → ⊥) →
        (e : Reversed b.items i) → Ends source p r → FaultAt (b ∷ bs) t (unexpected (as_character e.code)) (Some p)
    -- any other item that doesn't fit: at its first character
    unfit : {t u r p : Text} {c : ℕ} {s : Sort} {i : Item} {b : OpenBracket} {bs : List OpenBracket} →
        is_short (ahead l t) ≡ false → ItemAt l (ahead l t) s i r → (s ≡ of_variable_name → ⊥) →
        is_last_property s i r ≡ false → is_several i ≡ false → (Fits (b.items ++ i ∷ []) → ⊥) →
        (Reversed b.items i → ⊥) → ahead l t ≡ c ∷ u → At l source (c ∷ u) p →
        FaultAt (b ∷ bs) t (unexpected c) (Some p)
    -- a `]` behind items that are arranged in no way
    unfit_close : {t r p : Text} {b : OpenBracket} {bs : List OpenBracket} → front l (ahead l t) ≡ closing r →
        ((steps : Steps) → Body b.items steps → ⊥) → At l source (ahead l t) p →
        FaultAt (b ∷ bs) t (unexpected (code "]")) (Some p)
    -- a bracket inside, with something behind it, that doesn't fit outside: at its first character
    unfit_nested : {t r : Text} {c : ℕ} {b outer : OpenBracket} {bs : List OpenBracket} {steps : Steps} →
        front l (ahead l t) ≡ closing (c ∷ r) → Body b.items steps →
        (Fits (outer.items ++ nested (tree_of b.header steps) ∷ []) → ⊥) →
        FaultAt (b ∷ outer ∷ bs) t (unexpected (code "[")) (Some b.before)
    -- a property or a bracket inside with nothing behind it
    last_property : {t r : Text} {s : Sort} {i : Item} {b : OpenBracket} {bs : List OpenBracket} →
        ItemAt l (ahead l t) s i r → is_last_property s i r ≡ true → FaultAt (b ∷ bs) t eof None
    last_nested : {t : Text} {b outer : OpenBracket} {bs : List OpenBracket} {steps : Steps} →
        front l (ahead l t) ≡ closing [] → Body b.items steps → FaultAt (b ∷ outer ∷ bs) t eof None
    -- inside a unit
    unit_fails : {t w : Text} (p : Text) {both : Bool} {k : Kind} {b : OpenBracket} {bs : List OpenBracket} →
        is_short (ahead l t) ≡ false → front l (ahead l t) ≡ begins_unit → AreTwoFit both b.items →
        UnitFaulty l both (ahead l t) k w → At l source (ahead l t) p → FaultAt (b ∷ bs) t k (Some (p ++ w))
    unit_ends : {t : Text} {both : Bool} {b : OpenBracket} {bs : List OpenBracket} → is_short (ahead l t) ≡ false →
        front l (ahead l t) ≡ begins_unit → AreTwoFit both b.items → UnitSound l both (ahead l t) →
        FaultAt (b ∷ bs) t eof None

  -- a fault at a place that is reached
  pub record Fault (kind : Kind) (place : Option Text) : Type 0 where
    pub brackets : List OpenBracket
    pub rest : Text
    pub reached : Reached l source brackets rest
    pub fails : FaultAt brackets rest kind place
