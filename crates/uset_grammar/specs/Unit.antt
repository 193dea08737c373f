-- The units in a bracket (UTS 35, Unicode Sets): an escape, a string in braces or a property.
use Rattle.std.specs.Prelude.{◌≡◌, ℕ, Bool, false, List, ◌∷◌}
use Prim.Native.Char.{code}
use Rattle.uset_grammar.specs.Text.{Text, ◌∈◌}
use Rattle.uset_grammar.specs.Outcome.{Kind, Outcome, HasOutcome}
use Rattle.uset_grammar.specs.Escape.{Spelled}
use Rattle.uset_grammar.specs.EscapeSlips.{in_bracket, EscapeShape, EscapeSlips, EscapeRead}
use Rattle.uset_grammar.specs.BracedString.{StringShape, StringSlips, StringRead}
use Rattle.uset_grammar.specs.Property.{Query, PropertyShape, PropertySlips, PropertyRead}

-- `p` and `P`, which begin a property behind a backslash
abbrev pub begins_property : ℕ → Bool
begins_property c = c ∈ "pP"

-- What a unit stands for.
pub data Meaning : Type 0 where
  an_escape : Spelled → Meaning
  a_string : List Spelled → Meaning
  a_property : Query → Meaning

-- A unit begins: a string, a property, or a backslash with something behind it.
pub data UnitBegins : Text → Type 0 where
  brace_begins : {t : Text} → UnitBegins (code "{" ∷ t)
  posix_begins : {t : Text} → UnitBegins (code "[" ∷ code ":" ∷ t)
  backslash_begins : {d : ℕ} {t : Text} → UnitBegins (code "\\" ∷ d ∷ t)

module _ (white_space : ℕ → Bool) where
  -- The text is a unit, whatever its values are; `\p` and `\P` begin properties alone.
  pub data UnitShape : Text → Type 0 where
    escape_shaped : {c : ℕ} {t : Text} → begins_property c ≡ false → EscapeShape white_space (code "\\" ∷ c ∷ t) →
        UnitShape (code "\\" ∷ c ∷ t)
    string_shaped : {t : Text} → StringShape white_space t → UnitShape t
    property_shaped : {t : Text} → PropertyShape white_space t → UnitShape t

  -- whether an escape of several numbers fits, and which queries resolve or lack a table
  module _ (both : Bool) (resolves lacks : Query → Bool) where
    -- Behind the text the character slips.
    pub data UnitSlips : Text → ℕ → Kind → Text → Type 0 where
      escape_slips : {p b : Text} {c : ℕ} {k : Kind} → EscapeSlips white_space (in_bracket both) p c k b →
          UnitSlips p c k b
      string_slips : {p b : Text} {c : ℕ} {k : Kind} → StringSlips white_space p c k b → UnitSlips p c k b
      property_slips : {p b : Text} {c : ℕ} {k : Kind} → PropertySlips white_space resolves lacks p c k b →
          UnitSlips p c k b

    -- A unit stands in front.
    pub data UnitRead : Text → Meaning → Text → Type 0 where
      escape_read : {c : ℕ} {t r : Text} {v : Spelled} → begins_property c ≡ false →
          EscapeRead white_space (in_bracket both) (code "\\" ∷ c ∷ t) v r →
          UnitRead (code "\\" ∷ c ∷ t) (an_escape v) r
      string_read : {q r : Text} {v : List Spelled} → StringRead white_space q v r → UnitRead q (a_string v) r
      property_read : {q r : Text} {v : Query} → PropertyRead white_space resolves lacks q v r →
          UnitRead q (a_property v) r

    -- the outcome is the one of a text that begins as a unit
    abbrev pub UnitOutcome : Text → Outcome Meaning → Type 0
    UnitOutcome q o = HasOutcome UnitRead UnitShape UnitSlips q o
