-- What is read has finitely many members (UTS 35, Unicode Sets).
use Rattle.std.specs.Prelude.{◌≡◌, ◌≢◌, ℕ, ◌≤◌, Bool, true, false, All, List, length, encode_utf8_all, Option, Some}
use Rattle.std.specs.List.{list_any}
use Rattle.std.specs.Str.{all_scalars, bytes_eq}
use Rattle.uset_grammar.specs.Text.{Text}
use Rattle.uset_grammar.specs.Tree.{Member, point, string}
use Rattle.uset_grammar.specs.Language.{Value, character, string as string_value, set, Resolved, Language}

-- no number from some one on is a code point of it
pub record IsBounded (code_points : ℕ → Bool) : Type 0 where
  pub bound : ℕ
  pub beyond : (c : ℕ) → bound ≤ c → code_points c ≡ false

-- a text of characters, and not of exactly one
pub record IsString (t : Text) : Type 0 where
  pub characters : all_scalars t ≡ true
  pub not_one : length t ≢ 1

-- The code points are bounded, and each string is one of some texts.
pub record IsFinite (members : Member → Bool) : Type 0 where
  pub code_points : IsBounded (λ c. members (point c))
  pub texts : List Text
  pub are_strings : All IsString texts
  pub only : (bytes : List ℕ) → members (string bytes) ≡ true →
      list_any (λ t. bytes_eq (encode_utf8_all t) bytes) texts ≡ true

-- a string is no single character, and a set is finite
abbrev pub IsFiniteValue : Value → Type 0
IsFiniteValue (character c) = Unit {0}
IsFiniteValue (string_value t) = IsString t
IsFiniteValue (set members) = IsFinite members

-- What names are bound to is finite, and so are the sources of properties.
pub record IsFiniteLanguage (l : Language) : Type 0 where
  pub variables : (name : Text) (v : Value) → l.variable name ≡ Some v → IsFiniteValue v
  pub properties : (key : Text) (value : Option Text) (r : Resolved) → l.resolve key value ≡ Some r → IsBounded r.source
