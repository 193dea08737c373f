-- The names of the binary properties that ECMA-262 has (its table "Binary Unicode property aliases and their canonical property
-- names"), other than Any, ASCII and Assigned. White_Space has the short name WSpace of UAX 44 and not the alias space.
use Rattle.std.specs.Prelude.{◌≡◌, ℕ, Bool, true, ◌&&◌, ◌||◌, Option, Some, IfSome, List, slice_get}
use Rattle.std.specs.List.{position}
use Rattle.std.specs.Str.{bytes_eq}
use Rattle.prop_binary.specs.Tables.{properties}

-- ECMA-262 has the property, and the text is its long or its short name
abbrev pub is_ecma262_name : List ℕ → List ℕ × List ℕ × Bool → Bool
is_ecma262_name text property = property.2 && (bytes_eq property.0 text || bytes_eq property.1 text)

-- the number of the table of the property with this name in ECMA-262
abbrev pub ecma262_number : List ℕ → Option ℕ
ecma262_number text = position (λ property. is_ecma262_name text property) properties

-- each property that has the text as such a name has this number, so that no text is the name of two properties
abbrev pub IsOnlyNumber : List ℕ → Option ℕ → Type 0
IsOnlyNumber text number =
    (k : ℕ) → IfSome (slice_get properties k) (λ property. is_ecma262_name text property ≡ true → number ≡ Some k)
