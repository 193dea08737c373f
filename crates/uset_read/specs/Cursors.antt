-- What a cursor holds.
use Rattle.std.specs.Prelude.{◌≡◌, ◌∷◌, ◌++◌, ℕ, List}
use Rattle.std.specs.Str.{chars}
use Rattle.uset_grammar.specs.Text.{Text}
use Rattle.uset_grammar.specs.Place.{size}
use Rattle.uset_read.specs.declared.cursor.Cursor.{Cursor}

-- the bytes of the source
abbrev pub source_of : Cursor → List ℕ
source_of cursor = cursor.source.now

-- the bytes of what is left
abbrev pub left_of : Cursor → List ℕ
left_of cursor = cursor.rest.now

-- the offset is the number of bytes of the text before what is left
abbrev pub IsPlace : ℕ → Cursor → Type 0
IsPlace offset cursor =
    (before : Text) → chars (source_of cursor) ≡ before ++ chars (left_of cursor) → offset ≡ size before

-- the offset is the number of bytes of the text before the last character in front of what is left
abbrev pub IsLastPlace : ℕ → Cursor → Type 0
IsLastPlace offset cursor =
    (before : Text) (last : ℕ) → chars (source_of cursor) ≡ before ++ last ∷ chars (left_of cursor) →
    offset ≡ size before
