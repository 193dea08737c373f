-- Faults of the code as those of the grammar.
use Rattle.std.specs.Prelude.{◌≡◌, ℕ, List, ◌∷◌, ◌++◌, Option, Some, None}
use Rattle.std.specs.Str.{chars}
use Rattle.uset_grammar.specs.Text.{Text}
use Rattle.uset_grammar.specs.Outcome.{eof}
use Rattle.uset_grammar.specs.Place.{size, offset_of}
use Rattle.uset_read.specs.declared.cursor.Cursor.{Cursor}
use Rattle.uset_read.specs.declared.stop.Stop.{Stop}
use Rattle.uset_read.specs.declared.stop.Stop.TheVariants.{Fault, Ended, NoMemory as OutOfMemory}
use Rattle.uset_read.specs.Stops.{kind_seen}
use Rattle.uset_read.specs.Cursors.{source_of}
use Rattle.uset_fault.specs.declared.error.ParseError.{ParseError}
use Rattle.uset_fault.specs.Errors.{kind_told, kind_of, offset_in}

-- the offset is that of the front of the rest
abbrev pub IsAt : Cursor → List ℕ → Option ℕ → Type 0
IsAt cursor rest offset =
    (before : Text) → chars (source_of cursor) ≡ before ++ chars rest → offset ≡ Some (size before)

-- the offset is that of the last character in front of the rest
abbrev pub IsBefore : Cursor → List ℕ → Option ℕ → Type 0
IsBefore cursor rest offset =
    (before : Text) (last : ℕ) → chars (source_of cursor) ≡ before ++ last ∷ chars rest → offset ≡ Some (size before)

-- the error says why a unit isn't read
abbrev pub IsStop : Cursor → Stop → ParseError → Type 0
IsStop cursor (Fault kind rest) error =
    (kind_told (kind_of error) ≡ Some (kind_seen kind))
    × ((before : Text) → chars (source_of cursor) ≡ before ++ chars rest.now →
    offset_in error ≡ offset_of (kind_seen kind) (Some before))
IsStop cursor Ended error = (kind_told (kind_of error) ≡ Some eof) × (offset_in error ≡ None)
IsStop cursor OutOfMemory error = (kind_told (kind_of error) ≡ None) × (offset_in error ≡ None)
