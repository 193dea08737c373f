-- A string in braces and its pieces, as the code keeps them.
use Rattle.std.specs.Prelude.{◌≡◌, ◌≤◌, length, ℕ, suc, Bool, true, String, List, [], ◌∷◌, ◌++◌, Option, Some, None}
use Rattle.std.specs.Str.{chars}
use Rattle.std.specs.String.{string_bytes}
use Prim.Native.Char.{code}
use Rattle.cp_invlist.specs.InversionList.{contains}
use Rattle.uset_grammar.specs.Text.{Text}
use Rattle.uset_grammar.specs.Outcome.{Outcome, got}
use Rattle.uset_grammar.specs.Escape.{Apart, Spelled}
use Rattle.uset_grammar.specs.EscapeSlips.{in_string, fits_in}
use Rattle.uset_grammar.specs.BracedString.{StringOutcome, text_of}
use Rattle.uset_grammar.specs.StringParts.{pieces_in}
use Rattle.uset_read.specs.declared.stop.Stop.{Stop}
use Rattle.uset_read.specs.Stops.{Stops}
use Rattle.uset_read.specs.UnitRead.{StopsAt}
use Rattle.uset_read.specs.declared.braced_string.Piece.{Piece}
use Rattle.uset_read.specs.declared.braced_string.Piece.TheVariants.{Closed, Space, Spelled as Part}
use Rattle.uset_read.specs.Spelled.{spelled_seen}

-- the number is a character's
abbrev pub is_character : ℕ → Bool
is_character n = fits_in in_string n

-- the piece as the code keeps it
abbrev pub piece_seen : Piece → Outcome (Option (Option Spelled))
piece_seen (Closed rest) = got None (chars rest.now)
piece_seen (Space rest) = got (Some None) (chars rest.now)
piece_seen (Part spelled rest) = got (Some (Some (spelled_seen spelled))) (chars rest.now)

-- the bytes behind it
abbrev pub behind_piece : Piece → List ℕ
behind_piece (Closed rest) = rest.now
behind_piece (Space rest) = rest.now
behind_piece (Part spelled rest) = rest.now

-- The string has the characters of the pieces of the text, and they and the closing brace come before the rest.
pub record PiecesAre (white_space text string rest : List ℕ) : Type 0 where
  pub pieces : List Spelled
  pub read : pieces_in (contains white_space) (suc (length text)) [] (chars text) ≡ got pieces (chars rest)
  pub characters : chars string ≡ text_of pieces
  pub few : length (chars text) ≤ length text

-- the pieces stop so
abbrev pub PiecesStop : List ℕ → List ℕ → Stop → Type 0
PiecesStop white_space text stop =
    Apart (contains white_space) →
    Stops (pieces_in (contains white_space) (suc (length text)) [] (chars text)) stop
    × (length (chars text) ≤ length text)

-- The string was read at the front of the text, which begins with an opening brace: its characters are those of the
-- pieces there, and the rest stands behind it.
abbrev pub StringIs : List ℕ → List ℕ → List ℕ → List ℕ → Type 0
StringIs white_space text string rest =
    Apart (contains white_space) → (inner : Text) → chars text ≡ code "{" ∷ inner →
    (pieces : List Spelled) × StringOutcome (contains white_space) (chars text) (got pieces (chars rest))
    × (chars string ≡ text_of pieces)

-- The string there has the fault, with the place, or is not ended, as it says.
abbrev pub StringStops : List ℕ → List ℕ → Stop → Type 0
StringStops white_space text stop =
    Apart (contains white_space) → (inner : Text) → chars text ≡ code "{" ∷ inner →
    StopsAt (StringOutcome (contains white_space) (chars text)) (chars text) stop

-- the string has these characters more
abbrev pub Appended : List ℕ → List ℕ → Text → Type 0
Appended old new more = chars new ≡ chars old ++ more

-- the same, where the answer is true
abbrev pub Pushed : {Z : Type 0} → Bool → String Z → String Z → Text → Type 0
Pushed pushed old new more = pushed ≡ true → Appended (string_bytes old) (string_bytes new) more
