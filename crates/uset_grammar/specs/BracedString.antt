-- Strings in braces (UTS 35, Unicode Sets): their shapes, their values, and where they slip.
use Rattle.std.specs.Prelude.{◌≡◌, ℕ, zero, suc, Bool, true, length, List, [], ◌∷◌, ◌++◌, codes, Option, Some, None, if◌then◌else◌}
use Rattle.std.specs.List.{list_all}
use Rattle.uset_grammar.specs.Text.{Text, ◌>>=◌, ◌∈◌, behind}
use Rattle.uset_grammar.specs.Outcome.{Kind, Outcome, HasOutcome}
use Rattle.uset_grammar.specs.Escape.{Spelled, itself, codes_of, escape_shape}
use Rattle.uset_grammar.specs.EscapeSlips.{in_string, allowed, EscapeSlips}

abbrev pub with_piece : Spelled → Option (List Spelled × Text) → Option (List Spelled × Text)
with_piece piece read = read >>= λ q. Some (piece ∷ q.0, q.1)

module _ (white_space : ℕ → Bool) where
  -- The pieces up to the closing brace, of at most so many characters and escapes: white space adds nothing, an
  -- escape what it spells, and every other character itself.
  abbrev pub pieces_shape : ℕ → Text → Option (List Spelled × Text)
  pieces_shape zero t = None
  pieces_shape (suc n) [] = None
  pieces_shape (suc n) (c ∷ t) =
      if c ∈ "}" then Some ([], t)
      else if white_space c then pieces_shape n t
      else if c ∈ "\\" then (escape_shape white_space (c ∷ t) >>= λ p. with_piece p.0 (pieces_shape n p.1))
      else with_piece (itself c) (pieces_shape n t)

  -- a string's pieces, with its opening brace, and what stands behind it
  abbrev pub string_shape : Text → Option (List Spelled × Text)
  string_shape t = behind "{" t >>= λ u. pieces_shape (length u) u

  -- the text is a string, whatever its values are
  abbrev pub StringShape : Text → Type 0
  StringShape t = (v : List Spelled) × (string_shape t ≡ Some (v, []))

  -- A string stands in front, and all its pieces are characters.
  pub record StringRead (q : Text) (v : List Spelled) (r : Text) : Type 0 where
    pub shape : string_shape q ≡ Some (v, r)
    pub fits : list_all (allowed in_string) v ≡ true

  -- A string slips where, behind whole pieces, an escape does.
  pub data StringSlips : Text → ℕ → Kind → Text → Type 0 where
    in_escape : {e b : Text} {c : ℕ} {k : Kind} (before : Text) →
        StringShape (before ++ codes "}") → EscapeSlips white_space in_string e c k b →
        StringSlips (before ++ e) c k (before ++ b)

  -- the outcome is the one of a text that begins as a string
  abbrev pub StringOutcome : Text → Outcome (List Spelled) → Type 0
  StringOutcome q o = HasOutcome StringRead StringShape StringSlips q o

-- the characters of the pieces
abbrev pub text_of : List Spelled → Text
text_of [] = []
text_of (s ∷ ss) = codes_of s ++ text_of ss
