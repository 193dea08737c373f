-- A text cut at its lines, which are those of std: a line ends at LF or at the end of the text, and a CR right before an LF
-- belongs to the ending.
use Rattle.std.specs.Prelude.{◌≡◌, ℕ, List, [], ◌∷◌, ◌++◌, ◌⊎◌}

-- the text is cut behind the ending of a line, or at its end
pub record IsCut (text rest : List ℕ) : Type 0 where
  pub front : List ℕ
  pub joins : text ≡ front ++ rest
  pub ends : (rest ≡ []) ⊎ ((inner : List ℕ) × (front ≡ inner ++ 0x0A ∷ []))
