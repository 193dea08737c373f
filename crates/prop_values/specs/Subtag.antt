-- Subtags of scripts: four ASCII letters, the first upper-case and the others lower-case (RFC 5646, section 2.1.1).
use Rattle.std.specs.Prelude.{◌≡◌, ℕ, Bool, true, false, ◌&&◌, List, [], ◌∷◌, map}
use Rattle.std.specs.Char.{is_ascii_alphabetic, to_ascii_uppercase, to_ascii_lowercase}

-- the text is four ASCII letters
abbrev pub is_four_letters : List ℕ → Bool
is_four_letters [] = false
is_four_letters (a ∷ []) = false
is_four_letters (a ∷ b ∷ []) = false
is_four_letters (a ∷ b ∷ c ∷ []) = false
is_four_letters (a ∷ b ∷ c ∷ d ∷ []) =
    is_ascii_alphabetic a && (is_ascii_alphabetic b && (is_ascii_alphabetic c && is_ascii_alphabetic d))
is_four_letters (a ∷ b ∷ c ∷ d ∷ e ∷ rest) = false

-- the text with its first letter upper-case and the others lower-case
abbrev pub in_subtag_case : List ℕ → List ℕ
in_subtag_case [] = []
in_subtag_case (x ∷ xs) = to_ascii_uppercase x ∷ map to_ascii_lowercase xs

-- four letters in that case
pub record IsSubtag (letters : List ℕ) : Type 0 where
  pub four_letters : is_four_letters letters ≡ true
  pub cased : in_subtag_case letters ≡ letters
