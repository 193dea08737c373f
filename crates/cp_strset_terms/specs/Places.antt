-- Texts behind references, and places in a list of strings.
use Rattle.std.specs.Prelude.{◌≡◌, ℕ, List, Some, map}
use Rattle.std.specs.Borrow.{Bor}
use Rattle.std.specs.List.{slice_get}

-- the texts that are referred to, each by its bytes
abbrev pub texts : List (Bor (List ℕ)) → List (List ℕ)
texts list = map (λ text. text.now) list

-- the string stands at the place
abbrev pub IsAt : List (List ℕ) → ℕ → List ℕ → Type 0
IsAt list place text = slice_get list place ≡ Some text
