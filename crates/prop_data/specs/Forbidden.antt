-- The ASCII characters that the tables of the syntax of patterns must not hold (UAX 31, R3a).
use Rattle.std.specs.Prelude.{◌≡◌, ℕ, Bool, true, false, Some}
use Rattle.std.specs.List.{list_any}
use Rattle.prop_data.specs.LineFault.{overlaps, forbidden}
use Rattle.prop_data.specs.Tables.{Tables}

-- the set table of this number must not hold the code point
abbrev pub is_forbidden : ℕ → ℕ → Bool
is_forbidden t c = list_any (overlaps (c, c)) (forbidden t)

-- the set holds nothing that its table must not hold
abbrev pub IsAllowed : ℕ → (ℕ → Bool) → Type 0
IsAllowed t members = (c : ℕ) → is_forbidden t c ≡ true → members c ≡ false

-- no set of the tables does
abbrev pub AreAllowed : Tables → Type 0
AreAllowed tables = (t : ℕ) (members : ℕ → Bool) → tables.sets t ≡ Some members → IsAllowed t members
