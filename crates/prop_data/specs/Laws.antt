-- Laws of table texts, over the definitions alone.
use Rattle.std.specs.Prelude.{◌≡◌, ℕ, ◌≤◌, Bool, false, List, Some, None}
use Rattle.prop_data.specs.Forbidden.{AreAllowed}
use Rattle.prop_data.specs.TableText.{table_fault, tables_in}

-- The sets of a table text without a fault hold nothing that their tables must not hold.
abbrev pub SetsAreAllowed : Type 0
SetsAreAllowed = (lines : List (List ℕ)) → table_fault lines ≡ None → AreAllowed (tables_in lines)

-- Each set of a table text ends: from some number on it has no member.
abbrev pub SetsAreBounded : Type 0
SetsAreBounded = (lines : List (List ℕ)) (t : ℕ) (members : ℕ → Bool) → (tables_in lines).sets t ≡ Some members →
    (bound : ℕ) × ((c : ℕ) → bound ≤ c → members c ≡ false)
