-- The numbers that the maps of a database hold.
use Rattle.std.specs.Prelude.{◌≡◌, ℕ, true}
use Rattle.prop_data.specs.LineFault.{accepts_value}

-- the table of this number accepts the number of each value
abbrev pub AreAccepted : ℕ → (ℕ → ℕ) → Type 0
AreAccepted table values = (c : ℕ) → accepts_value table (values c) ≡ true
