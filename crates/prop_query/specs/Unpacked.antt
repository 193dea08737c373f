-- The runs of a map of numbers with the values that the numbers unpack to.
use Rattle.std.specs.Prelude.{◌≡◌, ℕ, true, List, [], ◌∷◌, Option, Some, None}
use Rattle.cp_trie.specs.declared.ranges.CodePointMapRange.{CodePointMapRange}
use Rattle.prop_data.specs.LineFault.{accepts_value}

-- a run with another value, where there is one, before other runs
abbrev pub with_value : {V : Type 0} → CodePointMapRange ℕ → Option V → List (CodePointMapRange V) →
    List (CodePointMapRange V)
with_value r None rs = rs
with_value r (Some v) rs = record { range = r.range; value = v } ∷ rs

-- the runs whose numbers unpack to a value, with that value
abbrev pub unpacked_runs : {V : Type 0} → (ℕ → Option V) → List (CodePointMapRange ℕ) → List (CodePointMapRange V)
unpacked_runs unpacked [] = []
unpacked_runs unpacked (r ∷ rs) = with_value r (unpacked r.value) (unpacked_runs unpacked rs)

-- the table accepts the number of each run
abbrev pub AreRunsAccepted : ℕ → List (CodePointMapRange ℕ) → Type 0
AreRunsAccepted table [] = Unit {0}
AreRunsAccepted table (r ∷ rs) = (accepts_value table r.value ≡ true) × AreRunsAccepted table rs
