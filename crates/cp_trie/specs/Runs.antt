-- Runs of numbers with one value each, the values that a list of them spells, and the maximal runs of a map.
use Rattle.std.specs.Prelude.{◌≡◌, ℕ, ◌+◌, ◌<◌, ◌≤◌, Bool, true, false, Option, Some, None, List, [], ◌∷◌, if◌then◌else◌}
use Rattle.cp_invlist.specs.Ranges.{in_range}
use Rattle.cp_trie.specs.declared.ranges.CodePointMapRange.{CodePointMapRange}

-- the first run that holds a number
abbrev pub run_at : {V : Type 0} → List (CodePointMapRange V) → ℕ → Option (CodePointMapRange V)
run_at [] c = None
run_at (r ∷ rs) c = if in_range r.range c then Some r else run_at rs c

-- the value at a number: that of the first run that holds it, and the error value where none does
abbrev pub value_in : {V : Type 0} → List (CodePointMapRange V) → V → ℕ → V
value_in [] error c = error
value_in (r ∷ rs) error c = if in_range r.range c then r.value else value_in rs error c

-- The maximal runs of a map from a number on, in order, where values count as equal by a test: the first run starts there and has
-- the value of its first number, the values of all its numbers are equal to that one, that of the code point behind it is not, and
-- from there on it goes on so up to 10FFFF.
abbrev pub AreRunsFrom : {V : Type 0} → (V → V → Bool) → (ℕ → V) → ℕ → List (CodePointMapRange V) → Type 0
AreRunsFrom eq at n [] = n ≡ 0x11_0000
AreRunsFrom eq at n (r ∷ rs) =
    (r.range.start ≡ n)
    × (n ≤ r.range.end)
    × (r.range.end ≤ 0x10_FFFF)
    × (r.value ≡ at n)
    × ((c : ℕ) → n ≤ c → c ≤ r.range.end → eq (at n) (at c) ≡ true)
    × (r.range.end < 0x10_FFFF → eq (at n) (at (r.range.end + 1)) ≡ false)
    × AreRunsFrom eq at (r.range.end + 1) rs

-- all maximal runs of a map, in order: they cover 0 to 10FFFF once
abbrev pub AreMaximalRuns : {V : Type 0} → (V → V → Bool) → (ℕ → V) → List (CodePointMapRange V) → Type 0
AreMaximalRuns eq at rs = AreRunsFrom eq at 0 rs
