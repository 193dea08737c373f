-- Runs with neighbours of equal value joined.
use Rattle.std.specs.Prelude.{Bool, List, [], ◌∷◌, if◌then◌else◌}
use Rattle.cp_trie.specs.declared.ranges.CodePointMapRange.{CodePointMapRange}

-- the first run up to the end of the second
abbrev pub up_to : {V : Type 0} → CodePointMapRange V → CodePointMapRange V → CodePointMapRange V
up_to r s = record { range = record { start = r.range.start; end = s.range.end }; value = r.value }

-- a run and those behind it
abbrev pub joined_from : {V : Type 0} → (V → V → Bool) → CodePointMapRange V → List (CodePointMapRange V) →
    List (CodePointMapRange V)
joined_from eq r [] = r ∷ []
joined_from eq r (s ∷ ss) = if eq r.value s.value then joined_from eq (up_to r s) ss else r ∷ joined_from eq s ss

-- all runs
abbrev pub joined : {V : Type 0} → (V → V → Bool) → List (CodePointMapRange V) → List (CodePointMapRange V)
joined eq [] = []
joined eq (r ∷ rs) = joined_from eq r rs
