-- The ranges of those runs whose values pass a test, where ranges that touch are joined.
use Rattle.std.specs.Prelude.{Bool, List, [], ◌∷◌, Option, Some, None, if◌then◌else◌}
use Rattle.cp_invlist.specs.declared.ranges.CodePointRange.{CodePointRange}
use Rattle.cp_trie.specs.declared.ranges.CodePointMapRange.{CodePointMapRange}

-- the range before, where there is one, up to the end of the range that touches it
abbrev pub grown : Option CodePointRange → CodePointRange → CodePointRange
grown None r = r
grown (Some begun) r = record { start = begun.start; end = r.end }

-- the range before, where there is one, and the ranges behind it
abbrev pub closed : Option CodePointRange → List CodePointRange → List CodePointRange
closed None rs = rs
closed (Some begun) rs = begun ∷ rs

-- The ranges of the runs whose values pass the test. The range before, where there is one, touches the first run.
abbrev pub passing_from : {V : Type 0} → (V → Bool) → Option CodePointRange → List (CodePointMapRange V) →
    List CodePointRange
passing_from passes begun [] = closed begun []
passing_from passes begun (r ∷ rs) =
    if passes r.value then passing_from passes (Some (grown begun r.range)) rs
    else closed begun (passing_from passes None rs)

abbrev pub passing : {V : Type 0} → (V → Bool) → List (CodePointMapRange V) → List CodePointRange
passing passes rs = passing_from passes None rs
