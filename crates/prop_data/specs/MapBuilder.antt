-- A map whose values are still being read.
use Rattle.std.specs.Prelude.{ℕ, ◌+◌, ◌&&◌, ◌==◌, Option, Some, None, List, [], ◌∷◌, if◌then◌else◌}
use Rattle.cp_invlist.specs.declared.ranges.CodePointRange.{CodePointRange}
use Rattle.cp_trie.specs.Faults.{is_in_order}
use Rattle.cp_trie.specs.declared.ranges.CodePointMapRange.{CodePointMapRange}

-- the number past the last of the runs, which cover the code points from a number on without a gap
abbrev pub end_of_runs : {V : Type 0} → ℕ → List (CodePointMapRange V) → Option ℕ
end_of_runs n [] = Some n
end_of_runs n (r ∷ rs) = if r.range.start == n && is_in_order r then end_of_runs (r.range.end + 1) rs else None

-- the number past the last one
abbrev pub next_of : Option ℕ → ℕ
next_of None = 0
next_of (Some last) = last + 1

-- the range from behind the last one up to a code point
abbrev pub up_to : Option ℕ → ℕ → CodePointRange
up_to last end = record { start = next_of last; end = end }
