-- How many members a set has.
use Rattle.std.specs.Prelude.{◌≡◌, ℕ, zero, suc, ◌+◌, ◌-◌, Bool, if◌then◌else◌, List, sum_by}
use Rattle.cp_invlist.specs.declared.ranges.CodePointRange.{CodePointRange}

-- how many numbers below n pass the test
unfoldable pub count_members : (ℕ → Bool) → ℕ → ℕ
count_members m zero = 0
count_members m (suc n) = (if m n then 1 else 0) + count_members m n

-- how many numbers a range from its start up to its end has
abbrev pub range_size : CodePointRange → ℕ
range_size r = r.end - r.start + 1

-- so many numbers are in the ranges together
abbrev pub SumsTo : List CodePointRange → ℕ → Type 0
SumsTo rs n = n ≡ sum_by range_size rs
