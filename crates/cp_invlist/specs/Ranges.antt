-- Ranges of code points, both ends included, and the maximal ranges of a set.
use Rattle.std.specs.Prelude.{◌≡◌, ℕ, ◌+◌, ◌-◌, ◌<◌, ◌≤◌, Bool, true, false, ◌&&◌, nat_le, not, if◌then◌else◌, List, [], ◌∷◌}
use Rattle.std.specs.List.{list_any}
use Rattle.cp_invlist.specs.InversionList.{is_code_point, contains}
use Rattle.cp_invlist.specs.declared.ranges.CodePointRange.{CodePointRange}

-- the number lies in the range
abbrev pub in_range : CodePointRange → ℕ → Bool
in_range r c = nat_le r.start c && nat_le c r.end

-- the number lies in the range and is a code point
abbrev pub in_code_points : CodePointRange → ℕ → Bool
in_code_points r c = in_range r c && is_code_point c

-- the number lies in one of the ranges
abbrev pub in_ranges : List CodePointRange → ℕ → Bool
in_ranges rs c = list_any (λ r. in_range r c) rs

-- The maximal ranges of a set from a number on, in order: up to the first range nothing is a member, all its numbers are, the
-- number behind it is none, and from there on it goes on so.
abbrev pub AreRangesFrom : (ℕ → Bool) → ℕ → List CodePointRange → Type 0
AreRangesFrom m n [] = (c : ℕ) → n ≤ c → m c ≡ false
AreRangesFrom m n (r ∷ rs) =
    (n ≤ r.start)
    × (r.start ≤ r.end)
    × ((c : ℕ) → n ≤ c → c < r.start → m c ≡ false)
    × ((c : ℕ) → r.start ≤ c → c ≤ r.end → m c ≡ true)
    × (m (r.end + 1) ≡ false)
    × AreRangesFrom m (r.end + 1) rs

-- all maximal ranges of a set, in order
abbrev pub AreMaximalRanges : (ℕ → Bool) → List CodePointRange → Type 0
AreMaximalRanges m rs = AreRangesFrom m 0 rs

-- the ranges that an inversion list spells
abbrev pub ranges_of : List ℕ → List CodePointRange
ranges_of [] = []
ranges_of (a ∷ []) = []
ranges_of (a ∷ b ∷ xs) = record { start = a; end = b - 1 } ∷ ranges_of xs

-- a code point that is no member
abbrev pub is_outside : List ℕ → ℕ → Bool
is_outside xs c = is_code_point c && not (contains xs c)

-- the code points from a number on, as at most one range
abbrev pub last_gap : ℕ → List CodePointRange
last_gap n = if nat_le n 0x10_FFFF then record { start = n; end = 0x10_FFFF } ∷ [] else []

-- The ranges between those that an inversion list spells, where its first range starts above the number.
abbrev pub gaps_from : ℕ → List ℕ → List CodePointRange
gaps_from n [] = last_gap n
gaps_from n (a ∷ []) = last_gap n
gaps_from n (a ∷ b ∷ xs) = record { start = n; end = a - 1 } ∷ gaps_from b xs
