-- Laws of inversion lists and of maximal ranges, over the definitions alone.
use Rattle.std.specs.Prelude.{◌≡◌, ◌≤◌, ◌-◌, ◌&&◌, ◌↔◌, ℕ, Bool, false, None, Some, List, length}
use Rattle.std.specs.List.{slice_get}
use Rattle.cp_invlist.specs.Fault.{fault_of, IsFirstFault}
use Rattle.cp_invlist.specs.InversionList.{contains, is_code_point, IsInversionList, HaveSameMembers}
use Rattle.cp_invlist.specs.Ranges.{in_ranges, AreMaximalRanges}
use Rattle.cp_invlist.specs.declared.ranges.CodePointRange.{CodePointRange}

-- Two inversion lists with the same members are the same list.
abbrev pub OneListOfMembers : Type 0
OneListOfMembers = (xs ys : List ℕ) → IsInversionList xs → IsInversionList ys → HaveSameMembers xs ys → xs ≡ ys

-- The fault of a list is its first.
abbrev pub FaultsAreFirst : Type 0
FaultsAreFirst = (xs : List ℕ) (index : ℕ) → (fault_of xs ≡ Some index) ↔ IsFirstFault xs index

-- The inversion lists are the lists without a fault.
abbrev pub FaultlessAreInversionLists : Type 0
FaultlessAreInversionLists = (xs : List ℕ) → (fault_of xs ≡ None) ↔ IsInversionList xs

-- The members of an inversion list are code points.
abbrev pub MembersAreCodePoints : Type 0
MembersAreCodePoints = (xs : List ℕ) (c : ℕ) → IsInversionList xs → (contains xs c && is_code_point c) ≡ contains xs c

-- No number from the last element of an inversion list on is a member.
abbrev pub MembersAreBelowTheLast : Type 0
MembersAreBelowTheLast = (xs : List ℕ) (last c : ℕ) → IsInversionList xs →
    slice_get xs (length xs - 1) ≡ Some last → last ≤ c → contains xs c ≡ false

-- A set has one list of maximal ranges.
abbrev pub OneListOfRanges : Type 0
OneListOfRanges = (m : ℕ → Bool) (rs qs : List CodePointRange) → AreMaximalRanges m rs → AreMaximalRanges m qs → rs ≡ qs

-- The maximal ranges of a set hold its members, and no other number.
abbrev pub RangesHoldMembers : Type 0
RangesHoldMembers = (m : ℕ → Bool) (rs : List CodePointRange) → AreMaximalRanges m rs → (c : ℕ) → in_ranges rs c ≡ m c
