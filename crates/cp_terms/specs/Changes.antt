-- The changes of a set that is written in the order of code points.
use Rattle.std.specs.Prelude.{◌≡◌, ℕ, ◌+◌, ◌<◌, ◌≤◌, Bool, ◌&&◌, All, map, List}
use Rattle.std.specs.Borrow.{Bor}
use Rattle.cp_invlist.specs.InversionList.{contains, differ, is_code_point}
use Rattle.cp_invlist.specs.declared.set.CodePointInversionList.{CodePointInversionList}
use Rattle.cp_terms.specs.declared.step.Step.{Step}
use Rattle.cp_terms.specs.Terms.{value_of, holds_at}

-- the changes lie before the place
abbrev pub AreBefore : ℕ → List ℕ → Type 0
AreBefore place changes = All (λ x. x < place) changes

-- below the place the changes tell the members
pub record TellBelow (m : ℕ → Bool) (place : ℕ) (changes : List ℕ) : Type 0 where
  pub told : (c : ℕ) → c < place → contains changes c ≡ m c

-- from the place up to the end all code points are members or none is
abbrev pub IsConstant : (ℕ → Bool) → ℕ → ℕ → Bool → Type 0
IsConstant m place end inside = (c : ℕ) → place ≤ c → c < end → m c ≡ inside

-- the members of the set that the steps make
abbrev pub members_of : List (Bor CodePointInversionList) → List Step → ℕ → Bool
members_of sets ss c = is_code_point c && value_of (holds_at (map (λ s. s.now) sets) c) ss

-- On a stretch the members are those that the steps make.
abbrev pub AreMade : List (Bor CodePointInversionList) → ℕ → List Step → (ℕ → Bool) → Type 0
AreMade sets start ss m = (c : ℕ) → start ≤ c → c < start + 0x4000 →
    m c ≡ value_of (holds_at (map (λ s. s.now) sets) c) ss

-- On a stretch the members are those of the set with the index, or where it is complemented the others.
abbrev pub AreOfSet : List (Bor CodePointInversionList) → ℕ → ℕ → Bool → (ℕ → Bool) → Type 0
AreOfSet sets start index complemented m = (c : ℕ) → start ≤ c → c < start + 0x4000 →
    m c ≡ differ complemented (holds_at (map (λ s. s.now) sets) c index)
