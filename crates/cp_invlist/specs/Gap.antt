-- What the walk over the gaps of a set keeps.
use Rattle.std.specs.Prelude.{◌≡◌, ℕ, suc, ◌≤◌, true, List}
use Rattle.cp_invlist.specs.InversionList.{ascends_from, has_even_length}

-- the elements spell ranges, and the first starts above the number
pub record IsGapBefore (n : ℕ) (xs : List ℕ) : Type 0 where
  pub within : n ≤ 0x11_0000
  pub ascends : ascends_from (suc n) xs ≡ true
  pub even : has_even_length xs ≡ true
