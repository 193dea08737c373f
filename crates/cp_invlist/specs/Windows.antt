-- What is known of a set from a place on.
use Rattle.std.specs.Prelude.{◌≡◌, ℕ, ◌<◌, ◌≤◌, ◌%◌, ◌==◌, Bool, true, List, ◌++◌, All, take, drop, length}
use Rattle.cp_invlist.specs.InversionList.{ascends_from}
use Rattle.cp_invlist.specs.declared.window.Window.{Window}

-- the elements that are counted are at most the place, and the others at least the next
pub record IsWindow (xs : List ℕ) (place : ℕ) (window : Window) : Type 0 where
  pub within : window.taken ≤ length xs
  pub before : All (λ x. x ≤ place) (take window.taken xs)
  pub behind : All (λ x. window.next ≤ x) (drop window.taken xs)

-- there is an odd number of elements in front
abbrev pub is_inside : Window → Bool
is_inside window = window.taken % 2 == 1

-- of the elements that are left, these lie before the end, and the others don't
pub record AreLeftBefore (xs : List ℕ) (taken end : ℕ) (part : List ℕ) : Type 0 where
  pub ascends : ascends_from 0 part ≡ true
  pub others : List ℕ
  pub split : drop taken xs ≡ part ++ others
  pub before : All (λ x. x < end) part
  pub behind : All (λ x. end ≤ x) others
