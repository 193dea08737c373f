-- What is known of sets from a place on.
use Rattle.std.specs.Prelude.{◌≡◌, ℕ, ◌+◌, ◌%◌, ◌≤◌, List, Some, length, slice_get}
use Rattle.std.specs.Borrow.{Bor}
use Rattle.cp_invlist.specs.declared.set.CodePointInversionList.{CodePointInversionList}
use Rattle.cp_invlist.specs.Windows.{IsWindow}
use Rattle.cp_invlist.specs.declared.window.Window.{Window}

-- the set with the index has its window
abbrev pub HasWindow : List (Bor CodePointInversionList) → ℕ → List Window → ℕ → Type 0
HasWindow sets place windows i = (set : Bor CodePointInversionList) (window : Window) →
    slice_get sets i ≡ Some set → slice_get windows i ≡ Some window → IsWindow set.now place window

-- each set has its window
abbrev pub AreWindows : List (Bor CodePointInversionList) → ℕ → List Window → Type 0
AreWindows sets place windows = (i : ℕ) → HasWindow sets place windows i

-- On a stretch from the start on, which is one of words, each set has its window.
pub record AreKnown (sets : List (Bor CodePointInversionList)) (windows : List Window) (start : ℕ) : Type 0 where
  pub within : start + 0x4000 ≤ 0x110000
  pub aligned : start % 64 ≡ 0
  pub one_each : length windows ≡ length sets
  pub there : AreWindows sets start windows
