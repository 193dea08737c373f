-- What a window says further on.
use Rattle.std.proofs.Common.{ℕ, ◌≤◌, List, arith}
use Rattle.cp_invlist.specs.Windows.{IsWindow}
use Rattle.cp_invlist.specs.declared.window.Window.{Window}

-- a window is one from each later place on
pub window_later : (xs : List ℕ) (place later : ℕ) (window : Window) → place ≤ later → IsWindow xs place window → IsWindow xs later window
window_later xs place later window le is = record {
  within = is.within;
  before = λ k d lt. omega (arith, is.before k d lt);
  behind = is.behind;
}
