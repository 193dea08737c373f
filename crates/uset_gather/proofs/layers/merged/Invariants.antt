use Rattle.std.proofs.Common.{◌≡◌, ℕ, Bool, length}
use Rattle.uset_gather.specs.Painting.{behind, behind_all}
use Rattle.uset_gather.proofs.layers.merged.Given as goal

abbrev pub invariant-loop-below : goal.invariant-loop-below
invariant-loop-below l = (c : ℕ) (b : Bool) → behind l.top c (behind_all l.layers.items c b) ≡ behind l.fn.last c (behind_all l.fn.layers.items c b)

abbrev pub decreases-loop-below : goal.decreases-loop-below
decreases-loop-below l = length l.layers.items
