use Rattle.std.proofs.Common.{◌≡◌, ℕ, Bool, length}
use Rattle.uset_gather.specs.Painting.{behind, behind_all}
use Rattle.uset_gather.proofs.layers.push.Given as goal

abbrev pub invariant-loop-lower : goal.invariant-loop-lower
invariant-loop-lower l = (c : ℕ) (b : Bool) → behind l.top c (behind_all l.layers.items c b) ≡ behind l.fn.layer c (behind_all l.fn.layers.items c b)

abbrev pub decreases-loop-lower : goal.decreases-loop-lower
decreases-loop-lower l = length l.layers.items
