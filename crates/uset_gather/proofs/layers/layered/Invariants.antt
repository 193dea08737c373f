use Rattle.std.proofs.Common.{◌≡◌, ℕ, Bool, reverse, length}
use Rattle.uset_gather.specs.Painting.{painted, painted_alike, behind_all}
use Rattle.uset_gather.proofs.layers.layered.Given as goal

-- what is still to come, over what the layers and the run make, is what all ranges make
abbrev pub invariant-to_come : goal.invariant-to_come
invariant-to_come l = (c : ℕ) (b : Bool) →
    painted (reverse l.ranges.items) c (painted_alike l.run l.member c (behind_all l.layers.items c b)) ≡ painted l.fn.ranges.items c b

abbrev pub decreases-to_come : goal.decreases-to_come
decreases-to_come l = length l.ranges.items
