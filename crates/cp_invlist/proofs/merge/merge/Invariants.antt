use Rattle.std.proofs.Common.{◌≡◌, ◌+◌, length}
use Rattle.cp_invlist.proofs.MergeLemmas.{Walks}
use Rattle.cp_invlist.proofs.merge.merge.Given as goal

abbrev pub invariant-elements : goal.invariant-elements
invariant-elements g l = record {
  walk : Walks l.operation l.first l.second l.left.rest.now l.right.rest.now l.merged.items l.left.inside l.right.inside;
  cost : l.steps + (length l.left.rest.now + length l.right.rest.now) ≡ l.fn.steps + (length l.first + length l.second);
}

abbrev pub decreases-elements : goal.decreases-elements
decreases-elements g l = length l.left.rest.now + length l.right.rest.now
