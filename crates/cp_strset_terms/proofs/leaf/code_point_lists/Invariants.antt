use Rattle.std.proofs.Common.{◌≡◌, map, take}
use Rattle.cp_strset_terms.specs.Leaves.{code_points_of}
use Rattle.cp_strset_terms.proofs.leaf.code_point_lists.Given as goal

abbrev pub invariant-loop-leaf : goal.invariant-loop-leaf
invariant-loop-leaf l = map (λ list. list.now) l.lists.items ≡ map code_points_of (take l.leaf-index l.leaves)
