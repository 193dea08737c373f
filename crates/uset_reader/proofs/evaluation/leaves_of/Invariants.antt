use Rattle.std.proofs.Common.{◌≡◌, ℕ, List, map, take}
use Rattle.std.specs.Prelude.{All}
use Rattle.cp_invlist.specs.InversionList.{IsInversionList}
use Rattle.cp_strset_terms.specs.Leaves.{code_points_of, FitsNumbers}
use Rattle.uset_reader.specs.Evaluation.{lists_of_leaf, lists_of_found, FoundFits}
use Rattle.uset_reader.proofs.evaluation.leaves_of.Given as goal

abbrev pub invariant-loop-set : goal.invariant-loop-set
invariant-loop-set l =
    (map lists_of_leaf l.leaves.items ≡ map lists_of_found (take l.set-index l.found)) × All (λ leaf. IsInversionList (code_points_of leaf)) l.leaves.items × ((all : List (List ℕ)) → All (FoundFits all) l.found → All (FitsNumbers all) l.leaves.items)
