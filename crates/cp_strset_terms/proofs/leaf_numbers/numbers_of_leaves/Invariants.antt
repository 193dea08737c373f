use Rattle.std.proofs.Common.{◌≡◌, ℕ, List, length, take}
use Rattle.cp_strset_terms.specs.LeafNumbers.{has_number_at}
use Rattle.cp_strset_terms.specs.Leaves.{leaf_holds}
use Rattle.cp_strset_terms.specs.Places.{IsAt}
use Rattle.cp_strset_terms.proofs.leaf_numbers.numbers_of_leaves.Given as goal

abbrev pub invariant-loop-leaf : goal.invariant-loop-leaf
invariant-loop-leaf l =
    (length l.numbers.items ≡ l.leaf-index)
    × ((number : ℕ) (text : List ℕ) → IsAt l.all number text →
    (index : ℕ) → has_number_at l.numbers.items number index ≡ leaf_holds (take l.leaf-index l.leaves) text index)
