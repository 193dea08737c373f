use Rattle.std.proofs.Common.{◌≡◌, ◌<◌, ℕ, true, All, Some, List}
use Rattle.std.specs.List.{flat_map, slice_get}
use Rattle.cp_strset.specs.StringList.{holds}
use Rattle.cp_strset_terms.specs.Leaves.{leaf_holds, strings_of, FitsNumbers}
use Rattle.cp_strset_terms.proofs.candidates.marked_leaves.Given as goal

abbrev pub invariant-loop-index : goal.invariant-loop-index
invariant-loop-index l =
    ((bytes : List ℕ) (index : ℕ) → index < l.index → slice_get l.marks index ≡ Some true → leaf_holds l.leaves bytes index ≡ true →
    holds (flat_map strings_of l.marked.items) bytes ≡ true)
    × ((all : List (List ℕ)) → All (FitsNumbers all) l.leaves → All (FitsNumbers all) l.marked.items)
