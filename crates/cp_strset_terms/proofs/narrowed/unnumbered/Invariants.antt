use Rattle.std.proofs.Common.{◌≡◌, ℕ, true, false, All, List, take}
use Rattle.std.specs.List.{flat_map}
use Rattle.cp_strset.specs.StringList.{holds}
use Rattle.cp_strset_terms.specs.Leaves.{strings_of, FitsNumbers}
use Rattle.cp_strset_terms.proofs.narrowed.unnumbered.Given as goal

abbrev pub invariant-loop-leaf : goal.invariant-loop-leaf
invariant-loop-leaf l = (all : List (List ℕ)) (bytes : List ℕ) → All (FitsNumbers all) l.leaves → holds all bytes ≡ false →
    holds (flat_map strings_of (take l.leaf-index l.leaves)) bytes ≡ true → holds (flat_map strings_of l.rest.items) bytes ≡ true
